-- The first zero of an array behind a text, from the length of the text.
use Rattle.std.proofs.Common.{◌≡◌, ℕ, ◌+◌, ◌-◌, ◌^◌, ◌<◌, ◌≤◌, Bool, true, false, not, ◌&&◌, Some, None, arith, subst, sym, refl, ap, ◌∙◌, inl, inr, int_eq}
use Rattle.std.specs.Prelude.{slice_get, ℤ, pos, ◌+ℤ◌, ◌≤ℤ◌, ◌<ℤ◌, int_le}
use Rattle.std.specs.Int.{int_min}
use Rattle.std.proofs.lemmas.Int.{ints, clamps}
use Rattle.std.proofs.lemmas.Bool.{cases_Bool, and_parts, cond_both, true≢false}
use Rattle.std.proofs.lemmas.Option.{slice_get_within}
use Rattle.cc_base.specs.Lattices.{LatticeOf, OrderLaws}
use Rattle.cc_base.specs.IntegerDomains.{IntegersOf, BoundLaws, IsNear}
use Rattle.cc_base.specs.NumberRanges.{Range}
use Rattle.c_layout.specs.declared.shapes.ZeroPart.{ZeroPart}
use Rattle.cfg.specs.declared.programs.Flow.{Flow}
use Rattle.value_domain.specs.Strings.FirstZeros.{the_end}
use Rattle.value_domain.specs.Strings.ZeroTables.{is_start, is_before, ends_text_behind, ends_text, in_three, text_at}
use Rattle.value_domain.specs.declared.strings.first_zeros.FirstZero.{FirstZero}
use Rattle.domain_theorems.specs.Values.ZeroMeaning.{WroteText}
use Rattle.domain_theorems.proofs.values.Numbers.{RangeHas, bounds_have, of_range_stands}
use Rattle.store_cells.specs.declared.access_windows.Window.{Window}
use Rattle.store_cells.specs.declared.first_zero_writes.ZeroTarget.{ZeroTarget}
use Rattle.store_cells.specs.FirstZeroWrites.{zero_target, offsets_of}
use Rattle.store_cells.specs.NearValues.{near_number}
use Rattle.memory_model.specs.Memory.Bytes.{Byte}
use Rattle.memory_model.specs.Memory.Instances.{Memory, bytes_at, byte_at}
use Rattle.store_sound.specs.Concretization.FirstZeroBytes.{end, character, seen_as, first_zero, zero_offset}
use Rattle.store_sound.specs.Concretization.SoundMemory.{IsMemoryOf}
use Rattle.store_sound.specs.Concretization.ValueMeaning.{Naming, InGammaZero}
use Rattle.store_sound.specs.Concretization.RowMeaning.{array_bytes}
use Rattle.store_sound.proofs.operations.Near.{near_number_from}
use Rattle.store_sound.proofs.operations.Slices.{get_there}
use Rattle.store_sound.proofs.operations.StoreZeros.{some_between}
use Rattle.store_sound.proofs.operations.TouchedRest.{near_stands}
use Rattle.store_sound.proofs.chars.ByteArrays.{IsIn, target_is, local_has, local_small}
use Rattle.store_sound.specs.Regions.RegionWrites.{IsRegion}
use Rattle.store_sound.proofs.regions.RegionArrays.{starts_in, before_in, array_short, array_before, array_there, IsText, wrote_text}

-- ---- the table

same_int : (x y : ℤ) → int_eq x y ≡ true → x ≡ y
same_int x y e = grind (arith, ints)

le_int : (x y : ℤ) → int_le x y ≡ true → x ≤ℤ y
le_int x y e = grind (arith, ints)

gt_int : (x y : ℤ) → int_le x y ≡ false → y <ℤ x
gt_int x y e = grind (arith, ints)

eq_self : (x y : ℤ) → x ≡ y → int_eq x y ≡ true
eq_self x y e = grind (arith, ints)

is_end_not : (x : ℤ) → int_eq x the_end ≡ false → x ≡ the_end → ⊥
is_end_not x e f = true≢false (sym (eq_self x the_end f) ∙ e)

less_end : (x : ℤ) → x ≤ℤ the_end → int_eq x the_end ≡ false → x <ℤ the_end
less_end x h e = let n = is_end_not x e in by_cases (int_le the_end x) refl
  where
    by_cases : (b : Bool) → int_le the_end x ≡ b → x <ℤ the_end
    by_cases true f = let g = le_int the_end x f in absurd (is_end_not x e (omega (arith, ints, g, h)))
    by_cases false f = gt_int the_end x f

not_flag : (b : Bool) → not b ≡ true → b ≡ false
not_flag true e = cc
not_flag false e = refl

text_range : (f o t : ℤ × ℤ) (a k j c : ℤ) → f.0 ≤ℤ a → a ≤ℤ f.1 → f.1 ≤ℤ the_end → pos 0 ≤ℤ o.0 → o.0 ≤ℤ k → k ≤ℤ o.1 → pos 0 ≤ℤ j → t.0 ≤ℤ j → j ≤ℤ t.1 → WroteText a k j c → RangeHas (Some (ends_text f o t)) c
text_range f o t a k j c f0 f1 fe oz o0 o1 jz t0 t1 w =
    let within = w.within in
    cond_both (is_start o) (int_min t.0 the_end, int_min t.1 the_end) (ends_text_behind f o t) (λ s. RangeHas (Some s) c)
    (λ e.
    let r = and_parts (int_eq o.0 (pos 0)) (int_eq o.1 (pos 0)) e in
    let top : o.1 ≡ pos 0 = same_int o.1 (pos 0) r.1 in
    let i = w.start (omega (arith, ints, oz, o0, o1, top)) in
    (omega (arith, ints, clamps, i, t0), omega (arith, ints, clamps, i, t1, within)))
    (λ e. cond_both (int_eq o.0 o.1 && is_before f o) (int_min (o.0 +ℤ t.0) the_end, int_min (o.1 +ℤ t.1) the_end) (int_min f.0 o.0, the_end) (λ s. RangeHas (Some s) c)
    (λ d.
    let u = and_parts (int_eq o.0 o.1) (is_before f o) d in
    let v = and_parts (int_le o.1 f.0) (not (int_eq f.1 the_end)) u.1 in
    let same : o.0 ≡ o.1 = same_int o.0 o.1 u.0 in
    let before : o.1 ≤ℤ f.0 = le_int o.1 f.0 v.0 in
    let high : f.1 <ℤ the_end = less_end f.1 fe (not_flag (int_eq f.1 the_end) v.1) in
    let less : a <ℤ the_end = omega (arith, ints, high, f1) in
    let i = w.behind (omega (arith, ints, o1, before, f0)) less in
    (omega (arith, ints, clamps, i, o0, t0), omega (arith, ints, clamps, i, o1, t1, within)))
    (λ d. (lowest, within)))
  where
    lowest : int_min f.0 o.0 ≤ℤ c
    lowest = elim (cases_Bool (int_eq a the_end)) [
      | inl e ↦ (let same : a ≡ the_end = same_int a the_end e in elim (w.none same) [
        | inl i ↦ omega (arith, ints, clamps, i, o0, jz)
        | inr i ↦ omega (arith, ints, clamps, i, f0, same)
      ])
      | inr e ↦ elim (cases_Bool (int_le k a)) [
        | inl g ↦ (let less : a <ℤ the_end = less_end a (omega (arith, ints, f1, fe)) e in
            let up : k ≤ℤ a = le_int k a g in
            let i = w.behind up less in
            omega (arith, ints, clamps, i, o0, jz))
        | inr g ↦ (let down : a <ℤ k = gt_int k a g in let i = w.before down in omega (arith, ints, clamps, i, f0))
      ]
    ]

module _ {I : Type 0} {l : LatticeOf I} {n : IntegersOf I} {gamma : I → ℤ → Type 0} (o : OrderLaws l) (q : BoundLaws l n gamma) where
  near_end : (x : Range) (a : ℤ) → IsNear x → RangeHas x a → (y : ℤ × ℤ) × (x ≡ Some y) × (y.0 ≤ℤ a) × (a ≤ℤ y.1) × (y.1 ≤ℤ the_end)
  near_end None a h g = absurd g
  near_end (Some y) a h g = let t = h in (y, refl, g.0, g.1, omega (arith, ints, t))

  offsets_are : (w : Window) → w.lo ≤ w.hi → w.hi ≤ 2 ^ 64 - 1 → n.bounds (offsets_of l n w) ≡ Some (pos w.lo, pos w.hi)
  offsets_are w h k =
      let b = q.between_bounds (pos w.lo) (pos w.hi) (omega (arith, ints, h)) in
      let e = some_between o q (pos w.lo) (pos w.hi) (omega (arith, ints, h)) in
      ap n.bounds (ap (near_number l n) e ∙ near_number_from o q (n.between (pos w.lo) (pos w.hi)) (pos w.lo) (pos w.hi) b (omega (arith, ints)) (omega (arith, ints, k))) ∙ b

  some_has : (x : Range) (j : ℤ) → RangeHas x j → (y : ℤ × ℤ) × (x ≡ Some y) × (y.0 ≤ℤ j) × (j ≤ℤ y.1)
  some_has None j h = absurd h
  some_has (Some y) j h = (y, refl, h.0, h.1)

  text_stands_at : (f : FirstZero I) (w : Window) (len : I) (a c : ℤ) (k t : ℕ) → IsNear (n.bounds f.at) → gamma f.at a → w.lo ≤ k → k ≤ w.hi → w.hi ≤ 2 ^ 64 - 1 → gamma len (pos t) → WroteText a (pos k) (pos t) c → gamma (text_at l n f (offsets_of l n w) len).at c
  text_stands_at f w len a c k t near sf from to small st wrote =
      let x = near_end (n.bounds f.at) a near (bounds_have q f.at a sf) in
      let y = offsets_are w (omega (arith, from, to)) small in
      let z = some_has (n.bounds len) (pos t) (bounds_have q len (pos t) st) in
      let has = text_range x.0 (pos w.lo, pos w.hi) z.0 a (pos k) (pos t) c x.2 x.3 x.4 (omega (arith, ints)) (omega (arith, ints, from)) (omega (arith, ints, to)) (omega (arith, ints)) z.2 z.3 wrote in
      of_range_stands q (in_three ends_text (n.bounds f.at) (n.bounds (offsets_of l n w)) (n.bounds len)) c
      (subst (λ r. RangeHas (in_three ends_text r (n.bounds (offsets_of l n w)) (n.bounds len)) c) (sym x.1)
      (subst (λ r. RangeHas (in_three ends_text (Some x.0) r (n.bounds len)) c) (sym y)
      (subst (λ r. RangeHas (in_three ends_text (Some x.0) (Some (pos w.lo, pos w.hi)) r) c) (sym z.1) has)))

  -- ---- an array that has all of the text

  module _ (flow : Flow) (naming : Naming) {old new : Memory} {i offset t : ℕ} (s : IsRegion old new i offset (t + 1)) (sane : IsMemoryOf flow.model flow.bases.items naming new) (start : Window) (first : start.lo ≤ offset) (last : offset ≤ start.hi)
      (text : (x : ℕ) (b : Byte) → x < t → byte_at new i (offset + x) ≡ Some b → seen_as b.content ≡ character) (closed : (b : Byte) → byte_at new i (offset + t) ≡ Some b → seen_as b.content ≡ end) (len : I) (counted : gamma len (pos t)) where
    pub text_rule : (part : ZeroPart) (target : ZeroTarget) (f : FirstZero I) → zero_target part start ≡ Some target → IsIn part.size part.offset offset → IsIn part.size part.offset (offset + ((t + 1) - 1)) → IsNear (n.bounds f.at)
        → InGammaZero gamma naming old f (array_bytes part (bytes_at old i)) → InGammaZero gamma naming new (text_at l n f (offsets_of l n target.local) (near_number l n len)) (array_bytes part (bytes_at new i))
    unfolding byte_at
    text_rule part target f found inside ends near h =
        let from = starts_in part.size part.offset offset inside in
        let fits = s.fits in
        let same = s.lengths i in
        let small = sane.small i in
        let place : ℕ = offset - part.offset in
        let place_is : part.offset + place ≡ offset = omega (arith, from) in
        let target_of = target_is part start target found in
        let in_local = local_has part start target offset target_of inside first last (omega (arith, fits, same, small)) in
        let short = array_short part (bytes_at old i) in
        let long = array_short part (bytes_at new i) in
        let was = get_there (bytes_at old i) offset (omega (arith, fits)) in
        let there = array_there s part old place was.0 (subst (IsIn part.size part.offset) (sym place_is) inside) (subst (λ z. byte_at old i z ≡ Some was.0) (sym place_is) was.1) in
        let in_old = slice_get_within (array_bytes part (bytes_at old i)) place was.0 there in
        let at : (x : ℕ) → x ≤ t → (b : Byte) × (byte_at new i (offset + x) ≡ Some b) × (slice_get (array_bytes part (bytes_at new i)) (place + x) ≡ Some b) = λ x less.
        let b = get_there (bytes_at new i) (offset + x) (omega (arith, fits, same, less)) in
        let shifted : offset + x ≡ part.offset + (place + x) = omega (arith, from) in
        (b.0, b.1, array_there s part new (place + x) b.0 (subst (IsIn part.size part.offset) shifted (before_in part.size part.offset (offset + ((t + 1) - 1)) (offset + x) ends (omega (arith, from)) (omega (arith, less)))) (subst (λ z. byte_at new i z ≡ Some b.0) shifted b.1)) in
        let is_text : IsText (array_bytes part (bytes_at new i)) place t = record {
          characters = λ j less. let r = at j (omega (arith, less)) in (r.0, r.2, text j r.0 less r.1);
          closed = let r = at t (omega arith) in (r.0, r.2, closed r.0 r.1);
        } in
        let wrote = wrote_text (array_bytes part (bytes_at old i)) (array_bytes part (bytes_at new i)) place t (λ j less. sym (array_before s part j (omega (arith, less, from)))) is_text in_old (omega (arith, short, same, small)) (omega (arith, long, small)) in
        text_stands_at f target.local (near_number l n len) (zero_offset (first_zero (array_bytes part (bytes_at old i)))) (zero_offset (first_zero (array_bytes part (bytes_at new i)))) place t near h in_local.0 in_local.1 (local_small part start target target_of)
        (near_stands o q len (pos t) (omega (arith, ints)) (omega (arith, ints, fits, same, small)) counted) wrote
