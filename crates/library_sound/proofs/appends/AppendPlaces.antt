-- Where a text is appended: the offset of its first byte, those of its bytes, and its lengths.
use Rattle.std.proofs.Common.{◌≡◌, ℕ, ◌+◌, ◌-◌, ◌^◌, ◌≤◌, true, false, Option, Some, None, arith, subst, sym, refl, ◌∙◌, inl, inr}
use Rattle.std.specs.Prelude.{ℤ, pos, negsuc, ◌+ℤ◌, ◌-ℤ◌, ◌≤ℤ◌, int_lt, nat_lt, nat_le, min, max}
use Rattle.std.proofs.lemmas.Int.{ints}
use Rattle.std.proofs.lemmas.Bool.{cases_Bool, ltb-true, le-leb}
use Rattle.cc_base.specs.Lattices.{LatticeOf, OrderLaws}
use Rattle.cc_base.specs.IntegerDomains.{IntegersOf, BoundLaws}
use Rattle.cc_base.specs.NumberRanges.{Range, upper_or}
use Rattle.cfg.specs.declared.programs.Flow.{Flow}
use Rattle.pointer_domain.specs.PointerTables.{offsets}
use Rattle.pointer_domain.specs.declared.pointer_sets.Pointers.{Pointers}
use Rattle.domain_theorems.proofs.values.Numbers.{RangeHas, bounds_have, met_has, of_range_stands, sum_has, upper_above}
use Rattle.store_cells.specs.declared.access_windows.Window.{Window}
use Rattle.store_cells.specs.AccessWindows.{window_between, window_within}
use Rattle.transfer_library.specs.MemoryCalls.{lower_of}
use Rattle.transfer_library.specs.StringCalls.{less_one, window_from_place, window_from_offset, window_behind, most_appended, one_more, append_start, appended}
use Rattle.memory_model.specs.Memory.Instances.{Memory}
use Rattle.store_sound.specs.Concretization.SoundMemory.{IsMemoryOf, IsWithin}
use Rattle.store_sound.specs.Concretization.ValueMeaning.{Naming, InGammaInto}
use Rattle.store_sound.proofs.operations.Windows.{WindowHas, within_has}
use Rattle.store_sound.proofs.operations.Windows as windows
use Rattle.library_sound.proofs.fills.Targets.{sat_above}
use Rattle.library_sound.proofs.appends.AppendRules.{added_has}

-- ---- windows

seen_range : (r : Range) (z : ℤ) → RangeHas r z → windows.RangeHas r z
seen_range None z h = absurd h
seen_range (Some p) z h = record { low = p.0; high = p.1; is = refl; from = h.0; to = h.1 }

module _ (w : Window) (x : ℕ) (from : w.lo ≤ x) (to : x ≤ w.hi) (small : x ≤ 2 ^ 64 - 1) where
  place_has : (lo : ℤ) → lo ≤ℤ pos x → int_lt lo (pos 0) ≡ false → WindowHas (window_from_place w lo) x
  place_has (negsuc k) h e = let g : int_lt (negsuc k) (pos 0) ≡ true = grind (arith, ints) in let f : true ≡ false = sym g ∙ e in cc
  place_has (pos lo) h e = elim (cases_Bool (nat_lt (2 ^ 64 - 1) lo)) [
    | inl f ↦ (let g = ltb-true (2 ^ 64 - 1) lo f in absurd (omega (arith, ints, g, h, small)))
    | inr f ↦ (let g : nat_le (max w.lo lo) (min w.hi (2 ^ 64 - 1)) ≡ true = le-leb (max w.lo lo) (min w.hi (2 ^ 64 - 1)) (omega (arith, ints, from, to, small, h)) in
        record { window = window_between (max w.lo lo) (min w.hi (2 ^ 64 - 1)); is = rw (f, g) refl; from = omega (arith, ints, from, h); to = omega (arith, to, small) })
  ]

  offset_has : (lo : ℤ) → lo ≤ℤ pos x → WindowHas (window_from_offset w lo) x
  offset_has lo h = elim (cases_Bool (int_lt lo (pos 0))) [
    | inl e ↦ rw e (record { window = w; is = refl; from = from; to = to })
    | inr e ↦ rw e (place_has lo h e)
  ]

-- from an offset that is no later
pub behind_has : (w : Option Window) (r : Range) (k x : ℕ) → WindowHas w x → RangeHas r (pos k) → k ≤ x → x ≤ 2 ^ 64 - 1 → WindowHas (window_behind w r) x
behind_has None r k x h g less small = let e = h.is in cc
behind_has (Some w) None k x h g less small = absurd g
behind_has (Some w) (Some p) k x h g less small =
    let same : w ≡ h.window = cc h.is in
    let a = g.0 in
    offset_has w x (subst (λ v. v.lo ≤ x) (sym same) h.from) (subst (λ v. x ≤ v.hi) (sym same) h.to) small p.0 (omega (arith, ints, a, less))

-- ---- lengths

lower_below : (x : Range) (z : ℤ) → RangeHas x z → lower_of x ≤ℤ z
lower_below None z h = absurd h
lower_below (Some x) z h = h.0

module _ {I : Type 0} {l : LatticeOf I} {n : IntegersOf I} {gamma : I → ℤ → Type 0} (o : OrderLaws l) (q : BoundLaws l n gamma) where
  pub more_has : (len : I) (t : ℕ) → gamma len (pos t) → t ≤ 2 ^ 64 → RangeHas (one_more n len) (pos (t + 1))
  more_has len t h small = added_has (n.bounds len) (Some (pos 1, pos 1)) t 1 (bounds_have q len (pos t) h) (omega (arith, ints), omega (arith, ints)) (omega (arith, small))

  -- a new text for which there is room behind the old one
  pub appended_stands : (there added : I) (cut : Range) (h t : ℕ) → gamma there (pos h) → gamma added (pos t) → RangeHas cut (pos ((h + t) + 1)) → (h + t) + 1 ≤ 2 ^ 66 → gamma (appended l n there added cut) (pos t)
  appended_stands there added cut h t sh st has small =
      let a = upper_above cut (pos ((h + t) + 1)) has in
      let b = lower_below (n.bounds there) (pos h) (bounds_have q there (pos h) sh) in
      let c = sat_above (upper_or (pos 0) cut -ℤ pos 1) (pos (h + t)) (omega (arith, ints, a)) (omega (arith, ints, small)) in
      let d : pos t ≤ℤ most_appended (n.bounds there) cut = sat_above (less_one (upper_or (pos 0) cut) -ℤ lower_of (n.bounds there)) (pos t) (omega (arith, ints, b, c)) (omega (arith, ints, small)) in
      of_range_stands q _ (pos t) (met_has (n.bounds added) (pos 0) (most_appended (n.bounds there) cut) (pos t) (bounds_have q added (pos t) st) (omega (arith, ints)) d)

  -- ---- the first byte

  module _ (flow : Flow) (naming : Naming) (memory : Memory) (sane : IsMemoryOf flow.model flow.bases.items naming memory) (p : Pointers I) (i offset lo hi : ℕ) (st : InGammaInto gamma naming memory p i offset lo hi) (inside : IsWithin memory i offset lo hi) where
    offsets_have : RangeHas (offsets n p) (pos offset)
    offsets_have =
        let g : (pos lo +ℤ (pos offset -ℤ pos lo)) ≡ pos offset = omega (arith, ints) in
        subst (RangeHas (offsets n p)) g (sum_has (n.bounds p.lo) (n.bounds p.rel) (pos lo) (pos offset -ℤ pos lo) (bounds_have q p.lo (pos lo) st.lower) (bounds_have q p.rel (pos offset -ℤ pos lo) st.relative))

    module _ (there : I) (h : ℕ) (sh : gamma there (pos h)) (less : offset + h ≤ hi) where
      pub start_range : RangeHas (append_start n p there) (pos (offset + h))
      start_range =
          let a = sane.small i in
          let b = inside.within in
          added_has (offsets n p) (n.bounds there) offset h offsets_have (bounds_have q there (pos h) sh) (omega (arith, less, a, b))

      pub append_starts : WindowHas (window_within (append_start n p there)) (offset + h)
      append_starts =
          let a = sane.small i in
          let b = inside.within in
          within_has (append_start n p there) (offset + h) (seen_range (append_start n p there) (pos (offset + h)) start_range) (omega (arith, less, a, b))
