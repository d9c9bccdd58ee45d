-- Where a write begins, and the arrays that its bytes meet.
use Rattle.std.specs.Prelude.{◌≡◌, ℕ, ◌≤◌, min, max, Bool, true, false, cond, ◌&&◌, nat_le, ◌||◌, ◌⊎◌, Option, Some, None, is_some, refl}
use Rattle.std.proofs.Common.{◌∙◌, arith, ap, inl, inr, subst, sym}
use Rattle.std.proofs.lemmas.Bool.{and_parts, and_from, or_cases, leb-true, leb-false}
use Rattle.cc_base.specs.Lattices.{LatticeOf}
use Rattle.cc_base.specs.IntegerDomains.{IntegersOf}
use Rattle.c_layout.specs.declared.shapes.ZeroPart.{ZeroPart}
use Rattle.domain_theorems.proofs.values.Flags.{Sets, or_left, or_right}
use Rattle.store_cells.specs.declared.access_windows.Window.{Window}
use Rattle.store_cells.specs.declared.first_zero_writes.ZeroTarget.{ZeroTarget}
use Rattle.store_cells.specs.AccessWindows.{window_between}
use Rattle.store_cells.specs.FirstZeroWrites.{last_of, has_no_bytes, target_at, zero_target}
use Rattle.store_monotone.specs.Operations.Placements.{WindowWithin}
use Rattle.store_monotone.proofs.operations.ZeroTargets.{TargetBelow, target_monotone}
use Rattle.transfer_library_writes.specs.TextWrites.{is_whole, lies_in_array, text_lies_in_array}
use Rattle.transfer_library_writes.specs.declared.text_writes.ZeroRule.{ZeroRule}
use Rattle.transfer_library_writes.specs.declared.text_writes.ZeroRule.TheVariants.{Text, Append, Any}
use Rattle.system_monotone.specs.LibraryWrites.TextOrder.{RuleBelow}
use Rattle.system_monotone.proofs.library_writes.MetZeros.{IsNearTarget}

abbrev last : ZeroPart → ℕ
last part = last_of part.offset part.size

-- an array that has each offset at which a write begins is met by its bytes, of which the first is the first of these
met_from_start : (part : ZeroPart) (w x : Window) → x.lo ≡ w.lo → w.lo ≤ w.hi → x.lo ≤ x.hi → (f : ZeroTarget) → zero_target part w ≡ Some f → f.whole ≡ true → is_some (zero_target part x) ≡ true
met_from_start part w x e i j f g h = by_bytes (has_no_bytes part.size) g
  where
    within : (c : Bool) → target_at part w (cond c (Some (window_between (max w.lo part.offset) (min w.hi (last part)))) None) ≡ Some f → (nat_le part.offset w.lo && nat_le w.hi (last part)) ≡ true
    within true g = ap is_whole g ∙ h
    within false g = absurd (cc)

    by_met : (c : Bool) → nat_le (max x.lo part.offset) (min x.hi (last part)) ≡ c → (nat_le part.offset w.lo && nat_le w.hi (last part)) ≡ true → is_some (target_at part x (cond c (Some (window_between (max x.lo part.offset) (min x.hi (last part)))) None)) ≡ true
    by_met true q p = refl
    by_met false q p =
        let a = and_parts (nat_le part.offset w.lo) (nat_le w.hi (last part)) p in
        let c = leb-true part.offset w.lo a.0 in
        let d = leb-true w.hi (last part) a.1 in
        let z = leb-false (max x.lo part.offset) (min x.hi (last part)) q in
        absurd (omega arith)

    by_bytes : (none : Bool) → cond none None (target_at part w (cond (nat_le (max w.lo part.offset) (min w.hi (last part))) (Some (window_between (max w.lo part.offset) (min w.hi (last part)))) None)) ≡ Some f
        → is_some (cond none None (target_at part x (cond (nat_le (max x.lo part.offset) (min x.hi (last part))) (Some (window_between (max x.lo part.offset) (min x.hi (last part)))) None))) ≡ true
    by_bytes true g = absurd (cc)
    by_bytes false g = by_met (nat_le (max x.lo part.offset) (min x.hi (last part))) refl (within (nat_le (max w.lo part.offset) (min w.hi (last part))) g)

pub target_some : (t f : Option ZeroTarget) → TargetBelow t f → Sets (is_some t) (is_some f)
target_some None f j e = absurd (cc)
target_some (Some t) None j e = absurd j
target_some (Some t) (Some f) j e = refl

-- an array that is met by bytes at which a write may begin is met by the offsets where it may
start_met : (part : ZeroPart) (x w : Window) → WindowWithin x w → is_some (zero_target part x) ≡ true → is_some (zero_target part w) ≡ true
start_met part x w i = target_some (zero_target part x) (zero_target part w) (target_monotone part x w i)

-- ---- first zeros that are near

near_of : (f : Option ZeroTarget) → TargetBelow f f → IsNearTarget f
near_of None h = tt
near_of (Some t) h = h.0.near

pub target_near : (part : ZeroPart) (w u : Window) → WindowWithin w u → IsNearTarget (zero_target part u)
target_near part w u i =
    let j : WindowWithin u u = record { lo = omega arith; some = (let a = i.lo in let c = i.some in let d = i.hi in omega arith); hi = omega arith; near = i.near } in
    near_of (zero_target part u) (target_monotone part u u j)

pub start_near : (part : ZeroPart) (w u : Window) → WindowWithin w u → IsNearTarget (zero_target part w)
start_near part w u i = target_near part w w (record { lo = omega arith; some = i.some; hi = omega arith; near = (let a = i.hi in let c = i.near in omega arith) })

-- ---- writes to an array

whole_or : (inside : Bool) (t : ZeroTarget) (one : Bool) → lies_in_array one inside t ≡ true → (one ≡ true) ⊎ ((inside ≡ true) × (t.whole ≡ true))
whole_or inside t one h = elim (or_cases one (inside && t.whole) h) [ inl e ↦ inl e | inr e ↦ (let p = and_parts inside t.whole e in inr (p.0, p.1)) ]

-- what lies in an array and begins there has each byte there
begun_text : (one inside : Bool) (x : ZeroTarget) → lies_in_array one inside x ≡ true → (one || inside) ≡ true
begun_text one inside x h = elim (whole_or inside x one h) [ inl e ↦ or_left one inside e | inr e ↦ or_right one inside e.0 ]

whole_below : (x : ZeroTarget) (g : Option ZeroTarget) → TargetBelow (Some x) g → is_whole g ≡ true → x.whole ≡ true
whole_below x None h e = absurd h
whole_below x (Some y) h e = h.1 e

-- a smaller and a larger write, of their first offsets and of their bytes; the smaller one is from its first byte on
module _ (part : ZeroPart) (start larger_start window larger_window : Window) (begin : WindowWithin start larger_start) (bytes : WindowWithin window larger_window) (first : window.lo ≡ start.lo) (one more : Bool) (narrow : Sets more one) (single : one ≡ true → WindowWithin window start) where
  abbrev inside : Window → Bool
  inside w = is_whole (zero_target part w)

  -- where the larger one lies in the array, the smaller one does, if it meets it
  pub lies_too : is_some (zero_target part window) ≡ true → (t : ZeroTarget) → zero_target part larger_start ≡ Some t → lies_in_array more (inside larger_window) t ≡ true → (x : ZeroTarget) × (zero_target part start ≡ Some x) × (lies_in_array one (inside window) x ≡ true)
  lies_too met t d lies = elim (whole_or (inside larger_window) t more lies) [
    | inl e ↦ of_one (zero_target part start) refl (narrow e) (start_met part window start (single (narrow e)) met)
    | inr e ↦ of_whole (zero_target part start) refl (subst (λ y. TargetBelow (zero_target part start) y) d (target_monotone part start larger_start begin)) e.1 (whole_too (zero_target part window) (zero_target part larger_window) (target_monotone part window larger_window bytes) met e.0)
  ]
    where
      of_one : (f : Option ZeroTarget) → zero_target part start ≡ f → one ≡ true → is_some f ≡ true → (x : ZeroTarget) × (zero_target part start ≡ Some x) × (lies_in_array one (inside window) x ≡ true)
      of_one None e z m = absurd (cc)
      of_one (Some x) e z m = (x, e, or_left one (inside window && x.whole) z)

      whole_too : (f g : Option ZeroTarget) → TargetBelow f g → is_some f ≡ true → is_whole g ≡ true → is_whole f ≡ true
      whole_too None g h m e = absurd (cc)
      whole_too (Some f) None h m e = absurd h
      whole_too (Some f) (Some g) h m e = h.1 e

      of_whole : (f : Option ZeroTarget) → zero_target part start ≡ f → TargetBelow (zero_target part start) (Some t) → t.whole ≡ true → inside window ≡ true → (x : ZeroTarget) × (zero_target part start ≡ Some x) × (lies_in_array one (inside window) x ≡ true)
      of_whole None e h m z = absurd ((subst (λ y. TargetBelow y (Some t)) e h).0 m)
      of_whole (Some x) e h m z = (x, e, or_right one (inside window && x.whole) (and_from (inside window) x.whole z ((subst (λ y. TargetBelow y (Some t)) e h).1 m)))

  -- an array that has each offset at which the larger one begins is met by the smaller one
  pub met_too : (t : ZeroTarget) → zero_target part larger_start ≡ Some t → t.whole ≡ true → is_some (zero_target part window) ≡ true
  met_too t d whole = by_start (zero_target part start) refl (subst (λ y. TargetBelow (zero_target part start) y) d (target_monotone part start larger_start begin))
    where
      by_start : (f : Option ZeroTarget) → zero_target part start ≡ f → TargetBelow f (Some t) → is_some (zero_target part window) ≡ true
      by_start None e h = absurd (h.0 whole)
      by_start (Some x) e h = met_from_start part start window first begin.some bytes.some x e (h.1 whole)

  -- where a larger text lies in the array, a smaller one does, if it meets it
  module _ {I : Type 0} (l : LatticeOf I) (n : IntegersOf I) (met : is_some (zero_target part window) ≡ true) (t : ZeroTarget) (d : zero_target part larger_start ≡ Some t) where
    abbrev Lies : ZeroRule I → Type 0
    Lies rule = (x : ZeroTarget) × (zero_target part start ≡ Some x) × (text_lies_in_array rule one (inside window) x ≡ true)

    -- each of its bytes does
    of_bytes : (a : I) → inside larger_window ≡ true → Lies (Text a)
    of_bytes a e = by_bytes (zero_target part window) refl met (target_monotone part window larger_window bytes) e
      where
        by_start : inside window ≡ true → (f : Option ZeroTarget) → zero_target part start ≡ f → is_some f ≡ true → Lies (Text a)
        by_start z None g m = absurd (cc)
        by_start z (Some x) g m = (x, g, or_right one (inside window) z)

        by_bytes : (f : Option ZeroTarget) → zero_target part window ≡ f → is_some f ≡ true → TargetBelow f (zero_target part larger_window) → inside larger_window ≡ true → Lies (Text a)
        by_bytes None g m h z = absurd (cc)
        by_bytes (Some x) g m h z =
            let whole = whole_below x (zero_target part larger_window) h z in
            by_start (ap is_whole g ∙ whole) (zero_target part start) refl (met_from_start part window start (sym first) bytes.some begin.some x g whole)

    of_text : (a c : I) → text_lies_in_array (Text c) more (inside larger_window) t ≡ true → Lies (Text a)
    of_text a c lies = elim (or_cases more (inside larger_window) lies) [
      | inl e ↦ of_one (zero_target part start) refl (start_met part window start (single (narrow e)) met) (narrow e)
      | inr e ↦ of_bytes a e
    ]
      where
        of_one : (f : Option ZeroTarget) → zero_target part start ≡ f → is_some f ≡ true → one ≡ true → Lies (Text a)
        of_one None g m e = absurd (cc)
        of_one (Some x) g m e = (x, g, or_left one (inside window) e)

    -- what is known to lie in the array and begin there
    of_begun : (rule : ZeroRule I) → lies_in_array more (inside larger_window) t ≡ true → Lies rule
    of_begun (Text a) lies = let x = lies_too met t d lies in (x.0, x.1, begun_text one (inside window) x.0 x.2)
    of_begun (Append a u) lies = lies_too met t d lies
    of_begun Any lies = lies_too met t d lies

    pub text_lies_too : (x y : ZeroRule I) → RuleBelow l n x y → text_lies_in_array y more (inside larger_window) t ≡ true → Lies x
    text_lies_too (Text a) (Text c) h lies = of_text a c lies
    text_lies_too (Text a) (Append c u) h lies = absurd h
    text_lies_too (Text a) Any h lies = of_begun (Text a) lies
    text_lies_too (Append a s) (Text c) h lies = absurd h
    text_lies_too (Append a s) (Append c u) h lies = of_begun (Append a s) lies
    text_lies_too (Append a s) Any h lies = of_begun (Append a s) lies
    text_lies_too Any (Text c) h lies = absurd h
    text_lies_too Any (Append c u) h lies = absurd h
    text_lies_too Any Any h lies = of_begun Any lies
