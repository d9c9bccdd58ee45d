-- Larger windows reach more.
use Rattle.std.specs.Prelude.{◌≡◌, ℕ, zero, suc, ◌-◌, ◌/◌, ◌≤◌, ◌<◌, ℤ, pos, negsuc, ◌≤ℤ◌, ◌-ℤ◌, true, Option, Some, None, int_le, refl}
use Rattle.std.specs.Option.{unwrap_or}
use Rattle.std.specs.Int.{int_min, int_max, w128, saturate_signed}
use Rattle.std.proofs.Common.{arith, ap, ◌∙◌, sym, subst, inl, inr}
use Rattle.std.proofs.lemmas.Bool.{and_parts, and_from, cases_Bool, cond_both, cond-true, cond-false}
use Rattle.std.proofs.lemmas.Bool.Decides.{nat_tests}
use Rattle.std.proofs.lemmas.Nat.{le-div, div-add-mod'}
use Rattle.std.proofs.lemmas.Int.{ints, clamps}
use Rattle.cc_base.specs.Lattices.{LatticeOf}
use Rattle.cc_base.specs.IntegerDomains.{IntegersOf, BoundLaws}
use Rattle.cc_base.specs.NumberRanges.{Range, range_between, range_met, upper_or}
use Rattle.c_layout.specs.declared.data_model.Model.{Model}
use Rattle.c_layout.specs.declared.leaf_lists.Class.{Class}
use Rattle.c_layout.specs.declared.leaf_lists.Leaf.{Leaf}
use Rattle.pointer_domain.specs.declared.pointer_sets.Pointers.{Pointers}
use Rattle.store_cells.specs.declared.access_windows.Window.{Window}
use Rattle.store_cells.specs.ScalarTypes.{class_bytes}
use Rattle.store_cells.specs.ClassNumbers.{same_class}
use Rattle.store_cells.specs.AccessWindows.{window_between, window_of_range, window_within, last_offset, last_place, access_range, added_ranges, window_of}
use Rattle.store.specs.LeafSelection.{places_before, has_place_in, is_selected, is_overlapped, is_other}
use Rattle.domain_theorems.proofs.values.Ranges.{RangeBelow, met_monotone, upper_monotone, bounds_monotone}
use Rattle.store_monotone.specs.Operations.Placements.{WindowWithin}
use Rattle.store_monotone.proofs.operations.AddedRanges.{added_monotone, saturate_monotone}
use Rattle.domain_theorems.proofs.values.Parts.{PointersBelow}

div_monotone : (a b s : ℕ) → a ≤ b → a / s ≤ b / s
div_monotone a b zero h = omega arith
div_monotone a b (suc s) h = let e = div-add-mod' a (suc s) in le-div (a / suc s) b (suc s) (omega arith) (omega arith)

before_monotone : (leaf : Leaf) (a b : ℕ) → a ≤ b → places_before leaf a ≤ places_before leaf b
before_monotone leaf a b h = let k = div_monotone ((a - leaf.offset) - 1) ((b - leaf.offset) - 1) leaf.stride (omega arith) in grind (arith, nat_tests)

pub place_monotone : (leaf : Leaf) (w u : Window) → WindowWithin w u → has_place_in leaf w ≡ true → has_place_in leaf u ≡ true
place_monotone leaf w u i h =
    let b = before_monotone leaf u.lo w.lo i.lo in
    let d = div_monotone (w.hi - leaf.offset) (u.hi - leaf.offset) leaf.stride (let e = i.hi in omega arith) in
    let e = i.hi in
    grind (arith, nat_tests)

pub selected_monotone : (leaf : Leaf) (class : Class) (w u : Window) → WindowWithin w u → is_selected leaf class w ≡ true → is_selected leaf class u ≡ true
selected_monotone leaf class w u i h = let p = and_parts (same_class leaf.class class) (has_place_in leaf w) h in and_from _ _ p.0 (place_monotone leaf w u i p.1)

pub overlapped_monotone : (m : Model) (leaf : Leaf) (w u : Window) → WindowWithin w u → is_overlapped m leaf w ≡ true → is_overlapped m leaf u ≡ true
overlapped_monotone m leaf w u i h =
    let size = class_bytes m leaf.class - 1 in
    let j : WindowWithin (window_between (w.lo - size) w.hi) (window_between (u.lo - size) u.hi) = record { lo = (let a = i.lo in omega arith); some = (let a = i.some in omega arith); hi = i.hi; near = i.near } in
    place_monotone leaf (window_between (w.lo - size) w.hi) (window_between (u.lo - size) u.hi) j h

pub other_monotone : (m : Model) (leaf : Leaf) (w u : Window) → WindowWithin w u → is_other m leaf w ≡ true → is_other m leaf u ≡ true
other_monotone m leaf w u i h = let p = and_parts _ (is_overlapped m leaf w) h in and_from _ _ p.0 (overlapped_monotone m leaf w u i p.1)

-- a window within one of one offset is that one
pub window_is : (w u : Window) → WindowWithin w u → u.lo ≡ u.hi → w ≡ u
window_is w u i e =
    let a : w.lo ≡ u.lo = (let p = i.lo in let q = i.some in let r = i.hi in omega arith) in
    let b : w.hi ≡ u.hi = (let p = i.lo in let q = i.some in let r = i.hi in omega arith) in
    λ j. record { lo = a j; hi = b j }

-- an optional window below another one
abbrev pub WindowsBelow : Option Window → Option Window → Type 0
WindowsBelow None u = Unit {0}
WindowsBelow (Some w) None = ⊥
WindowsBelow (Some w) (Some u) = WindowWithin w u

of_range_below : (x y : Range) → RangeBelow x y → ((p : ℤ × ℤ) → x ≡ Some p → (pos 0 ≤ℤ p.0) × (p.0 ≤ℤ p.1)) → ((q : ℤ × ℤ) → y ≡ Some q → (pos 0 ≤ℤ q.0) × (q.0 ≤ℤ q.1) × (q.1 ≤ℤ pos last_offset)) → WindowsBelow (window_of_range x) (window_of_range y)
of_range_below None y h j k = tt
of_range_below (Some p) None h j k = absurd h
of_range_below (Some p) (Some q) h j k =
    let a = j p refl in
    let b = k q refl in
    record { lo = omega (arith, ints); some = omega (arith, ints); hi = omega (arith, ints); near = omega (arith, ints) }

between_is : (a b : ℤ) (p : ℤ × ℤ) → range_between a b ≡ Some p → (a ≤ℤ b) × (p.0 ≡ a) × (p.1 ≡ b)
between_is a b p e = elim (cases_Bool (int_le a b)) [
  | inl t ↦ (let g : range_between a b ≡ Some (a, b) = cond-true (int_le a b) (Some (a, b)) None t in
      let f : Some p ≡ Some (a, b) = sym e ∙ g in
      (omega (arith, ints), ap (λ r. (unwrap_or r p).0) f, ap (λ r. (unwrap_or r p).1) f))
  | inr t ↦ absurd (let g : range_between a b ≡ None = cond-false (int_le a b) (Some (a, b)) None t in cc)
]

met_from : (x : Range) (c d : ℤ) (p : ℤ × ℤ) → range_met x c d ≡ Some p → (c ≤ℤ p.0) × (p.0 ≤ℤ p.1) × (p.1 ≤ℤ d)
met_from None c d p e = absurd (cc)
met_from (Some q) c d p e = let b = between_is (int_max q.0 c) (int_min q.1 d) p e in let f = b.0 in let g = b.1 in let h = b.2 in (omega (arith, ints, clamps), omega (arith, ints, clamps), omega (arith, ints, clamps))

pub within_monotone : (x y : Range) → RangeBelow x y → WindowsBelow (window_within x) (window_within y)
within_monotone x y h = of_range_below (range_met x (pos 0) (pos last_offset)) (range_met y (pos 0) (pos last_offset)) (met_monotone x y (pos 0) (pos last_offset) (pos 0) (pos last_offset) h (omega (arith, ints)) (omega (arith, ints)))
    (λ p e. let f = met_from x (pos 0) (pos last_offset) p e in (f.0, f.1)) (λ q e. met_from y (pos 0) (pos last_offset) q e)

met_none : (x : Range) (d : ℤ) → d ≤ℤ negsuc 0 → range_met x (pos 0) d ≡ None
met_none None d h = refl
met_none (Some p) d h = cond_both (int_le (int_max p.0 (pos 0)) (int_min p.1 d)) (Some (int_max p.0 (pos 0), int_min p.1 d)) None (λ r. r ≡ None) (λ e. absurd (omega (arith, ints, clamps))) (λ e. refl)

added_none : (x : Range) → added_ranges x None ≡ None
added_none None = refl
added_none (Some p) = refl

saturate_low : (a : ℤ) → a ≤ℤ negsuc 0 → saturate_signed w128 a ≤ℤ negsuc 0
saturate_low (pos a) h = absurd (omega (arith, ints))
saturate_low (negsuc a) h = omega (arith, ints)

saturate_negative : (a : ℕ) → 0 < a → saturate_signed w128 (pos 0 -ℤ pos a) ≤ℤ negsuc 0
saturate_negative a h = saturate_low _ (omega (arith, ints))

module _ {I : Type 0} {l : LatticeOf I} {n : IntegersOf I} {stands : I → ℤ → Type 0} (b : BoundLaws l n stands) where
  access_at : (p q : Pointers I) (size : ℕ) → 0 < size → PointersBelow l p q → (r : Range) → n.bounds p.len ≡ r → RangeBelow (access_range n p size) (access_range n q size)
  access_at p q size z h None e =
      let f : access_range n p size ≡ None = ap (λ r. added_ranges (n.bounds p.lo) (range_met (n.bounds p.rel) (pos 0) (saturate_signed w128 (upper_or (pos 0) r -ℤ pos size)))) e
      ∙ ap (λ r. added_ranges (n.bounds p.lo) r) (met_none (n.bounds p.rel) _ (saturate_negative size z)) ∙ added_none (n.bounds p.lo) in
      subst (λ r. RangeBelow r (access_range n q size)) (sym f) tt
  access_at p q size z h (Some y) e =
      let u = upper_monotone (n.bounds p.len) (n.bounds q.len) (bounds_monotone b p.len q.len h.len) y e in
      added_monotone _ _ _ _ (bounds_monotone b p.lo q.lo h.lo)
      (met_monotone (n.bounds p.rel) (n.bounds q.rel) (pos 0) (last_place n p size) (pos 0) (last_place n q size) (bounds_monotone b p.rel q.rel h.rel) (omega (arith, ints)) (saturate_monotone _ _ (omega (arith, ints))))

  -- larger pointers reach more
  pub window_monotone : (p q : Pointers I) (size : ℕ) → 0 < size → PointersBelow l p q → WindowsBelow (window_of n p size) (window_of n q size)
  window_monotone p q size z h = within_monotone (access_range n p size) (access_range n q size) (access_at p q size z h (n.bounds p.len) refl)
