-- The window of an access has the offset of each pointer that goes on.
use Rattle.std.proofs.Common.{◌≡◌, ℕ, ◌+◌, ◌^◌, ◌-◌, ◌≤◌, Option, Some, None, arith, subst, refl, inl, inr}
use Rattle.std.specs.Prelude.{ℤ, pos, negsuc, ◌+ℤ◌, ◌-ℤ◌, ◌≤ℤ◌, int_le, unsigned_abs}
use Rattle.std.specs.Int.{w128, saturate_signed, int_max, int_min}
use Rattle.std.proofs.lemmas.Int.{ints, clamps}
use Rattle.std.proofs.lemmas.Bool.{cases_Bool}
use Rattle.cc_base.specs.Lattices.{LatticeOf}
use Rattle.cc_base.specs.IntegerDomains.{IntegersOf, BoundLaws}
use Rattle.cc_base.specs.NumberRanges.{Range, range_between, range_met}
use Rattle.pointer_domain.specs.declared.pointer_sets.Pointers.{Pointers}
use Rattle.store_cells.specs.declared.access_windows.Window.{Window}
use Rattle.store_cells.specs.AccessWindows.{last_offset, window_between, window_within, added_ranges, last_place, access_range, window_of}

-- a range has a number
pub record RangeHas (r : Range) (z : ℤ) : Type 0 where
  pub low : ℤ
  pub high : ℤ
  pub is : r ≡ Some (low, high)
  pub from : low ≤ℤ z
  pub to : z ≤ℤ high

sat_below : (x z : ℤ) → x ≤ℤ z → negsuc (2 ^ 127 - 1) ≤ℤ z → saturate_signed w128 x ≤ℤ z
sat_below (pos n) z h k = omega (arith, ints)
sat_below (negsuc n) z h k = omega (arith, ints)

sat_above : (x z : ℤ) → z ≤ℤ x → z ≤ℤ pos (2 ^ 127 - 1) → z ≤ℤ saturate_signed w128 x
sat_above (pos n) z h k = omega (arith, ints)
sat_above (negsuc n) z h k = omega (arith, ints)

between_has : (a b z : ℤ) → a ≤ℤ z → z ≤ℤ b → range_between a b ≡ Some (a, b)
between_has a b z h k = elim (cases_Bool (int_le a b)) [ inl e ↦ rw e | inr e ↦ absurd (grind (arith, ints)) ]

pub sum_has : (x y : Range) (z w : ℤ) → RangeHas x z → RangeHas y w → pos 0 ≤ℤ (z +ℤ w) → (z +ℤ w) ≤ℤ pos last_offset → RangeHas (added_ranges x y) (z +ℤ w)
sum_has None y z w h k a b = let e = h.is in cc
sum_has (Some p) None z w h k a b = let e = k.is in cc
sum_has (Some p) (Some r) z w h k a b =
    let e : p.0 ≡ h.low = cc h.is in
    let f : p.1 ≡ h.high = cc h.is in
    let c : r.0 ≡ k.low = cc k.is in
    let d : r.1 ≡ k.high = cc k.is in
    record {
      low = saturate_signed w128 (p.0 +ℤ r.0);
      high = saturate_signed w128 (p.1 +ℤ r.1);
      is = refl;
      from = sat_below (p.0 +ℤ r.0) (z +ℤ w) (omega (arith, ints)) (omega (arith, ints));
      to = sat_above (p.1 +ℤ r.1) (z +ℤ w) (omega (arith, ints)) (omega (arith, ints));
    }

pub met_has : (x : Range) (a b z : ℤ) → RangeHas x z → a ≤ℤ z → z ≤ℤ b → RangeHas (range_met x a b) z
met_has None a b z h c d = let e = h.is in cc
met_has (Some p) a b z h c d =
    let e : p.0 ≡ h.low = cc h.is in
    let f : p.1 ≡ h.high = cc h.is in
    let g : int_max p.0 a ≤ℤ z = omega (arith, ints, clamps) in
    let k : z ≤ℤ int_min p.1 b = omega (arith, ints, clamps) in
    record { low = int_max p.0 a; high = int_min p.1 b; is = between_has _ _ z g k; from = g; to = k }

-- a window has an offset
pub record WindowHas (r : Option Window) (offset : ℕ) : Type 0 where
  pub window : Window
  pub is : r ≡ Some window
  pub from : window.lo ≤ offset
  pub to : offset ≤ window.hi

abs_below : (z : ℤ) (k : ℕ) → pos 0 ≤ℤ z → z ≤ℤ pos k → unsigned_abs z ≤ k
abs_below (pos n) k h e = omega (arith, ints)
abs_below (negsuc n) k h e = absurd (omega (arith, ints))

abs_above : (z : ℤ) (k : ℕ) → pos k ≤ℤ z → k ≤ unsigned_abs z
abs_above (pos n) k h = omega (arith, ints)
abs_above (negsuc n) k h = absurd (omega (arith, ints))

pub within_has : (x : Range) (offset : ℕ) → RangeHas x (pos offset) → offset ≤ last_offset → WindowHas (window_within x) offset
within_has None offset h c = let e = h.is in cc
within_has (Some p) offset h c =
    let e : p.0 ≡ h.low = cc h.is in
    let f : p.1 ≡ h.high = cc h.is in
    let g : int_max p.0 (pos 0) ≤ℤ pos offset = omega (arith, ints, clamps) in
    let z : pos 0 ≤ℤ int_max p.0 (pos 0) = omega (arith, ints, clamps) in
    let k : pos offset ≤ℤ int_min p.1 (pos last_offset) = omega (arith, ints, clamps) in
    record {
      window = window_between (unsigned_abs (int_max p.0 (pos 0))) (unsigned_abs (int_min p.1 (pos last_offset)));
      is = rw (between_has (int_max p.0 (pos 0)) (int_min p.1 (pos last_offset)) (pos offset) g k);
      from = abs_below _ offset z g;
      to = abs_above _ offset k;
    }

module _ {I : Type 0} {l : LatticeOf I} {n : IntegersOf I} {gamma : I → ℤ → Type 0} (q : BoundLaws l n gamma) where
  bounds_have : (x : I) (z : ℤ) → gamma x z → RangeHas (n.bounds x) z
  bounds_have x z h = let r = q.inside x z h in record { low = r.0; high = r.1; is = r.2; from = r.3; to = r.4 }

  last_above : (p : Pointers I) (size : ℕ) (z : ℤ) (room : ℤ) → gamma p.len room → (z +ℤ pos size) ≤ℤ room → z ≤ℤ pos last_offset → z ≤ℤ last_place n p size
  last_above p size z room h k c =
      let r = q.inside p.len room h in
      sat_above _ z (rw r.2 (omega (arith, ints))) (omega (arith, ints))

  pub window_has : (p : Pointers I) (size offset lo hi : ℕ) → gamma p.lo (pos lo) → gamma p.rel (pos offset -ℤ pos lo) → gamma p.len (pos hi -ℤ pos lo) → lo ≤ offset → offset + size ≤ hi → hi ≤ last_offset → WindowHas (window_of n p size) offset
  window_has p size offset lo hi a b c h k e =
      let z : ℤ = pos offset -ℤ pos lo in
      let m = met_has (n.bounds p.rel) (pos 0) (last_place n p size) z (bounds_have p.rel z b) (omega (arith, ints)) (last_above p size z (pos hi -ℤ pos lo) c (omega (arith, ints)) (omega (arith, ints))) in
      let s = sum_has (n.bounds p.lo) (range_met (n.bounds p.rel) (pos 0) (last_place n p size)) (pos lo) z (bounds_have p.lo (pos lo) a) m (omega (arith, ints)) (omega (arith, ints)) in
      let g : (pos lo +ℤ z) ≡ pos offset = omega (arith, ints) in
      within_has (access_range n p size) offset (subst (RangeHas (access_range n p size)) g s) (omega arith)
