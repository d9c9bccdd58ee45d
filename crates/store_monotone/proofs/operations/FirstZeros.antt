-- First zeros of two rows in order.
use Rattle.std.specs.Prelude.{◌≡◌, ℕ, ◌≤◌, ◌-◌, ◌^◌, ℤ, pos, negsuc, ◌≤ℤ◌, true, false, not, int_le, Some, None, List, refl}
use Rattle.std.specs.Ordering.{int_eq}
use Rattle.std.proofs.Common.{arith, sym, subst, subst₂, ap}
use Rattle.std.proofs.lemmas.Int.{ints}
use Rattle.std.proofs.lemmas.Bool.{and_from, and_parts, not_from_false, false_from_ne_true, not-true}
use Rattle.std.proofs.lemmas.Bool.Decides.{Decides-int_eq}
use Rattle.cc_base.specs.Lattices.{LatticeOf, OrderLaws}
use Rattle.cc_base.specs.NumberRanges.{Range}
use Rattle.cc_base.specs.Rows.{row_leq}
use Rattle.cc_base.specs.IntegerDomains.{IntegersOf, BoundLaws}
use Rattle.value_domain.specs.Strings.FirstZeros.{the_end}
use Rattle.value_domain.specs.declared.strings.first_zeros.FirstZero.{FirstZero}
use Rattle.value_domain.specs.declared.values.row_cells.Cell.{Cell}
use Rattle.value_domain.specs.declared.values.row_cells.Cell.TheVariants.{Nothing, Value, First, State, Mixed}
use Rattle.value_domain.specs.Values.Cells.{cell_lattice, cell_leq, cell_order}
use Rattle.store_cells.specs.RowPositions.{cell_at, zero_in, zero_at}
use Rattle.store_cells.specs.FirstZeroWrites.{lies_up_to}
use Rattle.domain_theorems.proofs.values.Ranges.{RangeBelow}
use Rattle.store_monotone.proofs.operations.Rows.{at_monotone}
use Rattle.store_monotone.specs.Operations.TopCells.{top_number, top_zero}
use Rattle.store_monotone.proofs.operations.NearCells.{near_is}

module _ {I : Type 0} {l : LatticeOf I} {n : IntegersOf I} {stands : I → ℤ → Type 0} (o : OrderLaws l) (b : BoundLaws l n stands) where
  zero_in_monotone : (t : FirstZero I) (x y : Cell I) → cell_leq l x y ≡ true → cell_leq l y (First t) ≡ true → l.leq (zero_in l x).at (zero_in l y).at ≡ true
  zero_in_monotone t Nothing y h k = o.least_below (zero_in l y).at
  zero_in_monotone t x (Value f) h k = cc
  zero_in_monotone t x (State s) h k = cc
  zero_in_monotone t x Mixed h k = cc
  zero_in_monotone t (First v) Nothing h k = cc
  zero_in_monotone t (First v) (First w) h k = h
  zero_in_monotone t (Value v) Nothing h k = cc
  zero_in_monotone t (Value v) (First w) h k = cc
  zero_in_monotone t (State v) Nothing h k = cc
  zero_in_monotone t (State v) (First w) h k = cc
  zero_in_monotone t Mixed Nothing h k = cc
  zero_in_monotone t Mixed (First w) h k = cc

  zero_in_below : (t : FirstZero I) (y : Cell I) → cell_leq l y (First t) ≡ true → l.leq (zero_in l y).at t.at ≡ true
  zero_in_below t Nothing k = o.least_below t.at
  zero_in_below t (First w) k = k
  zero_in_below t (Value f) k = cc
  zero_in_below t (State s) k = cc
  zero_in_below t Mixed k = cc

  first_below_in : (t : FirstZero I) (x y : Cell I) → cell_leq l x y ≡ true → cell_leq l y (First t) ≡ true → cell_leq l x (First (zero_in l y)) ≡ true
  first_below_in t Nothing y h k = refl
  first_below_in t x (First w) h k = h
  first_below_in t (Value v) Nothing h k = cc
  first_below_in t (First v) Nothing h k = cc
  first_below_in t (State v) Nothing h k = cc
  first_below_in t Mixed Nothing h k = cc
  first_below_in t x (Value f) h k = cc
  first_below_in t x (State s) h k = cc
  first_below_in t x Mixed h k = cc

  pub zero_near : l.leq (top_zero n).at (top_number n) ≡ true
  zero_near = b.below_between (top_zero n).at (pos 0) the_end (negsuc (2 ^ 64 - 1)) (pos (2 ^ 64)) (b.between_bounds (pos 0) the_end (omega (arith, ints))) (omega (arith, ints)) (omega (arith, ints))

  module _ (top r s : List (Cell I)) (i : ℕ) (h : row_leq (cell_lattice l) r s ≡ true) (k : row_leq (cell_lattice l) s top ≡ true) (e : cell_at top i ≡ First (top_zero n)) where
    first_top : cell_leq l (cell_at s i) (First (top_zero n)) ≡ true
    first_top = subst (λ c. cell_leq l (cell_at s i) c ≡ true) e (at_monotone l s top i k)

    in_top : l.leq (zero_in l (cell_at s i)).at (top_zero n).at ≡ true
    in_top = zero_in_below (top_zero n) (cell_at s i) first_top

    zero_at_is : (zero_at l n s i).at ≡ (zero_in l (cell_at s i)).at
    unfolding zero_at
    zero_at_is = near_is o b (zero_in l (cell_at s i)).at (o.transitive (zero_in l (cell_at s i)).at (top_zero n).at (top_number n) in_top zero_near)

    pub zero_at_top : l.leq (zero_at l n s i).at (top_zero n).at ≡ true
    zero_at_top = subst (λ z. l.leq z (top_zero n).at ≡ true) (sym zero_at_is) in_top

    small_top : cell_leq l (cell_at r i) (First (top_zero n)) ≡ true
    small_top = (cell_order o).transitive (cell_at r i) (cell_at s i) (First (top_zero n)) (at_monotone l r s i h) first_top

    small_is : (zero_at l n r i).at ≡ (zero_in l (cell_at r i)).at
    unfolding zero_at
    small_is = near_is o b (zero_in l (cell_at r i)).at (o.transitive (zero_in l (cell_at r i)).at (top_zero n).at (top_number n) (zero_in_below (top_zero n) (cell_at r i) small_top) zero_near)

    pub zero_at_monotone : l.leq (zero_at l n r i).at (zero_at l n s i).at ≡ true
    zero_at_monotone = subst₂ (λ x y. l.leq x y ≡ true) (sym small_is) (sym zero_at_is) (zero_in_monotone (top_zero n) (cell_at r i) (cell_at s i) (at_monotone l r s i h) first_top)

    pub first_below_at : cell_leq l (cell_at r i) (First (zero_at l n s i)) ≡ true
    first_below_at = subst (λ z. cell_leq l (cell_at r i) (First (record { at = z })) ≡ true) (sym zero_at_is) (first_below_in (top_zero n) (cell_at r i) (cell_at s i) (at_monotone l r s i h) first_top)

at_end : (a c : ℤ) → a ≡ the_end → a ≤ℤ c → c ≤ℤ the_end → c ≡ the_end
at_end a (pos c) e h k = ap pos (omega (arith, ints))
at_end a (negsuc c) e h k = absurd (omega (arith, ints))

-- what is determinate in a larger window of a larger row is so in a smaller one
pub lies_monotone : (x y : Range) (a c : ℕ) → RangeBelow x y → RangeBelow y (Some (pos 0, the_end)) → a ≤ c → lies_up_to y c ≡ true → lies_up_to x a ≡ true
lies_monotone None y a c h k j e = refl
lies_monotone (Some p) None a c h k j e = absurd h
lies_monotone (Some p) (Some q) a c h k j e =
    let t = and_parts (int_le (pos c) q.0) (not (int_eq q.1 the_end)) e in
    let t0 = t.0 in
    let u : int_eq q.1 the_end ≡ false = not-true (int_eq q.1 the_end) t.1 in
    and_from _ _ (grind (arith, ints)) (not_from_false _ (false_from_ne_true _ (λ (v : int_eq p.1 the_end ≡ true).
    let w : p.1 ≡ the_end = (Decides-int_eq p.1 the_end).0 v in
    let x : q.1 ≡ the_end = at_end p.1 q.1 w h.1 k.1 in
    let z : int_eq q.1 the_end ≡ true = (Decides-int_eq q.1 the_end).1 x in
    absurd (cc))))
