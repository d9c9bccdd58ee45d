-- Values with near bounds, and the greatest of them.
use Rattle.std.specs.Prelude.{◌≡◌, ℕ, ◌^◌, ◌-◌, ℤ, pos, negsuc, neg_ℤ, ◌≤ℤ◌, true, not, ◌||◌, int_lt, Some, None, List, refl}
use Rattle.std.proofs.Common.{arith, ap, ◌∙◌, sym, subst, subst₂}
use Rattle.std.proofs.lemmas.Int.{ints}
use Rattle.std.proofs.lemmas.Bool.{cond_both, cond-true, not_from_false, or_from, false_from_ne_true}
use Rattle.cc_base.specs.Lattices.{LatticeOf, OrderLaws}
use Rattle.cc_base.specs.NumberRanges.{Range, range_met}
use Rattle.cc_base.specs.IntegerDomains.{IntegersOf, BoundLaws, of_range}
use Rattle.pointer_domain.specs.declared.base_sets.Bases.{Bases}
use Rattle.pointer_domain.specs.declared.pointer_sets.Pointers.{Pointers}
use Rattle.value_domain.specs.declared.values.values.Value as values
use Rattle.value_domain.specs.declared.values.row_cells.Cell.{Cell}
use Rattle.value_domain.specs.declared.values.row_cells.Cell.TheVariants.{Nothing, Value, First, State, Mixed}
use Rattle.value_domain.specs.Values.Values.{value_lattice, value_order}
use Rattle.value_domain.specs.Values.Cells.{cell_lattice, cell_leq, cell_order}
use Rattle.cc_base.specs.Rows.{row_leq}
use Rattle.store_monotone.specs.Operations.TopCells.{top_number, top_value}
use Rattle.store_cells.specs.NearValues.{is_near, near_part, near_number, near_pointer, near_value}
use Rattle.store_cells.specs.RowPositions.{cell_at, value_in, value_at}
use Rattle.domain_theorems.proofs.values.Ranges.{RangeBelow, bounds_monotone}
use Rattle.domain_theorems.proofs.values.Parts.{PointersBelow, pointer_parts, value_parts}
use Rattle.store_monotone.proofs.operations.Rows.{at_monotone}

near_if : (r : Range) → RangeBelow r (Some (negsuc (2 ^ 64 - 1), pos (2 ^ 64))) → (p : ℤ × ℤ) → r ≡ Some p → is_near r ≡ true
near_if None h p e = absurd (cc)
near_if (Some q) h p e = near_pair q.0 q.1 h.0 h.1
  where
    near_pair : (a b : ℤ) → negsuc (2 ^ 64 - 1) ≤ℤ a → b ≤ℤ pos (2 ^ 64) → not (int_lt a (neg_ℤ (pos (2 ^ 64))) || int_lt (pos (2 ^ 64)) b) ≡ true
    near_pair a b h k = not_from_false _ (or_from _ _ (false_from_ne_true _ (λ (e : int_lt a (neg_ℤ (pos (2 ^ 64))) ≡ true). omega (arith, ints))) (false_from_ne_true _ (λ (e : int_lt (pos (2 ^ 64)) b ≡ true). omega (arith, ints))))

module _ {I : Type 0} {l : LatticeOf I} {n : IntegersOf I} {stands : I → ℤ → Type 0} (o : OrderLaws l) (b : BoundLaws l n stands) where
  near_from : (x : I) (r : Range) → n.bounds x ≡ r → l.leq x (top_number n) ≡ true → near_number l n x ≡ x
  near_from x None e h =
      let f : near_part l n x ≡ l.least = ap (λ r. of_range l n (range_met r (neg_ℤ (pos (2 ^ 64))) (pos (2 ^ 64)))) e in
      cond_both (is_near (n.bounds x)) x (near_part l n x) (λ y. y ≡ x) (λ k. refl) (λ k. f ∙ sym (b.only_least x e))
  near_from x (Some p) e h =
      let k : RangeBelow (n.bounds x) (n.bounds (top_number n)) = bounds_monotone b x (top_number n) h in
      let t = b.between_bounds (negsuc (2 ^ 64 - 1)) (pos (2 ^ 64)) (omega (arith, ints)) in
      let m : RangeBelow (n.bounds x) (Some (negsuc (2 ^ 64 - 1), pos (2 ^ 64))) = subst (λ r. RangeBelow (n.bounds x) r) t k in
      cond-true (is_near (n.bounds x)) x (near_part l n x) (near_if (n.bounds x) m p e)

  -- numbers from -2^64 to 2^64 are near
  pub near_is : (x : I) → l.leq x (top_number n) ≡ true → near_number l n x ≡ x
  near_is x h = near_from x (n.bounds x) refl h

  pub near_monotone : (x y : I) → l.leq x y ≡ true → l.leq y (top_number n) ≡ true → l.leq (near_number l n x) (near_number l n y) ≡ true
  near_monotone x y h k = subst₂ (λ u v. l.leq u v ≡ true) (sym (near_is x (o.transitive x y (top_number n) h k))) (sym (near_is y k)) h

  pub near_pointer_is : (q : Pointers I) (all : Bases) → PointersBelow l q (top_value n all).pointer → near_pointer l n q ≡ q
  near_pointer_is q all k = let a = near_is q.lo k.lo in let c = near_is q.rel k.rel in let d = near_is q.len k.len in λ i. record q { lo = a i; rel = c i; len = d i }

  pub near_value_is : (w : values.Value I) (all : Bases) → (value_lattice l).leq w (top_value n all) ≡ true → near_value l n w ≡ w
  near_value_is w all h =
      let p = value_parts l w (top_value n all) h in
      let a = near_is w.num p.num in
      let c = near_pointer_is w.pointer all (pointer_parts l w.pointer (top_value n all).pointer p.pointer) in
      λ i. record w { num = a i; pointer = c i }

  -- ---- cells

  value_in_monotone : (t : values.Value I) (x y : Cell I) → cell_leq l x y ≡ true → cell_leq l y (Value t) ≡ true → (value_lattice l).leq (value_in l x) (value_in l y) ≡ true
  value_in_monotone t Nothing y h k = (value_order o).least_below (value_in l y)
  value_in_monotone t x (First f) h k = cc
  value_in_monotone t x (State s) h k = cc
  value_in_monotone t x Mixed h k = cc
  value_in_monotone t (Value v) Nothing h k = cc
  value_in_monotone t (Value v) (Value w) h k = h
  value_in_monotone t (First v) Nothing h k = cc
  value_in_monotone t (First v) (Value w) h k = cc
  value_in_monotone t (State v) Nothing h k = cc
  value_in_monotone t (State v) (Value w) h k = cc
  value_in_monotone t Mixed Nothing h k = cc
  value_in_monotone t Mixed (Value w) h k = cc

  value_in_below : (t : values.Value I) (y : Cell I) → cell_leq l y (Value t) ≡ true → (value_lattice l).leq (value_in l y) t ≡ true
  value_in_below t Nothing k = (value_order o).least_below t
  value_in_below t (Value w) k = k
  value_in_below t (First f) k = cc
  value_in_below t (State s) k = cc
  value_in_below t Mixed k = cc

  -- a cell below a value's cell is no more than its value
  cell_below_in : (t : values.Value I) (x y : Cell I) → cell_leq l x y ≡ true → cell_leq l y (Value t) ≡ true → cell_leq l x (Value (value_in l y)) ≡ true
  cell_below_in t Nothing y h k = refl
  cell_below_in t x (Value w) h k = h
  cell_below_in t (Value v) Nothing h k = cc
  cell_below_in t (First v) Nothing h k = cc
  cell_below_in t (State v) Nothing h k = cc
  cell_below_in t Mixed Nothing h k = cc
  cell_below_in t x (First f) h k = cc
  cell_below_in t x (State s) h k = cc
  cell_below_in t x Mixed h k = cc

  module _ (all : Bases) (top r s : List (Cell I)) (i : ℕ) (h : row_leq (cell_lattice l) r s ≡ true) (k : row_leq (cell_lattice l) s top ≡ true) (e : cell_at top i ≡ Value (top_value n all)) where
    at_top : cell_leq l (cell_at s i) (Value (top_value n all)) ≡ true
    at_top = subst (λ c. cell_leq l (cell_at s i) c ≡ true) e (at_monotone l s top i k)

    in_top : (value_lattice l).leq (value_in l (cell_at s i)) (top_value n all) ≡ true
    in_top = value_in_below (top_value n all) (cell_at s i) at_top

    pub value_at_is : value_at l n s i ≡ value_in l (cell_at s i)
    unfolding value_at
    value_at_is = near_value_is (value_in l (cell_at s i)) all in_top

    pub value_at_top : (value_lattice l).leq (value_at l n s i) (top_value n all) ≡ true
    value_at_top = subst (λ v. (value_lattice l).leq v (top_value n all) ≡ true) (sym value_at_is) in_top

    small_at_top : cell_leq l (cell_at r i) (Value (top_value n all)) ≡ true
    small_at_top = (cell_order o).transitive (cell_at r i) (cell_at s i) (Value (top_value n all)) (at_monotone l r s i h) at_top

    small_is : value_at l n r i ≡ value_in l (cell_at r i)
    unfolding value_at
    small_is = near_value_is (value_in l (cell_at r i)) all (value_in_below (top_value n all) (cell_at r i) small_at_top)

    pub value_at_monotone : (value_lattice l).leq (value_at l n r i) (value_at l n s i) ≡ true
    value_at_monotone = subst₂ (λ v w. (value_lattice l).leq v w ≡ true) (sym small_is) (sym value_at_is) (value_in_monotone (top_value n all) (cell_at r i) (cell_at s i) (at_monotone l r s i h) at_top)

    pub cell_below_at : cell_leq l (cell_at r i) (Value (value_at l n s i)) ≡ true
    cell_below_at = subst (λ v. cell_leq l (cell_at r i) (Value v) ≡ true) (sym value_at_is) (cell_below_in (top_value n all) (cell_at r i) (cell_at s i) (at_monotone l r s i h) at_top)
