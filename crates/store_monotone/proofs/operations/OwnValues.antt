-- Values and first zeros that are put into a row are own ones, and where a base's values stand.
use Rattle.std.specs.Prelude.{◌≡◌, ℕ, zero, suc, ◌+◌, ◌-◌, ◌^◌, ◌<◌, ◌≤◌, ℤ, pos, negsuc, ◌≤ℤ◌, Bool, true, false, cond, Some, List, [], ◌∷◌, length, slice_get, set, refl}
use Rattle.std.proofs.Common.{arith, sym, subst, inl, inr}
use Rattle.std.proofs.lemmas.Int.{ints}
use Rattle.std.proofs.lemmas.Bool.{cond_both, cases_lt}
use Rattle.cc_base.specs.Lattices.{LatticeOf, OrderLaws}
use Rattle.cc_base.specs.IntegerDomains.{IntegersOf, BoundLaws}
use Rattle.c_layout.specs.declared.leaf_lists.Class.{Class}
use Rattle.c_layout.specs.declared.shapes.BaseInfo.{BaseInfo}
use Rattle.pointer_domain.specs.declared.base_sets.Bases.{Bases}
use Rattle.pointer_domain.specs.BaseLattice.{bases_order}
use Rattle.pointer_domain.specs.PointerLattice.{pointer_order}
use Rattle.value_domain.specs.Strings.FirstZeros.{the_end}
use Rattle.value_domain.specs.declared.strings.first_zeros.FirstZero.{FirstZero}
use Rattle.value_domain.specs.declared.values.values.Value as values
use Rattle.value_domain.specs.declared.values.row_cells.Cell.{Cell}
use Rattle.value_domain.specs.declared.values.row_cells.Cell.TheVariants.{Value, First}
use Rattle.value_domain.specs.Values.LabelSets.{no_labels, labels_order}
use Rattle.value_domain.specs.Values.Values.{value_lattice}
use Rattle.value_domain.specs.Values.ValueTables.{blank_value, number_value, pointer_value}
use Rattle.value_domain.specs.Values.Cells.{cell_leq}
use Rattle.store_cells.specs.ClassNumbers.{is_pointer}
use Rattle.store_cells.specs.ByteWrites.{null_pointer}
use Rattle.store_cells.specs.FirstZeroWrites.{no_zero, zero_first, set_part, set_zeros}
use Rattle.store_cells.specs.RowPositions.{cell_at, leaf_position, class_position, zero_position, value_count}
use Rattle.store_objects.specs.ObjectLives.{set_cell, set_values, zero_value}
use Rattle.domain_theorems.proofs.values.Parts.{value_below, pointers_below}
use Rattle.store_monotone.specs.Operations.TopCells.{top_number, top_value, top_zero}
use Rattle.store_monotone.specs.Operations.Placements.{EachFrom, IsPlaced}
use Rattle.store_monotone.specs.Operations.RowsBelow.{RowsBelow}
use Rattle.store_monotone.proofs.operations.PairedSteps.{turns_pair}
use Rattle.store_monotone.proofs.operations.CellSteps.{put_pair}

-- what holds of each item holds of the one of a number
pub each_get : {K : Type 0} (P : K → ℕ → Type 0) (at i : ℕ) (ks : List K) (k : K) → EachFrom P at ks → slice_get ks i ≡ Some k → P k (at + i)
each_get P at i [] k e f = cc
each_get P at zero (x ∷ ks) k e f = subst (P k) (here at) (subst (λ z. P z at) (same x k f) e.0)
  where
    here : (at : ℕ) → at ≡ at + 0
    here at = omega arith

    same : {K : Type 0} (x k : K) → Some x ≡ Some k → x ≡ k
    same x k f = cc
each_get P at (suc i) (x ∷ ks) k e f = subst (P k) (next at i) (each_get P (at + 1) i ks k e.1 f)
  where
    next : (at i : ℕ) → (at + 1) + i ≡ at + suc i
    next at i = omega arith

module _ {I : Type 0} (n : IntegersOf I) (all : Bases) (top : List (Cell I)) (base : BaseInfo) (p : IsPlaced n all top base) where
  by_count : (heap : Bool) → base.shape.heap ≡ heap → (at : ℕ) → length base.shape.cells ≤ at → at < length base.shape.cells + cond heap 6 0 → cell_at top (leaf_position base at) ≡ Value (top_value n all)
  by_count true e at h k =
      let f : class_position base (at - length base.shape.cells) ≡ leaf_position base at = omega arith in
      subst (λ i. cell_at top i ≡ Value (top_value n all)) f (p.class (at - length base.shape.cells) e (omega arith))
  by_count false e at h k = absurd (omega arith)

  -- each value of the base, of leaves and of class cells
  pub value_placed : (at : ℕ) → at < value_count base → cell_at top (leaf_position base at) ≡ Value (top_value n all)
  value_placed at h = elim (cases_lt at (length base.shape.cells)) [
    | inl k ↦ p.leaf at k
    | inr k ↦ by_count base.shape.heap refl at k (omega arith)
  ]

module _ {I : Type 0} {l : LatticeOf I} {n : IntegersOf I} {stands : I → ℤ → Type 0} (o : OrderLaws l) (b : BoundLaws l n stands) where
  pub one_within : (a c d : ℤ) → c ≤ℤ a → a ≤ℤ d → l.leq (n.one a) (n.between c d) ≡ true
  one_within a c d h k = b.below_between (n.one a) a a c d (b.one_bounds a) h k

  pub blank_top : (all : Bases) → (value_lattice l).leq (blank_value l) (top_value n all) ≡ true
  blank_top all = value_below l (blank_value l) (top_value n all) (record { num = o.least_below (top_number n); pointer = (pointer_order o).least_below (top_value n all).pointer; indeterminate = refl; labels = labels_order.least_below (top_value n all).labels })

  pub number_top : (all : Bases) (x : I) → l.leq x (top_number n) ≡ true → (value_lattice l).leq (number_value l x no_labels) (top_value n all) ≡ true
  number_top all x h = value_below l (number_value l x no_labels) (top_value n all) (record { num = h; pointer = (pointer_order o).least_below (top_value n all).pointer; indeterminate = refl; labels = labels_order.least_below (top_value n all).labels })

  null_top : (all : Bases) → (value_lattice l).leq (pointer_value l (null_pointer l)) (top_value n all) ≡ true
  null_top all = value_below l (pointer_value l (null_pointer l)) (top_value n all) (record {
    num = o.least_below (top_number n);
    pointer = pointers_below l (null_pointer l) (top_value n all).pointer (record { bases = bases_order.least_below all; lo = o.least_below (top_number n); rel = o.least_below (top_number n); len = o.least_below (top_number n); part = refl; null = refl; ended = refl });
    indeterminate = refl;
    labels = labels_order.least_below (top_value n all).labels;
  })

  pub zero_value_top : (all : Bases) (class : Class) → (value_lattice l).leq (zero_value l n class) (top_value n all) ≡ true
  zero_value_top all class = cond_both (is_pointer class) (pointer_value l (null_pointer l)) (number_value l (n.one (pos 0)) no_labels) (λ v. (value_lattice l).leq v (top_value n all) ≡ true)
      (λ e. null_top all) (λ e. number_top all (n.one (pos 0)) (one_within (pos 0) (negsuc (2 ^ 64 - 1)) (pos (2 ^ 64)) (omega (arith, ints)) (omega (arith, ints))))

  pub no_zero_top : l.leq (no_zero n).at (top_zero n).at ≡ true
  no_zero_top = one_within the_end (pos 0) the_end (omega (arith, ints)) (omega (arith, ints))

  pub zero_first_top : l.leq (zero_first n).at (top_zero n).at ≡ true
  zero_first_top = one_within (pos 0) (pos 0) the_end (omega (arith, ints)) (omega (arith, ints))

  module _ (all : Bases) (top : List (Cell I)) where
    -- a value in the place of another
    pub value_put : (i : ℕ) (r s : List (Cell I)) (v w : values.Value I) → cell_at top i ≡ Value (top_value n all) → RowsBelow l top r s → (value_lattice l).leq v w ≡ true → (value_lattice l).leq w (top_value n all) ≡ true → RowsBelow l top (set r i (Value v)) (set s i (Value w))
    value_put i r s v w e j h k = put_pair o b all top i r s (Value v) (Value w) j h (subst (λ c. cell_leq l (Value w) c ≡ true) (sym e) k)

    pub zero_put : (i : ℕ) (r s : List (Cell I)) (f g : FirstZero I) → cell_at top i ≡ First (top_zero n) → RowsBelow l top r s → l.leq f.at g.at ≡ true → l.leq g.at (top_zero n).at ≡ true → RowsBelow l top (set r i (First f)) (set s i (First g))
    zero_put i r s f g e j h k = put_pair o b all top i r s (First f) (First g) j h (subst (λ c. cell_leq l (First g) c ≡ true) (sym e) k)

    module _ (base : BaseInfo) (p : IsPlaced n all top base) where
      pub values_pair : (v w : values.Value I) → (value_lattice l).leq v w ≡ true → (value_lattice l).leq w (top_value n all) ≡ true → (r s : List (Cell I)) → RowsBelow l top r s → RowsBelow l top (set_values base v r) (set_values base w s)
      unfolding set_values
      values_pair v w h k r s j = turns_pair (RowsBelow l top) (set_cell base v) (set_cell base w) (value_count base)
          (λ at x y lt i. value_put (leaf_position base at) x y v w (value_placed n all top base p at lt) i h k) (value_count base) r s (omega arith) j

      pub zeros_pair : (f g : FirstZero I) → l.leq f.at g.at ≡ true → l.leq g.at (top_zero n).at ≡ true → (r s : List (Cell I)) → RowsBelow l top r s → RowsBelow l top (set_zeros base f r) (set_zeros base g s)
      unfolding set_zeros
      zeros_pair f g h k r s j = turns_pair (RowsBelow l top) (set_part base f) (set_part base g) (length base.shape.zeros)
          (λ at x y lt i. zero_put (zero_position base at) x y f g (p.zero at lt) i h k) (length base.shape.zeros) r s (omega arith) j
