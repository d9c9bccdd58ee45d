-- Cells of rising rows that are read and written.
use Rattle.std.specs.Prelude.{◌≡◌, ℕ, ◌≤◌, ℤ, Bool, true, false, cond, Option, None, List, length, refl, ◌⊎◌}
use Rattle.std.proofs.Common.{arith, sym, subst, subst₂, ap, ◌∙◌, inl, inr}
use Rattle.std.proofs.lemmas.List.{set_past}
use Rattle.cc_base.specs.Lattices.{LatticeOf, OrderLaws}
use Rattle.cc_base.specs.IntegerDomains.{IntegersOf, BoundLaws}
use Rattle.cc_base.specs.RowLaws.{row_leq-length}
use Rattle.pointer_domain.specs.declared.base_sets.Bases.{Bases}
use Rattle.pointer_domain.specs.BaseSets.{bases_within}
use Rattle.pointer_domain.specs.BaseLattice.{bases_order}
use Rattle.domain_theorems.specs.Values.Consistency.{AreWords}
use Rattle.domain_theorems.proofs.values.Parts.{pointer_parts, value_parts}
use Rattle.value_domain.specs.declared.values.values.Value as values
use Rattle.value_domain.specs.declared.values.row_cells.Cell.{Cell}
use Rattle.value_domain.specs.declared.values.row_cells.Cell.TheVariants.{Value}
use Rattle.value_domain.specs.Values.Values.{value_lattice, value_order}
use Rattle.value_domain.specs.Values.Cells.{cell_lattice, cell_order}
use Rattle.cc_base.specs.Rows.{row_leq}
use Rattle.cc_base.specs.RowLaws.{row_leq-trans}
use Rattle.store_cells.specs.NearValues.{near_value}
use Rattle.store_cells.specs.RowPositions.{cell_at, value_in, value_at, put_value}
use Rattle.store_monotone.specs.Operations.TopCells.{top_value}
use Rattle.store_monotone.proofs.operations.NearCells.{near_value_is, value_at_top, value_at_monotone}
use Rattle.store_monotone.proofs.operations.OwnValues.{value_put}
use Rattle.store_monotone.proofs.operations.Consistent.{even_bare, set_keeps}
use Rattle.store_monotone.proofs.operations.ConsistentStores.{at_even}
use Rattle.transfer_monotone.specs.Values.RisingRows.{RowsRise, LeftRise, ValuesRise}
use Rattle.transfer_monotone.proofs.values.TempPlaces.{at_past}
use Rattle.transfer_monotone.proofs.values.OwnBases.{words_less}

module _ {I : Type 0} {l : LatticeOf I} {n : IntegersOf I} {stands : I → ℤ → Type 0} (o : OrderLaws l) (b : BoundLaws l n stands) (all : Bases) (words : AreWords all) (top : List (Cell I)) where
  -- the smaller row is an own one too
  pub small_own : (r s : List (Cell I)) → RowsRise l n top r s → row_leq (cell_lattice l) r top ≡ true
  small_own r s h = row_leq-trans (cell_lattice l) (cell_order o) r s top h.below.small h.below.large

  pub least_rises : ValuesRise l n all ((value_lattice l).least) ((value_lattice l).least)
  least_rises = let e = even_bare o b false false in record {
    below = (value_order o).reflexive ((value_lattice l).least);
    own = (value_order o).least_below (top_value n all);
    even = e.1;
  }

  near_least : near_value l n ((value_lattice l).least) ≡ (value_lattice l).least
  near_least = near_value_is o b ((value_lattice l).least) all ((value_order o).least_below (top_value n all))

  value_past : (row : List (Cell I)) (i : ℕ) → length row ≤ i → value_at l n row i ≡ (value_lattice l).least
  unfolding value_at
  value_past row i h = ap (λ c. near_value l n (value_in l c)) (at_past row i h) ∙ near_least

  -- near_value of nothing
  pub near_least_rises : ValuesRise l n all (near_value l n ((value_lattice l).least)) (near_value l n ((value_lattice l).least))
  near_least_rises = subst (λ v. ValuesRise l n all v v) (sym near_least) least_rises

  -- a value is read from a value's place, or from behind the rows
  pub value_rises : (r s : List (Cell I)) → RowsRise l n top r s → (i : ℕ) → (cell_at top i ≡ Value (top_value n all)) ⊎ (length top ≤ i) → ValuesRise l n all (value_at l n r i) (value_at l n s i)
  value_rises r s h i (inl e) =
      let q = at_even o b all top i e r (record { own = small_own r s h; even = h.even }) in
      record { below = value_at_monotone o b all top r s i h.below.small h.below.large e; own = value_at_top o b all top r s i h.below.small h.below.large e; even = q.1 }
  value_rises r s h i (inr e) =
      let a = row_leq-length (cell_lattice l) r s h.below.small in
      let c = row_leq-length (cell_lattice l) s top h.below.large in
      subst₂ (λ v w. ValuesRise l n all v w) (sym (value_past r i (omega arith))) (sym (value_past s i (omega arith))) least_rises

  pub own_bases : (v w : values.Value I) → ValuesRise l n all v w → bases_within v.pointer.bases all ≡ true
  own_bases v w k =
      let h = pointer_parts l v.pointer w.pointer (value_parts l v w k.below).pointer in
      let j = pointer_parts l w.pointer (top_value n all).pointer (value_parts l w (top_value n all) k.own).pointer in
      bases_order.transitive v.pointer.bases w.pointer.bases all h.bases j.bases

  pub put_rises : (r s : List (Cell I)) → RowsRise l n top r s → (i : ℕ) → (cell_at top i ≡ Value (top_value n all)) ⊎ (length top ≤ i) → (v w : values.Value I) → ValuesRise l n all v w → RowsRise l n top (put_value r i v) (put_value s i w)
  put_rises r s h i (inl e) v w k = record { below = value_put o b all top i r s v w e h.below k.below k.own; even = set_keeps n r i (Value v) h.even (words_less v.pointer.bases all (own_bases v w k) words, k.even) }
  put_rises r s h i (inr e) v w k =
      let a = row_leq-length (cell_lattice l) r s h.below.small in
      let c = row_leq-length (cell_lattice l) s top h.below.large in
      subst₂ (λ x y. RowsRise l n top x y) (sym (set_past r i (Value v) (omega arith))) (sym (set_past s i (Value w) (omega arith))) h

-- ---- rows that are left on a condition

module _ {I : Type 0} (l : LatticeOf I) (n : IntegersOf I) (top : List (Cell I)) where
  -- left where a test holds
  pub left_if : (a c : Bool) (x y : Option (List (Cell I))) → (a ≡ true → c ≡ true) → (a ≡ true → LeftRise l n top x y) → LeftRise l n top (cond a x None) (cond c y None)
  left_if false c x y h k = tt
  left_if true false x y h k = absurd (let e : false ≡ true = h refl in cc)
  left_if true true x y h k = k refl

  -- left where a test fails
  pub left_unless : (a c : Bool) (x y : Option (List (Cell I))) → (c ≡ true → a ≡ true) → (a ≡ false → LeftRise l n top x y) → LeftRise l n top (cond a None x) (cond c None y)
  left_unless true c x y h k = tt
  left_unless false true x y h k = absurd (let e : false ≡ true = h refl in cc)
  left_unless false false x y h k = k refl

  -- the same way for both
  pub left_same : (a : Bool) (x y u v : Option (List (Cell I))) → (a ≡ true → LeftRise l n top x y) → (a ≡ false → LeftRise l n top u v) → LeftRise l n top (cond a x u) (cond a y v)
  left_same true x y u v h k = h refl
  left_same false x y u v h k = k refl
