-- Single cells that are written in rising rows.
use Rattle.std.specs.Prelude.{◌≡◌, ℕ, ℤ, Bool, true, false, cond, List}
use Rattle.cc_base.specs.Lattices.{LatticeOf, OrderLaws}
use Rattle.cc_base.specs.RowLaws.{row_leq-trans}
use Rattle.cc_base.specs.IntegerDomains.{IntegersOf, BoundLaws}
use Rattle.c_layout.specs.declared.data_model.Model.{Model}
use Rattle.c_layout.specs.declared.leaf_lists.Class.{Class}
use Rattle.pointer_domain.specs.declared.base_sets.Bases.{Bases}
use Rattle.value_domain.specs.declared.strings.first_zeros.FirstZero.{FirstZero}
use Rattle.value_domain.specs.declared.values.label_sets.Labels.{Labels}
use Rattle.value_domain.specs.declared.values.values.Value as values
use Rattle.value_domain.specs.declared.values.row_cells.Cell.{Cell}
use Rattle.value_domain.specs.declared.values.row_cells.Cell.TheVariants.{Value, First}
use Rattle.value_domain.specs.Values.Cells.{cell_lattice, cell_order}
use Rattle.value_domain.specs.Values.Values.{value_lattice, value_order}
use Rattle.domain_theorems.proofs.values.Flags.{Sets}
use Rattle.store_cells.specs.ByteWrites.{labelled_null, byte_written}
use Rattle.store_cells.specs.CellReads.{whole_range}
use Rattle.store_cells.specs.ClassNumbers.{is_pointer}
use Rattle.store_cells.specs.RowPositions.{cell_at, put_zero, join_value, write_value}
use Rattle.store_cells.specs.ScalarTypes.{kind_of}
use Rattle.store_monotone.specs.Operations.ConsistentRows.{AreConsistent}
use Rattle.store_monotone.specs.Operations.RowsBelow.{RowsBelow}
use Rattle.store_monotone.specs.Operations.TopCells.{top_value}
use Rattle.store_monotone.proofs.operations.CellSteps.{join_step, write_step}
use Rattle.store_monotone.proofs.operations.Consistent.{IsEven, even_bare, set_keeps}
use Rattle.store_monotone.proofs.operations.ConsistentStores.{IsKept, joined_kept, put_kept}
use Rattle.transfer_monotone.specs.Values.RisingRows.{RowsRise}

module _ {I : Type 0} {l : LatticeOf I} {n : IntegersOf I} {stands : I → ℤ → Type 0} (o : OrderLaws l) (b : BoundLaws l n stands) (all : Bases) (top : List (Cell I)) where
  kept_of : (r s : List (Cell I)) → RowsRise l n top r s → IsKept o b all top r
  kept_of r s h = record { own = row_leq-trans (cell_lattice l) (cell_order o) r s top h.below.small h.below.large; even = h.even }

  module _ (i : ℕ) (e : cell_at top i ≡ Value (top_value n all)) (r s : List (Cell I)) (h : RowsRise l n top r s) (x y : values.Value I) (j : (value_lattice l).leq x y ≡ true) (k : (value_lattice l).leq y (top_value n all) ≡ true) (v : IsEven n x.pointer) where
    small_top : (value_lattice l).leq x (top_value n all) ≡ true
    small_top = (value_order o).transitive x y (top_value n all) j k

    -- a join, which may be left out
    pub join_rises : (on p q : Bool) → Sets p q → RowsRise l n top (cond on (cond p (join_value l n r i x) r) r) (cond q (join_value l n s i y) s)
    join_rises on p q m = record { below = join_step o b all top i e r s x y h.below j k on p q m; even = by_way on p }
      where
        by_way : (on p : Bool) → AreConsistent n (cond on (cond p (join_value l n r i x) r) r)
        by_way true true = (joined_kept o b all top i e x v small_top r (kept_of r s h)).even
        by_way true false = h.even
        by_way false p = h.even

    -- a write, which may be left out; where the larger one is strong, the smaller one is too
    pub write_rises : (on p q a c : Bool) → Sets p q → (q ≡ true → c ≡ true → (on ≡ true) × (p ≡ true) × (a ≡ true)) → RowsRise l n top (cond on (cond p (write_value l n r i x a) r) r) (cond q (write_value l n s i y c) s)
    unfolding write_value
    write_rises on p q a c m u = record { below = write_step o b all top i e r s x y h.below j k on p q a c m u; even = by_way on p a }
      where
        by_way : (on p a : Bool) → AreConsistent n (cond on (cond p (write_value l n r i x a) r) r)
        by_way true true true = (put_kept o b all top i e x v small_top r (kept_of r s h)).even
        by_way true true false = (joined_kept o b all top i e x v small_top r (kept_of r s h)).even
        by_way true false a = h.even
        by_way false p a = h.even

  -- a first zero, which may be left out
  pub zero_rises : (r s : List (Cell I)) → RowsRise l n top r s → (i : ℕ) (f : FirstZero I) (on p : Bool) (t : List (Cell I)) → RowsBelow l top (cond on (cond p (put_zero r i f) r) r) t → RowsRise l n top (cond on (cond p (put_zero r i f) r) r) t
  zero_rises r s h i f on p t k = record { below = k; even = by_way on p }
    where
      by_way : (on p : Bool) → AreConsistent n (cond on (cond p (put_zero r i f) r) r)
      by_way true true = set_keeps n r i (First f) h.even tt
      by_way true false = h.even
      by_way false p = h.even

  -- what a byte of some labels makes of a cell has no base
  pub bytes_even : (m : Model) (c : Class) (s : Bool) (labels : Labels) → IsEven n (byte_written l n m c s labels).pointer
  bytes_even m c s labels = by_class (is_pointer c)
    where
      by_class : (q : Bool) → IsEven n (cond q (labelled_null l labels) (whole_range l n (kind_of m c s) labels false)).pointer
      by_class true = even_bare o b true false
      by_class false = even_bare o b false false
