-- What cells become where some of their bytes are overwritten one by one.
use Rattle.std.specs.Prelude.{Bool, true, false, cond}
use Rattle.cc_base.specs.Lattices.{LatticeOf}
use Rattle.cc_base.specs.IntegerDomains.{IntegersOf}
use Rattle.c_layout.specs.declared.data_model.Model.{Model}
use Rattle.c_layout.specs.declared.leaf_lists.Class.{Class}
use Rattle.pointer_domain.specs.declared.pointer_sets.Pointers.{Pointers}
use Rattle.pointer_domain.specs.PointerLattice.{no_pointer}
use Rattle.value_domain.specs.declared.values.values.Value.{Value}
use Rattle.value_domain.specs.declared.values.label_sets.Labels.{Labels}
use Rattle.store_cells.specs.ScalarTypes.{kind_of}
use Rattle.store_cells.specs.CellReads.{whole_range}
use Rattle.store_cells.specs.ClassNumbers.{is_pointer}

module _ {I : Type 0} where
  -- null alone
  abbrev pub null_pointer : LatticeOf I → Pointers I
  null_pointer l = record (no_pointer l) { null = true }

  abbrev pub labelled_null : LatticeOf I → Labels → Value I
  labelled_null l labels = record { num = l.least; pointer = null_pointer l; indeterminate = false; labels = labels }

  -- a cell whose bytes were set to numbers with labels: any number of its type or, for a pointer, null
  abbrev pub byte_written : LatticeOf I → IntegersOf I → Model → Class → Bool → Labels → Value I
  byte_written l n m class signed labels = cond (is_pointer class) (labelled_null l labels) (whole_range l n (kind_of m class signed) labels false)
