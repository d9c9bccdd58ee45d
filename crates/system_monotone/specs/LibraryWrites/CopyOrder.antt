-- Copies of more bytes to more places.
use Rattle.std.specs.Prelude.{◌≡◌, true, List}
use Rattle.cc_base.specs.Lattices.{LatticeOf}
use Rattle.cc_base.specs.IntegerDomains.{IntegersOf}
use Rattle.cfg.specs.declared.programs.Flow.{Flow}
use Rattle.pointer_domain.specs.declared.base_sets.Bases.{Bases}
use Rattle.pointer_domain.specs.BaseSets.{bases_within}
use Rattle.value_domain.specs.Values.LabelSets.{labels_leq}
use Rattle.value_domain.specs.declared.values.row_cells.Cell.{Cell}
use Rattle.store_monotone.specs.Operations.Placements.{WindowWithin}
use Rattle.transfer_library_writes.specs.declared.copied_bytes.CopiedBytes.{CopiedBytes}
use Rattle.transfer_library_writes.specs.declared.copied_bytes.CopyWrite.{CopyWrite}
use Rattle.transfer_library_writes.specs.CopyWrites.{write_copy}
use Rattle.transfer_monotone.specs.Values.RisingRows.{PointersRise}
use Rattle.transfer_monotone.specs.Values.StepLaws.{FlowRows}

module _ {I : Type 0} (l : LatticeOf I) (n : IntegersOf I) (all : Bases) where
  -- bytes that can hold more
  pub record BytesBelow (c d : CopiedBytes I) : Type 0 where
    pub indeterminate : (c.indeterminate ≡ true → d.indeterminate ≡ true)
    pub labels : labels_leq c.labels d.labels ≡ true
    pub pointers : PointersRise l n all c.pointers d.pointers
    pub numbers : (c.numbers ≡ true → d.numbers ≡ true)

  -- a write of such bytes to more places
  pub record CopyBelow (w v : CopyWrite I) : Type 0 where
    pub bases : bases_within w.bases v.bases ≡ true
    pub window : WindowWithin w.window v.window
    pub bytes : BytesBelow w.bytes v.bytes

  -- bytes that can hold more, and are written to more places of a larger row, leave a larger row
  abbrev pub CopiesRise : Flow → Type 0
  CopiesRise flow = (small large : CopyWrite I) → CopyBelow small large → (r s : List (Cell I)) → FlowRows l n all flow r s → FlowRows l n all flow (write_copy l n flow small r) (write_copy l n flow large s)
