-- Closed maps, rounded or not, of systems whose bounds lie from -2^64 to 2^64.
use Rattle.std.specs.Prelude.{◌≡◌, ◌≤◌, ℤ, List, length, replicate, Option, Some}
use Rattle.cc_base.specs.ClosedMap.{IsClosed}
use Rattle.cc_base.specs.Lattices.{LatticeOf}
use Rattle.cc_base.specs.IntegerDomains.{IntegersOf}
use Rattle.c_layout.specs.CheckedUnits.{UnitView}
use Rattle.cfg.specs.declared.programs.Flow.{Flow}
use Rattle.value_domain.specs.declared.values.row_cells.Cell.{Cell}
use Rattle.value_domain.specs.declared.values.row_cells.Cell.TheVariants.{Nothing}
use Rattle.value_domain.specs.Values.Cells.{cell_lattice}
use Rattle.store_objects.specs.LiveBases.{most_bases}
use Rattle.transfer_edges.specs.StartRows.{start_row}
use Rattle.transfer_system.specs.BoundedRows.OwnRows.{program_bases}
use Rattle.transfer_system.specs.System.FlowMachines.{start_of, flow_machine}
use Rattle.transfer_monotone.specs.Values.LaidOut.{IsLaidOut}
use Rattle.transfer_sound.specs.Induction.Covering.{Begins, Carries}
use Rattle.transfer_sound.specs.InvariantMaps.CarriedMaps.{EntryInGamma}
use Rattle.certificate_theorems.specs.Sound.FittedRows.{IsWide}

module _ {I : Type 0} (l : LatticeOf I) (n : IntegersOf I) (gamma : I → ℤ → Type 0) (flow : Flow) where
  abbrev pub ClosedMapsAreCarried : List ℤ → Type 0
  ClosedMapsAreCarried list = IsWide list → IsLaidOut (program_bases (length flow.bases.items)) flow → length flow.bases.items ≤ most_bases
      → (rows : List (Option (List (Cell I)))) → IsClosed (cell_lattice l) (flow_machine l n flow list) rows → Carries l n gamma flow rows

  -- where the row of another system's entry is the start row, and stands for the states in which runs of the unit begin
  abbrev pub ClosedMapsBegin : List ℤ → List ℤ → Type 0
  ClosedMapsBegin list other = IsWide list → IsLaidOut (program_bases (length flow.bases.items)) flow → length flow.bases.items ≤ most_bases
      → (rows : List (Option (List (Cell I)))) → IsClosed (cell_lattice l) (flow_machine l n flow list) rows
      → start_row l n flow (replicate flow.width Nothing) ≡ Some (start_of l n flow other) → (u : UnitView) → EntryInGamma l n gamma flow other u → Begins l n gamma flow u rows
