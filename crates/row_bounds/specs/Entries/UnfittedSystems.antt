-- Systems without any fit.
use Rattle.std.specs.Prelude.{ℤ, List, replicate}
use Rattle.cc_base.specs.Lattices.{LatticeOf}
use Rattle.cc_base.specs.IntegerDomains.{IntegersOf}
use Rattle.cc_base.specs.Machine.{Machine}
use Rattle.cfg.specs.declared.programs.Flow.{Flow}
use Rattle.value_domain.specs.declared.values.row_cells.Cell.{Cell}
use Rattle.value_domain.specs.declared.values.row_cells.Cell.TheVariants.{Nothing}
use Rattle.transfer_system.specs.StartRows.{start_row}
use Rattle.transfer_system.specs.System.FlowMachines.{known_start}
use Rattle.row_bounds.specs.Edges.PlainSystems.{plain_machine}

module _ {I : Type 0} where
  -- what edges leave and the row of the entry are as the steps and the start make them
  abbrev pub unfitted_machine : LatticeOf I → IntegersOf I → Flow → List ℤ → Machine (Cell I)
  unfitted_machine l n flow list = record (plain_machine l n flow list) {
    start = known_start flow.width (start_row l n flow (replicate flow.width Nothing));
  }
