-- Systems whose edges leave rows as the steps make them.
use Rattle.std.specs.Prelude.{ℤ, List}
use Rattle.cc_base.specs.Lattices.{LatticeOf}
use Rattle.cc_base.specs.IntegerDomains.{IntegersOf}
use Rattle.cc_base.specs.Machine.{Machine}
use Rattle.cfg.specs.declared.programs.Flow.{Flow}
use Rattle.value_domain.specs.declared.values.row_cells.Cell.{Cell}
use Rattle.transfer_system.specs.System.BlockPasses.{edge_end}
use Rattle.transfer_system.specs.System.FlowMachines.{edge_at, flow_machine}

module _ {I : Type 0} where
  -- the system of a program without the fit of what edges leave
  abbrev pub plain_machine : LatticeOf I → IntegersOf I → Flow → List ℤ → Machine (Cell I)
  plain_machine l n flow list = record (flow_machine l n flow list) { through = λ number row. edge_end l n flow (edge_at flow.edges.items number).from number row }
