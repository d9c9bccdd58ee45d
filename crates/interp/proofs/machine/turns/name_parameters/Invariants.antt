use Rattle.std.proofs.Common.{◌≡◌}
use Rattle.c_layout.specs.CheckedUnits.{unit_view}
use Rattle.interp_steps.specs.MachineItems.MachineViews.{names_view, parameters_named}
use Rattle.interp.proofs.machine.turns.name_parameters.Given as goal

abbrev pub invariant-loop-k : goal.invariant-loop-k
invariant-loop-k l = names_view l.names.items ≡ parameters_named (unit_view l.unit) l.k
