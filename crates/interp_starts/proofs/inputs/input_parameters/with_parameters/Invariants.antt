use Rattle.std.proofs.Common.{◌≡◌, map, drop}
use Rattle.c_layout.specs.CheckedUnits.{unit_view, local_view}
use Rattle.memory_model.specs.Effects.UnitStarts as machine
use Rattle.interp_accesses.specs.WorldViews.{world_view}
use Rattle.interp_starts.proofs.inputs.input_parameters.with_parameters.Given as goal

abbrev pub invariant-loop-parameter : goal.invariant-loop-parameter
invariant-loop-parameter l = machine.with_parameters (unit_view l.unit) (map local_view (drop l.parameter-index l.parameters)) (world_view l.w) ≡ machine.with_parameters (unit_view l.unit) (map local_view l.parameters) (world_view l.initial.w)
