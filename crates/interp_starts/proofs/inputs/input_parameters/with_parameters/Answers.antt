use Rattle.std.proofs.Common.{◌<◌, length, arith}
use Rattle.std.proofs.lemmas.Result.{err_from_is_err_and}
use Rattle.c_layout.specs.CheckedUnits.{unit_view}
use Rattle.interp_accesses.specs.WorldViews.{world_view}
use Rattle.interp_starts.proofs.inputs.StartLoops.{parameter_last}
use Rattle.interp_starts.proofs.inputs.input_parameters.with_parameters.Goals as goal

pub returns-in_err-with_parameter : goal.returns-in_err-with_parameter
returns-in_err-with_parameter c =
    let p = err_from_is_err_and c.from_residual.result c.from_residual.ensures.1 in
    let within : c.loop-parameter.parameter-index < length c.args.parameters.now = omega arith in
    rw (p.1, p.2) (parameter_last (unit_view c.args.unit.now) c.args.parameters.now c.loop-parameter.parameter-index c.parameter-item.result c.in_err-with_parameter.field-0.0 (world_view c.args.w.now) (world_view c.loop-parameter.w) (world_view c.with_parameter.new.w) within c.parameter-item.is c.loop-parameter.invariant c.in_err-with_parameter.ensures)
