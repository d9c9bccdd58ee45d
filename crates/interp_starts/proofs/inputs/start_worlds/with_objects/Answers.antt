use Rattle.std.proofs.Common.{◌<◌, length, arith}
use Rattle.std.proofs.lemmas.Result.{err_from_is_err_and}
use Rattle.c_layout.specs.CheckedUnits.{unit_view}
use Rattle.interp_accesses.specs.WorldViews.{world_view}
use Rattle.interp_starts.proofs.inputs.StartLoops.{object_last}
use Rattle.interp_starts.proofs.inputs.start_worlds.with_objects.Goals as goal

pub returns-in_err-with_object : goal.returns-in_err-with_object
returns-in_err-with_object c =
    let p = err_from_is_err_and c.from_residual.result c.from_residual.ensures.1 in
    let within : c.loop-object.object-index < length c.args.objects.now = omega arith in
    rw (p.1, p.2) (object_last (unit_view c.args.unit.now) c.args.objects.now c.loop-object.object-index c.object-item.result c.in_err-with_object.field-0.0 (world_view c.args.w.now) (world_view c.loop-object.w) (world_view c.with_object.new.w) within c.object-item.is c.loop-object.invariant c.in_err-with_object.ensures)
