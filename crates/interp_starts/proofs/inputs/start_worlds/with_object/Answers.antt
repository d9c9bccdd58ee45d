use Rattle.std.proofs.lemmas.Result.{err_from_is_err_and}
use Rattle.c_layout.specs.CheckedUnits.{unit_view, static_view}
use Rattle.c_layout.specs.Layout.{size_of_type}
use Rattle.c_layout.specs.StructViews.{structs_view}
use Rattle.c_layout.specs.Types.{view}
use Rattle.memory_model.specs.Effects.UnitStarts.{static_instance}
use Rattle.interp_accesses.specs.WorldViews.{world_view}
use Rattle.interp_starts.proofs.inputs.Lengths.{object_length}
use Rattle.interp_starts.proofs.inputs.StartSteps.{passes_start}
use Rattle.interp_starts.proofs.inputs.start_worlds.with_object.Goals as goal

pub returns-in_err-may_make_object : goal.returns-in_err-may_make_object
returns-in_err-may_make_object c =
    let p = err_from_is_err_and c.from_residual.result c.from_residual.ensures.1 in
    let unit = c.args.unit.now in
    let o = static_view c.args.object.now in
    rw (p.1, p.2) (passes_start c.in_err-may_make_object.field-0.0 (world_view c.args.w.now) (world_view c.args.w.now) (static_instance (unit_view unit) o) (size_of_type (structs_view unit.structs) unit.model.pointer (view c.args.object.now.ctype))
    (object_length (unit_view unit) o)
    c.in_err-may_make_object.ensures)
