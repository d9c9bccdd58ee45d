use Rattle.std.proofs.Common.{map, sym, ap, subst, ◌∙◌}
use Rattle.std.proofs.lemmas.Result.{err_from_is_err_and}
use Rattle.c_layout.specs.CheckedUnits.{unit_view, static_view, literal_view}
use Rattle.memory_model.specs.Effects.Worlds.{done}
use Rattle.interp_accesses.specs.WorldViews.{world_view}
use Rattle.interp_starts.specs.Starts.Rewrites.{objects_made, literals_made}
use Rattle.interp_starts.specs.Inputs.Starts.{StopsStart}
use Rattle.interp_starts.proofs.inputs.StartSteps.{start_objects, start_literals}
use Rattle.interp_starts.proofs.inputs.start_worlds.start.Goals as goal

pub returns-in_err-with_objects : goal.returns-in_err-with_objects
returns-in_err-with_objects c =
    let p = err_from_is_err_and c.from_residual.result c.from_residual.ensures.1 in
    let u = unit_view c.args.unit.now in
    let why = c.in_err-with_objects.field-0.0 in
    let v = world_view c.with_objects.new.w in
    rw (p.1, p.2) (start_objects u (world_view c.args.w.now) v why
    (subst (λ os. StopsStart (done (objects_made u (map static_view os) (world_view c.args.w.now))) why v) c.as_slice.ensures.value c.in_err-with_objects.ensures))

pub returns-in_err-with_literals : goal.returns-in_err-with_literals
returns-in_err-with_literals c =
    let p = err_from_is_err_and c.from_residual-in_err-with_literals.result c.from_residual-in_err-with_literals.ensures.1 in
    let u = unit_view c.args.unit.now in
    let why = c.in_err-with_literals.field-0.0 in
    let z = world_view c.with_objects.new.w in
    let v = world_view c.with_literals.new.w in
    rw (p.1, p.2) (start_literals u (world_view c.args.w.now) z v why
    (ap (λ os. done (objects_made u (map static_view os) (world_view c.args.w.now))) (sym c.as_slice.ensures.value) ∙ c.in_ok-with_objects.ensures)
    (subst (λ ls. StopsStart (done (literals_made (map literal_view ls) z)) why v) c.as_slice-2.ensures.value c.in_err-with_literals.ensures))
