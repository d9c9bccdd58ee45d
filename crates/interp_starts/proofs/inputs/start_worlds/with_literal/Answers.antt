use Rattle.std.proofs.Common.{sym, ◌∙◌}
use Rattle.std.proofs.lemmas.Result.{err_from_is_err_and}
use Rattle.c_layout.specs.CheckedUnits.{literal_view}
use Rattle.memory_model.specs.Effects.UnitStarts.{literal_made}
use Rattle.interp_accesses.specs.WorldViews.{world_view}
use Rattle.interp_starts.proofs.inputs.Lengths.{literal_length}
use Rattle.interp_starts.proofs.inputs.StartSteps.{passes_start}
use Rattle.interp_starts.proofs.inputs.start_worlds.with_literal.Goals as goal

pub returns-in_err-may_make : goal.returns-in_err-may_make
returns-in_err-may_make c =
    let p = err_from_is_err_and c.from_residual.result c.from_residual.ensures.1 in
    let l = literal_view c.args.literal.now in
    rw (p.1, p.2) (passes_start c.in_err-may_make.field-0.0 (world_view c.args.w.now) (world_view c.args.w.now) (literal_made l) c.from.result
    (literal_length l ∙ sym c.literal_size.ensures ∙ sym c.from.ensures)
    c.in_err-may_make.ensures.passes)
