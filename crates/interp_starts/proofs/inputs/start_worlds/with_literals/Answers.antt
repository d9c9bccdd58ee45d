use Rattle.std.proofs.Common.{◌<◌, length, arith}
use Rattle.std.proofs.lemmas.Result.{err_from_is_err_and}
use Rattle.interp_accesses.specs.WorldViews.{world_view}
use Rattle.interp_starts.proofs.inputs.StartLoops.{literal_last}
use Rattle.interp_starts.proofs.inputs.start_worlds.with_literals.Goals as goal

pub returns-in_err-with_literal : goal.returns-in_err-with_literal
returns-in_err-with_literal c =
    let p = err_from_is_err_and c.from_residual.result c.from_residual.ensures.1 in
    let within : c.loop-literal.literal-index < length c.args.literals.now = omega arith in
    rw (p.1, p.2) (literal_last c.args.literals.now c.loop-literal.literal-index c.literal-item.result c.in_err-with_literal.field-0.0 (world_view c.args.w.now) (world_view c.loop-literal.w) (world_view c.with_literal.new.w) within c.literal-item.is c.loop-literal.invariant c.in_err-with_literal.ensures)
