use Rattle.std.proofs.lemmas.Result.{err_from_is_err_and}
use Rattle.c_layout.specs.CheckedUnits.{unit_view}
use Rattle.interp_accesses.specs.WorldViews.{world_view}
use Rattle.interp.proofs.runs.Beginnings.{reaches_first, outcome_told}
use Rattle.interp.proofs.runs.replays.replay_from.Goals as goal

pub returns-in_err-end-clause-stop : goal.returns-in_err-end-clause-stop
returns-in_err-end-clause-stop c = λ begun.
    let p = err_from_is_err_and c.from_residual.result c.from_residual.ensures.1 in
    let u = unit_view c.args.unit.now in
    let draws = c.args.draws.now in
    rw (p.1, p.2) (c.in_err-end.ensures draws (reaches_first u draws c.args.steps c.in-Ok.m (world_view c.args.world) c.new-found.result.items begun c.in-Ok.ensures c.new-found.ensures.items))

pub returns-clause-outcome : goal.returns-clause-outcome
returns-clause-outcome c = λ begun.
    let u = unit_view c.args.unit.now in
    let draws = c.args.draws.now in
    outcome_told u draws c.args.steps c.in_ok-end.end c.follow.new.m c.follow.new.found.items c.outcome.result
    (c.in_ok-end.ensures draws (reaches_first u draws c.args.steps c.in-Ok.m (world_view c.args.world) c.new-found.result.items begun c.in-Ok.ensures c.new-found.ensures.items))
    c.outcome.ensures.diags c.outcome.ensures.end c.outcome.ensures.used
