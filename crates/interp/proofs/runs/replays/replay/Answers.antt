use Rattle.std.proofs.lemmas.Result.{err_from_is_err_and}
use Rattle.c_layout.specs.CheckedUnits.{unit_view}
use Rattle.interp_accesses.specs.WorldViews.{world_view}
use Rattle.interp.proofs.runs.Beginnings.{begun_before, stopped_before, told_small_first, untold_first}
use Rattle.interp.proofs.runs.replays.replay.Goals as goal

pub returns-in_err-end-in-Err-clause-stop : goal.returns-in_err-end-in-Err-clause-stop
returns-in_err-end-in-Err-clause-stop c =
    let p = err_from_is_err_and c.from_residual-in_err-end-in-Err.result c.from_residual-in_err-end-in-Err.ensures.1 in
    let u = unit_view c.args.unit.now in
    let draws = c.args.draws.now in
    let w = world_view c.start.new.w in
    rw (p.1, p.2) (untold_first u draws c.args.steps c.in-Err.stop w c.in_err-end-in-Err.field-0.0
    (stopped_before u draws (world_view c.in_ok-world.world) w c.in-Err.stop c.in_ok-world.ensures.world c.in-Err.ensures)
    c.in_err-end-in-Err.ensures)

pub returns-in-Ok-clause-outcome : goal.returns-in-Ok-clause-outcome
returns-in-Ok-clause-outcome c =
    c.replay_from.ensures.outcome (begun_before (unit_view c.args.unit.now) c.args.draws.now (world_view c.in_ok-world.world) (world_view c.start.new.w) c.in_ok-world.ensures.world c.in-Ok.ensures)

pub returns-in-Ok-clause-stop : goal.returns-in-Ok-clause-stop
returns-in-Ok-clause-stop c =
    c.replay_from.ensures.stop (begun_before (unit_view c.args.unit.now) c.args.draws.now (world_view c.in_ok-world.world) (world_view c.start.new.w) c.in_ok-world.ensures.world c.in-Ok.ensures)

pub returns-in_ok-end-in-Err-clause-outcome : goal.returns-in_ok-end-in-Err-clause-outcome
returns-in_ok-end-in-Err-clause-outcome c =
    let u = unit_view c.args.unit.now in
    let draws = c.args.draws.now in
    let w = world_view c.start.new.w in
    told_small_first u draws c.args.steps c.in-Err.stop w c.in_ok-end-in-Err.end c.told_small.result
    (stopped_before u draws (world_view c.in_ok-world.world) w c.in-Err.stop c.in_ok-world.ensures.world c.in-Err.ensures)
    c.in_ok-end-in-Err.ensures
    c.told_small.ensures.within c.told_small.ensures.diags c.told_small.ensures.end c.told_small.ensures.used
