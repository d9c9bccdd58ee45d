use Rattle.memory_model.specs.Effects.Worlds.{Violated}
use Rattle.interp_accesses.specs.WorldViews.{world_view}
use Rattle.interp_accesses.proofs.Halts.{halts_by}
use Rattle.interp_accesses.proofs.pointer_steps.touched.Goals as goal

pub returns-in-Ok : goal.returns-in-Ok
returns-in-Ok c = c.in-Ok.ensures.outcome (world_view c.args.w.now)

pub returns-in-Err : goal.returns-in-Err
returns-in-Err c = halts_by c.stopped_by.result _ _ _ Violated (c.in-Err.ensures.outcome (world_view c.args.w.now)) c.stopped_by.ensures
