use Rattle.std.proofs.Common.{arith}
use Rattle.c_layout.specs.CheckedUnits.{unit_view}
use Rattle.interp.proofs.runs.Turns.{goes_further, made_all, ends}
use Rattle.interp.proofs.runs.runs.follow.Goals as goal

pub returns-then-made-steps : goal.returns-then-made-steps
returns-then-made-steps c = λ draws p.
    made_all (unit_view c.args.unit.now) draws c.args.steps c.turns.m c.turns.found.items c.turns.made (c.turns.invariant.1 draws p) (omega arith) c.turns.invariant.0

pub returns-in-Err : goal.returns-in-Err
returns-in-Err c = λ draws p.
    ends (unit_view c.args.unit.now) draws c.args.steps c.turns.m c.go_on.new.m c.turns.found.items c.go_on.new.found.items c.turns.made c.in-Err.stop c.no_outcome.result (c.turns.invariant.1 draws p) (omega arith) c.turns.invariant.0 (c.in-Err.ensures.next c.turns.made) c.in-Err.ensures.within c.no_outcome.ensures

pub turns-preserved : goal.turns-preserved
turns-preserved c = (
  c.in-Ok.ensures.within,
  λ draws p. rw c.steps_in-made.ensures.counted (goes_further (unit_view c.args.unit.now) draws c.args.steps c.turns.m c.go_on.new.m c.turns.found.items c.go_on.new.found.items c.turns.made c.in-Ok.is_step (c.turns.invariant.1 draws p) (omega arith) c.turns.invariant.0 (c.in-Ok.ensures.next c.turns.made)),
)
