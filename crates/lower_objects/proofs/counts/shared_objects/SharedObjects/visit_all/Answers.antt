use Rattle.std.proofs.Common.{reverse, ap, sym, ◌∙◌}
use Rattle.c_layout.specs.CheckedUnits.{unit_view}
use Rattle.lower_objects.specs.Counts.SharedObjects.{sharing}
use Rattle.lower_objects.proofs.counts.SharedTurns.{top, one_turn, no_turns}
use Rattle.lower_objects.proofs.counts.shared_objects.SharedObjects.visit_all.Goals as goal

pub loop-turn-preserved : goal.loop-turn-preserved
loop-turn-preserved c =
    one_turn (unit_view c.args.unit.now) _ _ (reverse c.loop-turn.stack.items) (reverse c.pop.new.self.items) (reverse c.visit.new.stack.items) c.in-Some.base (sharing c.loop-turn.self) (sharing c.visit.new.self) _ c.loop-turn-test.true
    (ap reverse c.in-Some.ensures.items ∙ top c.pop.new.self.items c.in-Some.base) c.in_ok-visit-in-Some.ensures.sharing c.in_ok-visit-in-Some.ensures.stack c.loop-turn.invariant

pub returns : goal.returns
returns c = sym (no_turns (unit_view c.args.unit.now) _ _ (reverse c.loop-turn.stack.items) (sharing c.loop-turn.self) c.loop-turn-test.false) ∙ c.loop-turn.invariant
