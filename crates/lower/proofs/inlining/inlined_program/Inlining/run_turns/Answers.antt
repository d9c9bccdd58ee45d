use Rattle.std.proofs.Common.{map, reverse, ap, sym, ◌∙◌}
use Rattle.c_layout.specs.CheckedUnits.{unit_view}
use Rattle.lower_tables.specs.Counts.Preparations.{templates_view}
use Rattle.lower.specs.Inlining.Inlinings.{copy_view, inlining}
use Rattle.lower_tables.proofs.bases.Stacks.{top_view}
use Rattle.lower.proofs.inlining.InliningTurns.{one_turn, no_turns}
use Rattle.lower.proofs.inlining.inlined_program.Inlining.run_turns.Goals as goal

pub loop-turn-preserved : goal.loop-turn-preserved
loop-turn-preserved c =
    one_turn (unit_view c.args.unit.now) (templates_view c.args.templates.now) _ _ (inlining c.loop-turn.self).stack (reverse (map copy_view c.pop.new.self.items)) (copy_view c.in-Some.copy) (inlining c.loop-turn.self).program (inlining c.advance.new.self) _ c.loop-turn-test.true
    (ap (λ xs. reverse (map copy_view xs)) c.in-Some.ensures.items ∙ top_view copy_view c.pop.new.self.items c.in-Some.copy) c.in_ok-advance-in-Some.ensures c.loop-turn.invariant

pub returns : goal.returns
returns c = sym (no_turns (unit_view c.args.unit.now) (templates_view c.args.templates.now) _ _ (inlining c.loop-turn.self).stack (inlining c.loop-turn.self).program c.loop-turn-test.false) ∙ c.loop-turn.invariant
