use Rattle.std.proofs.Common.{reverse, ap, sym, ◌∙◌}
use Rattle.c_layout.specs.CheckedUnits.{unit_view}
use Rattle.lower_tables.specs.Bases.BaseTables.{table}
use Rattle.lower_tables.proofs.bases.Stacks.{top}
use Rattle.lower_tables.proofs.bases.SharedTurns.{one_turn, no_turns}
use Rattle.lower_tables.proofs.bases.program_bases.BaseTable.make_all.Goals as goal

pub loop-turn-preserved : goal.loop-turn-preserved
loop-turn-preserved c =
    one_turn (unit_view c.args.unit.now) _ _ (reverse c.loop-turn.stack.items) (reverse c.pop.new.self.items) (reverse c.make.new.stack.items) c.in-Some.base (table c.loop-turn.self) (table c.make.new.self) _ c.loop-turn-test.true
    (ap reverse c.in-Some.ensures.items ∙ top c.pop.new.self.items c.in-Some.base) c.in_ok-make-in-Some.ensures.table c.in_ok-make-in-Some.ensures.stack c.loop-turn.invariant

pub returns : goal.returns
returns c = sym (no_turns (unit_view c.args.unit.now) _ _ (reverse c.loop-turn.stack.items) (table c.loop-turn.self) c.loop-turn-test.false) ∙ c.loop-turn.invariant
