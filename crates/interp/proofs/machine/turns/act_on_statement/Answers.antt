use Rattle.std.proofs.Common.{Some, sym, ap}
use Rattle.c_layout.specs.CheckedUnits.{unit_view}
use Rattle.interp_stack.specs.declared.items.Item7.TheVariants as held
use Rattle.interp_steps.specs.MachineItems.Moves.{turn_of}
use Rattle.interp_steps.proofs.machine_items.ToldTurns.{turns_by, turns_same, line_counted}
use Rattle.interp_stack.specs.StackViews.{standing}
use Rattle.interp_steps.specs.MachineItems.MachineViews.{state_view}
use Rattle.interp.proofs.machine.turns.act_on_statement.Goals as goal

pub returns-in-ReadLine : goal.returns-in-ReadLine
returns-in-ReadLine c =
    let u = unit_view c.args.unit.now in
    turns_same u (turn_of u (held.ReadLine c.in-ReadLine.at c.in-ReadLine.wants_line) c.args.m.now) (turn_of u c.args.item c.args.m.now) c.step-in-ReadLine.result c.read_line.new.m (ap (λ i. turn_of u i c.args.m.now) (sym c.in-ReadLine.is))
    (turns_by u (turn_of u (held.ReadLine c.in-ReadLine.at c.in-ReadLine.wants_line) c.args.m.now) c.step-in-ReadLine.result c.read_line.new.m c.read_line.result (Some c.in-ReadLine.at) c.step-in-ReadLine.ensures (c.read_line.ensures c.in-ReadLine.at) (line_counted u c.in-ReadLine.at c.in-ReadLine.wants_line (standing u c.args.m.now.control.items) (state_view u c.args.m.now)))

pub returns-in-Statements : goal.returns-in-Statements
returns-in-Statements c =
    let u = unit_view c.args.unit.now in
    turns_same u (turn_of u (held.Statements c.in-Statements.statements) c.args.m.now) (turn_of u c.args.item c.args.m.now) c.first_statement.result c.first_statement.new.m (ap (λ i. turn_of u i c.args.m.now) (sym c.in-Statements.is))
    (c.first_statement.ensures u)
