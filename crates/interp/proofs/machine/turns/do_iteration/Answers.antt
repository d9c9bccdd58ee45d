use Rattle.std.proofs.Common.{refl, sym}
use Rattle.c_layout.specs.CheckedTrees.{statement_tree}
use Rattle.c_layout.specs.CheckedUnits.{unit_view}
use Rattle.semantics.specs.SourceMachine.SourceSteps.{turn_by}
use Rattle.interp_stack.specs.ItemViews.{loop_turn}
use Rattle.interp_stack.specs.StackViews.{on_statement, standing}
use Rattle.interp_stack.specs.declared.items.Way7.TheVariants as way
use Rattle.interp_steps.specs.MachineItems.MachineViews.{state_view}
use Rattle.interp_steps.proofs.machine_items.ToldTurns.{turns_held, loop_turned}
use Rattle.interp.proofs.machine.turns.do_iteration.Goals as goal

pub returns : goal.returns
returns c =
    let u = unit_view c.args.unit.now in
    let s = state_view u c.args.m.now in
    let x = statement_tree c.args.statement.now in
    let old = standing u c.args.m.now.control.items in
    let m = record c.args.m.now { control = c.push_loop.new.control } in
    turns_held u (turn_by u s (on_statement way.Turn x old).items) c.instead.result m s (standing u c.push_loop.new.control.items).items (loop_turn u x) c.push_loop.result (sym (loop_turned u s old.items x)) refl
    (c.push_loop.ensures u)
    c.instead.ensures.reply
    c.instead.ensures.counted
