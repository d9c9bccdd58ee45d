use Rattle.std.proofs.Common.{◌≡◌, Bool, refl, subst, ◌∙◌}
use Rattle.c_layout.specs.CheckedTrees.{statement_tree}
use Rattle.c_layout.specs.CheckedUnits.{unit_view}
use Rattle.semantics.specs.SourceMachine.SourceSteps.{is_entry, turn_by}
use Rattle.semantics.specs.SourceMachine.StatementItems.{of_statement}
use Rattle.interp_stack.specs.StackViews.{Adds, on_statement, standing}
use Rattle.interp_stack.specs.declared.items.Way7.TheVariants as way
use Rattle.interp_steps.specs.MachineItems.MachineViews.{state_view}
use Rattle.interp_steps.proofs.machine_items.Entries.{frames_empty}
use Rattle.interp_steps.proofs.machine_items.ToldTurns.{turns_held}
use Rattle.interp.proofs.machine.turns.do_statement.Goals as goal

pub returns : goal.returns
returns c =
    let u = unit_view c.args.unit.now in
    let s = state_view u c.args.m.now in
    let x = statement_tree c.args.statement.now in
    let old = c.args.m.now.control.items in
    let new = c.push_statement.new.control.items in
    let m = record c.args.m.now { control = c.push_statement.new.control } in
    let same : c.is_empty.result ≡ is_entry s.frames = c.is_empty.ensures ∙ frames_empty u c.args.m.now.frames in
    let family : Bool → Type 0 = λ b. Adds u (of_statement u b x) old c.push_statement.result new in
    turns_held u (turn_by u s (on_statement way.Whole x (standing u old)).items) c.instead.result m s (standing u new).items (of_statement u (is_entry s.frames) x) c.push_statement.result refl refl
    (subst family same (c.push_statement.ensures u))
    c.instead.ensures.reply
    c.instead.ensures.counted
