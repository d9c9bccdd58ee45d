use Rattle.std.proofs.Common.{◌≡◌, ◌<◌, ◌∷◌, ◌++◌, length, map, Bool, IfOk, refl, sym, ap, subst, ◌∙◌, arith}
use Rattle.std.specs.List.{between}
use Rattle.std.proofs.lemmas.Slice.{first_rest}
use Rattle.c_layout.specs.CheckedTrees.{statement_tree}
use Rattle.semantics.specs.SourceMachine.SourceSteps.{is_entry}
use Rattle.semantics.specs.SourceMachine.StatementItems.{of_statement, list_statements}
use Rattle.interp_stack.specs.StackViews.{standing}
use Rattle.interp_steps.specs.MachineItems.MachineViews.{state_view}
use Rattle.interp_steps.specs.MachineItems.Moves.{HeldAs, turn_with}
use Rattle.interp_steps.specs.declared.machine_items.item_turns.Turned7.{Turned7}
use Rattle.interp_steps.proofs.machine_items.Entries.{frames_empty}
use Rattle.interp_steps.proofs.machine_items.ToldTurns.{turns_held}
use Rattle.interp_steps.proofs.machine_items.item_turns.first_statement.Goals as goal

pub returns-in-len1-up : goal.returns-in-len1-up
returns-in-len1-up c = λ u.
    let before = state_view u c.args.m.now in
    let all = c.args.statements.now in
    let first = c.first-item.result in
    let rest = between 1 (length all) all in
    let some : 0 < length all = omega (arith, c.in-len1-up.len_at_least) in
    let split : all ≡ first ∷ rest = first_rest all first some ∙ ap (λ x. x ∷ rest) (sym c.first-item.is) in
    let s = record before { control = list_statements (map statement_tree rest) ++ before.control } in
    let m = record c.args.m.now { control = c.push_first.new.control } in
    let items = (standing u c.push_first.new.control.items).items in
    let same : c.is_empty-is_entry.result ≡ is_entry before.frames = c.is_empty-is_entry.ensures ∙ frames_empty u c.args.m.now.frames in
    let family : Bool → Type 0 = λ b. IfOk c.push_first.result (λ _. items ≡ of_statement u b (statement_tree first) ++ s.control) in
    turns_held u (turn_with u (list_statements (map statement_tree all)) c.args.m.now) c.quiet-in-len1-up.result m s items (of_statement u (is_entry before.frames) (statement_tree first)) c.push_first.result
    (ap (λ xs. turn_with u (list_statements (map statement_tree xs)) c.args.m.now) split)
    refl
    (subst family same (c.push_first.ensures u))
    (subst (λ (t : Turned7). HeldAs c.push_first.result t.reply) (sym c.quiet-in-len1-up.ensures) c.held.ensures)
    (ap (λ (t : Turned7). t.counted) c.quiet-in-len1-up.ensures)
