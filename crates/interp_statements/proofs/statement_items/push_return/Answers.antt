use Rattle.std.proofs.Common.{[], ◌∷◌, ◌++◌, List, Option, Some, ap, sym, ◌∙◌, append_assoc}
use Rattle.std.specs.Option.{option_map}
use Rattle.c_layout.specs.CheckedTrees.{term_tree}
use Rattle.c_layout.specs.declared.checked_tree.checked_terms.CheckedTerm.{CheckedTerm}
use Rattle.semantics.specs.SourceMachine.Items as machine
use Rattle.semantics.specs.SourceMachine.Items.{Item}
use Rattle.semantics.specs.SourceMachine.StatementItems as spec
use Rattle.interp_stack.specs.StackViews.{standing}
use Rattle.interp_stack.proofs.Sequels.{goes_on}
use Rattle.interp_statements.proofs.statement_items.push_return.Goals as goal

pub returns-in-Some : goal.returns-in-Some
returns-in-Some c = λ u.
    let s = standing u c.args.control.now.items in
    let value = spec.returned c.args.is_entry c.args.at (Some (term_tree c.in-Some.term)) in
    let whole : Option CheckedTerm → List Item = λ v. (spec.returned c.args.is_entry c.args.at (option_map term_tree v) ++ machine.LeaveFunction ∷ []) ++ s.items in
    goes_on c.push_returned.result (standing u c.push_returned.new.control.items).items (value ++ (standing u c.push_item.new.control.items).items) (whole c.args.value.now)
    (ap (λ t. value ++ t.items) (c.in_ok-push_item.ensures u) ∙ sym (append_assoc value (machine.LeaveFunction ∷ []) s.items) ∙ ap whole (sym c.in-Some.is)) (c.push_returned.ensures u)

pub returns-in-None : goal.returns-in-None
returns-in-None c = λ u.
    let s = standing u c.args.control.now.items in
    let whole : Option CheckedTerm → List Item = λ v. (spec.returned c.args.is_entry c.args.at (option_map term_tree v) ++ machine.LeaveFunction ∷ []) ++ s.items in
    ap (λ t. t.items) (c.in_ok-push_item.ensures u) ∙ ap whole (sym c.in-None.is)
