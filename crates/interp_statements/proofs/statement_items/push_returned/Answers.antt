use Rattle.std.proofs.Common.{true, false, ◌++◌, List, Bool, Some, ap, sym}
use Rattle.c_layout.specs.CheckedTrees.{term_tree}
use Rattle.semantics.specs.SourceMachine.Items.{Item}
use Rattle.semantics.specs.SourceMachine.StatementItems as spec
use Rattle.interp_stack.specs.StackViews.{standing}
use Rattle.interp_stack.proofs.Sequels.{goes_on}
use Rattle.interp_statements.proofs.statement_items.push_returned.Goals as goal

pub returns-then-is_entry : goal.returns-then-is_entry
returns-then-is_entry c = λ u.
    let s = standing u c.args.control.now.items in
    let whole : Bool → List Item = λ is_entry. spec.returned is_entry c.args.at (Some (term_tree c.args.value.now)) ++ s.items in
    goes_on c.push_ignored.result (standing u c.push_ignored.new.control.items).items (whole true) (whole c.args.is_entry) (ap whole (sym c.if-is_entry.true)) (c.push_ignored.ensures u)

pub returns-else-is_entry : goal.returns-else-is_entry
returns-else-is_entry c = λ u.
    let s = standing u c.args.control.now.items in
    let whole : Bool → List Item = λ is_entry. spec.returned is_entry c.args.at (Some (term_tree c.args.value.now)) ++ s.items in
    goes_on c.push_outcome.result (standing u c.push_outcome.new.control.items).items (whole false) (whole c.args.is_entry) (ap whole (sym c.if-is_entry.false)) (c.push_outcome.ensures u)
