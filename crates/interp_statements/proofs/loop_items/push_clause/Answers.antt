use Rattle.std.proofs.Common.{◌++◌, List, Option, ap, sym}
use Rattle.std.specs.Option.{option_map}
use Rattle.c_layout.specs.CheckedTrees.{term_tree}
use Rattle.c_layout.specs.declared.checked_tree.checked_terms.CheckedTerm.{CheckedTerm}
use Rattle.semantics.specs.SourceMachine.Items as machine
use Rattle.semantics.specs.SourceMachine.Items.{Item}
use Rattle.semantics.specs.SourceMachine.StatementItems as spec
use Rattle.interp_stack.specs.StackViews.{with_item, standing}
use Rattle.interp_stack.proofs.Sequels.{items_go_on}
use Rattle.interp_statements.proofs.loop_items.push_clause.Goals as goal

pub returns-in-Some : goal.returns-in-Some
returns-in-Some c = λ u.
    let s = standing u c.args.control.now.items in
    let whole : Option CheckedTerm → List Item = λ v. spec.clause (option_map term_tree v) ++ s.items in
    items_go_on c.push_item.result (standing u c.push_item.new.control.items) (with_item (machine.Unused (term_tree c.in-Some.term)) s) (whole c.args.clause.now) (ap whole (sym c.in-Some.is)) (c.push_item.ensures u)

pub returns-in-None : goal.returns-in-None
returns-in-None c = λ u.
    let s = standing u c.args.control.now.items in
    let whole : Option CheckedTerm → List Item = λ v. spec.clause (option_map term_tree v) ++ s.items in
    ap whole (sym c.in-None.is)
