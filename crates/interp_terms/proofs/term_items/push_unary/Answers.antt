use Rattle.std.proofs.Common.{rules, ◌≡◌, ap, sym}
use Rattle.c_layout.specs.Types.{view}
use Rattle.c_layout.specs.CheckedTrees as tree
use Rattle.c_layout.specs.CheckedTrees.{TermTree, Typed, term_tree}
use Rattle.c_layout.specs.declared.checked_tree.checked_terms.CheckedTerm as of_term
use Rattle.c_layout.specs.declared.checked_tree.checked_terms.TermForm as of_form
use Rattle.semantics.specs.SourceMachine.ConditionItems.{term_items}
use Rattle.interp_stack.specs.StackViews.{StackView, with_items, standing}
use Rattle.interp_stack.proofs.Sequels.{goes_on}
use Rattle.interp_terms.proofs.term_items.push_unary.Goals as goal

pub returns-in-Discard : goal.returns-in-Discard
returns-in-Discard c = λ u.
    let s = standing u c.args.control.now.items in
    let whole : TermTree → StackView = λ e. with_items (term_items u c.args.used e) s in
    let seen = Typed c.args.term.now.place (view c.args.term.now.ctype) c.args.term.now.parens c.args.term.now.constant (tree.Discard (term_tree c.deref-in-Discard.result.now)) in
    let is : term_tree c.args.term.now ≡ seen = search (rules, of_term.the_lemmas, of_form.the_lemmas) in
    goes_on c.push_item.result (standing u c.push_item.new.control.items) (whole seen) (whole (term_tree c.args.term.now)) (ap whole (sym is)) (c.push_item.ensures u)
