use Rattle.std.proofs.Common.{rules, ◌≡◌, ap, sym, ◌∙◌}
use Rattle.c_layout.specs.Types.{view}
use Rattle.c_layout.specs.CheckedTrees as tree
use Rattle.c_layout.specs.CheckedTrees.{TermTree, Typed, term_tree, lvalue_tree}
use Rattle.c_layout.specs.declared.checked_tree.checked_terms.CheckedTerm as of_term
use Rattle.c_layout.specs.declared.checked_tree.checked_terms.TermForm as of_form
use Rattle.cc_base.specs.declared.int_types.IntType.{IntType}
use Rattle.lower_expressions.specs.Assignments.{keeps_old}
use Rattle.semantics.specs.SourceMachine.TermItems.{if_used, step}
use Rattle.semantics.specs.SourceMachine.ConditionItems.{term_items}
use Rattle.interp_stack.specs.StackViews.{StackView, with_items, standing}
use Rattle.interp_stack.proofs.Sequels.{goes_on}
use Rattle.interp_terms.proofs.term_items.push_assigned.Goals as goal

pub returns-in-Step : goal.returns-in-Step
returns-in-Step c = λ u.
    let s = standing u c.args.control.now.items in
    let whole : TermTree → StackView = λ e. with_items (term_items u c.args.used e) s in
    let seen = Typed c.args.term.now.place (view c.args.term.now.ctype) c.args.term.now.parens c.args.term.now.constant (tree.Step c.in-Step.op c.in-Step.time (view c.in-Step.kind) (lvalue_tree c.deref-in-Step.result.now)) in
    let is : term_tree c.args.term.now ≡ seen = search (rules, of_term.the_lemmas, of_form.the_lemmas) in
    let stepped : IntType → StackView = λ kind. with_items (if_used c.args.used (step c.args.term.now.place c.in-Step.op kind (lvalue_tree c.deref-in-Step.result.now) (keeps_old c.in-Step.time c.args.used))) s in
    goes_on c.push_step.result (standing u c.push_step.new.control.items) (stepped c.integer_type-in-Step.result) (whole (term_tree c.args.term.now)) (ap stepped c.integer_type-in-Step.ensures ∙ ap whole (sym is)) (c.push_step.ensures u)
