use Rattle.std.proofs.Common.{rules, ◌≡◌, List, ap, sym}
use Rattle.c_layout.specs.Types.{view}
use Rattle.c_layout.specs.CheckedTrees as tree
use Rattle.c_layout.specs.CheckedTrees.{TermTree, Typed, term_tree}
use Rattle.c_layout.specs.declared.checked_tree.checked_terms.CheckedTerm as of_term
use Rattle.c_layout.specs.declared.checked_tree.checked_terms.TermForm as of_form
use Rattle.semantics.specs.SourceMachine.Items.{Item}
use Rattle.interp_stack.specs.StackViews.{on_term, standing}
use Rattle.interp_stack.specs.declared.items.Use7.TheVariants as use_of
use Rattle.interp_statements.specs.Choices.{followed}
use Rattle.interp_statements.proofs.Ends.{met_as}
use Rattle.interp_statements.proofs.choices.meet_pick.Goals as goal

pub returns-in-Conditional-clause-met : goal.returns-in-Conditional-clause-met
returns-in-Conditional-clause-met c = λ u.
    let s = standing u c.args.control.now.items in
    let e = c.args.term.now in
    let whole : TermTree → List Item = λ x. followed c.args.holds (on_term u use_of.Pick x s) in
    let seen = Typed e.place (view e.ctype) e.parens e.constant (tree.Conditional (term_tree c.in-Conditional.field-0.value) (term_tree c.deref.result.now) (term_tree c.deref-in-Conditional.result.now)) in
    let is : term_tree e ≡ seen = search (rules, of_term.the_lemmas, of_form.the_lemmas) in
    met_as u c.meet_arms.result c.meet_arms.new.control.items (whole seen) (whole (term_tree e)) (ap whole (sym is)) (c.meet_arms.ensures.met u)
