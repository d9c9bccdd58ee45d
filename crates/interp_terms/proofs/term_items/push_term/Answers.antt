use Rattle.std.proofs.Common.{rules, ◌≡◌, List, map, ap, sym, ◌∙◌}
use Rattle.std.specs.Option.{option_map}
use Rattle.c_layout.specs.Types.{view}
use Rattle.c_layout.specs.CheckedTrees as tree
use Rattle.c_layout.specs.CheckedTrees.{TermTree, Typed, term_tree, term_trees}
use Rattle.c_layout.specs.CheckedUnits.{unit_view}
use Rattle.c_layout.specs.declared.checked_tree.checked_terms.CheckedTerm as of_term
use Rattle.c_layout.specs.declared.checked_tree.checked_terms.CheckedTerm.{CheckedTerm}
use Rattle.c_layout.specs.declared.checked_tree.checked_terms.TermForm as of_form
use Rattle.semantics.specs.SourceMachine.ConditionItems.{term_items}
use Rattle.interp_stack.specs.StackViews.{StackView, with_items, standing}
use Rattle.interp_stack.proofs.Sequels.{goes_on}
use Rattle.interp_terms.proofs.term_items.push_term.Goals as goal

pub returns-in-Call : goal.returns-in-Call
returns-in-Call c =
    let u = unit_view c.args.unit.now in
    let s = standing u c.args.control.now.items in
    let whole : TermTree → StackView = λ e. with_items (term_items u c.args.used e) s in
    let seen : List CheckedTerm → TermTree = λ es. Typed c.args.term.now.place (view c.args.term.now.ctype) c.args.term.now.parens c.args.term.now.constant (tree.Call c.in-Call.function (term_trees (map term_tree es)) c.in-Call.is_used) in
    let is : term_tree c.args.term.now ≡ seen c.in-Call.arguments.items = search (rules, of_term.the_lemmas, of_form.the_lemmas) in
    goes_on c.push_call.result (standing u c.push_call.new.control.items) (whole (seen c.as_slice.result.now)) (whole (term_tree c.args.term.now)) (ap (λ es. whole (seen es)) c.as_slice.ensures.value ∙ ap whole (sym is)) (c.push_call.ensures u)

pub returns-in-Library : goal.returns-in-Library
returns-in-Library c =
    let u = unit_view c.args.unit.now in
    let s = standing u c.args.control.now.items in
    let whole : TermTree → StackView = λ e. with_items (term_items u c.args.used e) s in
    let seen : List CheckedTerm → TermTree = λ es. Typed c.args.term.now.place (view c.args.term.now.ctype) c.args.term.now.parens c.args.term.now.constant (tree.Library c.in-Library.function (term_trees (map term_tree es)) (option_map view c.in-Library.allocated)) in
    let is : term_tree c.args.term.now ≡ seen c.in-Library.arguments.items = search (rules, of_term.the_lemmas, of_form.the_lemmas) in
    goes_on c.push_library.result (standing u c.push_library.new.control.items) (whole (seen c.as_slice-in-Library.result.now)) (whole (term_tree c.args.term.now)) (ap (λ es. whole (seen es)) c.as_slice-in-Library.ensures.value ∙ ap whole (sym is)) (c.push_library.ensures u)
