use Rattle.std.proofs.Common.{rules, ◌≡◌, true, ◌∙◌}
use Rattle.c_layout.specs.CheckedTrees.{term_tree}
use Rattle.c_layout.specs.declared.checked_tree.checked_terms.CheckedTerm as of_term
use Rattle.c_layout.specs.declared.checked_tree.checked_terms.TermForm as of_form
use Rattle.lower_templates.specs.Worklist.TermKinds.{term_form}
use Rattle.interp_stack.proofs.Tests.{is_alone, alone}
use Rattle.interp_stack.proofs.named_tests.test_of.Goals as goal

pub returns-in-Load : goal.returns-in-Load
returns-in-Load c = λ u e. let is : is_alone (term_form (term_tree c.args.term.now)) ≡ true = search (rules, of_term.the_lemmas, of_form.the_lemmas) in c.own_test-in-Load.ensures u e ∙ alone u (term_tree c.args.term.now) is

pub returns-in-Convert : goal.returns-in-Convert
returns-in-Convert c = λ u e. let is : is_alone (term_form (term_tree c.args.term.now)) ≡ true = search (rules, of_term.the_lemmas, of_form.the_lemmas) in c.own_test-in-Convert.ensures u e ∙ alone u (term_tree c.args.term.now) is

pub returns-in-Assign : goal.returns-in-Assign
returns-in-Assign c = λ u e. let is : is_alone (term_form (term_tree c.args.term.now)) ≡ true = search (rules, of_term.the_lemmas, of_form.the_lemmas) in c.own_test-in-Assign.ensures u e ∙ alone u (term_tree c.args.term.now) is
