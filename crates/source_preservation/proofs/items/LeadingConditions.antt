-- The items of conditions lead to what both of the ways behind them lead to, or that way which is gone.
use Rattle.std.proofs.Common.{◌≡◌, ℤ, Bool, true, false, not, List, [], ◌∷◌, ◌++◌, reverse, Option, Some, None, inl, inr, refl, ap, ◌∙◌}
use Rattle.cc_base.specs.declared.diagnostics.Place.{Place}
use Rattle.c_layout.specs.CheckedTrees as tree
use Rattle.c_layout.specs.CheckedTrees.{TermTree, TermTrees, Typed}
use Rattle.c_layout.specs.CheckedUnits.{UnitView, FunctionView}
use Rattle.c_layout.specs.declared.syntax_tree.expressions.LogicalOp.TheVariants.{And, Or}
use Rattle.lower_conditions.specs.Conditions.{ReadView, read_by}
use Rattle.lower_templates.specs.Worklist.TermKinds.{term_at}
use Rattle.semantics.specs.SourceMachine.Items as item
use Rattle.semantics.specs.SourceMachine.Items.{NamedTest, Item, items_of}
use Rattle.semantics.specs.SourceMachine.TermItems.{arguments}
use Rattle.semantics.specs.SourceMachine.TermTests.{test_if}
use Rattle.semantics.specs.SourceMachine.ConditionItems.{line_items, leaf_by, condition, choice_of}
use Rattle.source_preservation.specs.ValueTyping.Marks.{Mark, Exactly, Ranged, Pointing, Tested, AreStable}
use Rattle.source_preservation.specs.WellTyped.ExactTerms.{is_true, ExactTerm}
use Rattle.source_preservation.specs.WellTyped.WellTypedTerms.{term_mark, Decides, Operand, TestTerm, HasTest, HasTests, WellTypedTerm}
use Rattle.source_preservation.specs.WellTyped.WellTypedItems.{Evaluates, by_type, quietly, as_stored, as_test}
use Rattle.source_items.proofs.stack_kinds.ItemWalks.{Through, all_through, through_both}
use Rattle.source_preservation.proofs.items.Leading.{marks}
use Rattle.source_preservation.proofs.items.LeadingArguments.{stacked, arguments_lead, stacked_reverse}
use Rattle.source_preservation.proofs.items.LineReads.{ReadsLine, LineRead, line_read}
use Rattle.source_preservation.proofs.items.ExactOperands.{negation_is, Right, right_is, both_right, both_failed, either_right, either_held, first_arm, second_arm}
use Rattle.source_preservation.proofs.items.ExactConditions.{nothing_read, no_test}

-- ---- truth values

not_not : (b : Bool) → not b ≡ true → b ≡ false
not_not true e = let no : ⊥ = cc in absurd no
not_not false e = refl

module _ (u : UnitView) (f : FunctionView) (called : Option Bool) where
  -- ---- values with tests

  pub operand_evaluates : (e : TermTree) (k : Mark) (ks : List Mark) → Operand u e k → WellTypedTerm u true e → AreStable ks → Evaluates u e ks (k ∷ ks)
  operand_evaluates e k ks (inl quiet) well_typed stable = quietly k quiet refl
  operand_evaluates e k ks (inr stored) well_typed stable = as_stored k stored well_typed stable refl

  -- the value of a condition that is a test decides it
  abbrev Tests : TermTree → NamedTest → List Mark → Type 0
  Tests e test ks = (k : Mark) × Evaluates u e ks (k ∷ ks) × Decides u k test

  tests : (e : TermTree) (test : NamedTest) (ks : List Mark) → TestTerm u e test → WellTypedTerm u true e → AreStable ks → Tests e test ks
  tests (Typed at t parens fixed (tree.Integer sign a b)) test ks tested well_typed stable = (Tested test, as_test test tested well_typed stable refl, refl)
  tests (Typed at t parens fixed (tree.Compare sign a b)) test ks tested well_typed stable = (Tested test, as_test test tested well_typed stable refl, refl)
  tests e test ks tested well_typed stable = (tested.0, operand_evaluates e tested.0 ks tested.1 well_typed stable, tested.2)

  -- ---- a condition that is a term or reads a line

  read_through : (args : TermTrees) (at : Place) (none some rest : List Item) (ks after : List Mark) → ReadsLine u args → AreStable ks → Through (marks u f called) none rest ks after → Through (marks u f called) some rest ks after → Through (marks u f called) (arguments args ++ item.ReadLine at (items_of none) (items_of some) ∷ []) rest ks after
  read_through args at none some rest ks after reads stable one other =
      let read : Item = item.ReadLine at (items_of none) (items_of some) in
      let three : stacked args ks ≡ Pointing ∷ (Ranged reads.count ∷ (Pointing ∷ ks)) = stacked_reverse args ks ∙ ap (λ xs. reverse xs ++ ks) reads.are in
      through_both (marks u f called) (arguments args) (read ∷ []) rest ks (stacked args ks) after (arguments_lead u f called args ks reads.well_typed stable (read ∷ rest)) (after, (reads.count, ks, three, stable, all_through (marks u f called) none rest ks after one, all_through (marks u f called) some rest ks after other), refl)

  line_through : (r : ReadView) (wants : Bool) (held failed rest : List Item) (ks after : List Mark) → ReadsLine u r.call.arguments → AreStable ks → Through (marks u f called) held rest ks after → Through (marks u f called) failed rest ks after → Through (marks u f called) (line_items r wants (items_of held) (items_of failed)) rest ks after
  line_through r true held failed rest ks after reads stable one other = read_through r.call.arguments r.call.at failed held rest ks after reads stable other one
  line_through r false held failed rest ks after reads stable one other = read_through r.call.arguments r.call.at held failed rest ks after reads stable one other

  value_through : (e : TermTree) (test : Option NamedTest) (held failed rest : List Item) (ks after : List Mark) → WellTypedTerm u true e → HasTest u e test → AreStable ks → Through (marks u f called) held rest ks after → Through (marks u f called) failed rest ks after → Through (marks u f called) (item.Value e ∷ (item.Choose (term_at e) test (items_of held) (items_of failed) ∷ [])) rest ks after
  value_through e None held failed rest ks after well_typed tested stable one other = (term_mark e ∷ ks, by_type well_typed stable refl, (after, (term_mark e, ks, refl, (λ may. all_through (marks u f called) held rest ks after one), (λ may. all_through (marks u f called) failed rest ks after other)), refl))
  value_through e (Some test) held failed rest ks after well_typed tested stable one other =
      let t : Tests e test ks = tests e test ks tested well_typed stable in
      (t.0 ∷ ks, t.1, (after, (t.0, ks, refl, t.2, stable, all_through (marks u f called) held rest ks after one, all_through (marks u f called) failed rest ks after other), refl))

  leaf_by_through : (is_test : Bool) (e : TermTree) (o : Option ReadView) (held failed rest : List Item) (ks after : List Mark) → WellTypedTerm u true e → HasTest u e (test_if u is_test e) → LineRead u o → AreStable ks → Through (marks u f called) held rest ks after → Through (marks u f called) failed rest ks after → Through (marks u f called) (leaf_by u is_test e o (items_of held) (items_of failed)) rest ks after
  leaf_by_through is_test e (Some r) held failed rest ks after well_typed tested read stable one other = line_through r r.wants_line held failed rest ks after read stable one other
  leaf_by_through is_test e None held failed rest ks after well_typed tested read stable one other = value_through e (test_if u is_test e) held failed rest ks after well_typed tested stable one other

  -- ---- conditions

  pub condition_through : (is_test : Bool) (e : TermTree) (held failed rest : List Item) (ks after : List Mark) → WellTypedTerm u true e → HasTests u is_test e → AreStable ks → Through (marks u f called) held rest ks after → Through (marks u f called) failed rest ks after → Through (marks u f called) (condition u is_test e held failed) rest ks after
  condition_through is_test (Typed at t parens fixed (tree.Logical And a b)) held failed rest ks after well_typed tested stable one other = condition_through is_test a (condition u is_test b held failed) failed rest ks after well_typed.0 tested.0 stable (condition_through is_test b held failed rest ks after well_typed.1 tested.1 stable one other) other
  condition_through is_test (Typed at t parens fixed (tree.Logical Or a b)) held failed rest ks after well_typed tested stable one other = condition_through is_test a held (condition u is_test b held failed) rest ks after well_typed.0 tested.0 stable one (condition_through is_test b held failed rest ks after well_typed.1 tested.1 stable one other)
  condition_through is_test (Typed at t parens fixed (tree.Not a)) held failed rest ks after well_typed tested stable one other = condition_through is_test a failed held rest ks after well_typed.0 tested stable other one
  condition_through is_test (Typed at t parens fixed (tree.Conditional c a b)) held failed rest ks after well_typed tested stable one other = condition_through true c (condition u false a held failed) (condition u false b held failed) rest ks after well_typed.0 tested.0 stable (condition_through false a held failed rest ks after well_typed.2 tested.1 stable one other) (condition_through false b held failed rest ks after well_typed.3 tested.2 stable one other)
  condition_through is_test e held failed rest ks after well_typed tested stable one other = leaf_by_through is_test e (read_by e) held failed rest ks after well_typed tested (line_read u e well_typed) stable one other

  -- ---- conditions that are known

  exactly_through : (e : TermTree) (test : Option NamedTest) (n : ℤ) (held failed rest : List Item) (ks after : List Mark) → test ≡ None → ExactTerm u.model e n → (is_true n ≡ true → Through (marks u f called) held rest ks after) → (is_true n ≡ false → Through (marks u f called) failed rest ks after) → Through (marks u f called) (item.Value e ∷ (item.Choose (term_at e) test (items_of held) (items_of failed) ∷ [])) rest ks after
  exactly_through e (Some test) n held failed rest ks after is exact one other = let no : ⊥ = cc in absurd no
  exactly_through e None n held failed rest ks after is exact one other = (Exactly n ∷ ks, quietly (Exactly n) (inr (inl (n, exact, refl))) refl, (after, (Exactly n, ks, refl, (λ may. all_through (marks u f called) held rest ks after (one may)), (λ may. all_through (marks u f called) failed rest ks after (other (not_not (is_true n) may)))), refl))

  pub exact_choice_through : (e : TermTree) (n : ℤ) (held failed rest : List Item) (ks after : List Mark) → ExactTerm u.model e n → (is_true n ≡ true → Through (marks u f called) held rest ks after) → (is_true n ≡ false → Through (marks u f called) failed rest ks after) → Through (marks u f called) (choice_of e held failed) rest ks after
  exact_choice_through e n held failed rest ks after exact one other = exactly_through e None n held failed rest ks after refl exact one other

  exact_leaf_by_through : (is_test : Bool) (e : TermTree) (o : Option ReadView) (n : ℤ) (held failed rest : List Item) (ks after : List Mark) → o ≡ None → ExactTerm u.model e n → (is_true n ≡ true → Through (marks u f called) held rest ks after) → (is_true n ≡ false → Through (marks u f called) failed rest ks after) → Through (marks u f called) (leaf_by u is_test e o (items_of held) (items_of failed)) rest ks after
  exact_leaf_by_through is_test e (Some r) n held failed rest ks after is exact one other = let no : ⊥ = cc in absurd no
  exact_leaf_by_through is_test e None n held failed rest ks after is exact one other = exactly_through e (test_if u is_test e) n held failed rest ks after (no_test u.model u is_test e n exact) exact one other

  -- only the way that is gone has to lead anywhere
  pub exact_condition_through : (is_test : Bool) (e : TermTree) (n : ℤ) (held failed rest : List Item) (ks after : List Mark) → ExactTerm u.model e n → (is_true n ≡ true → Through (marks u f called) held rest ks after) → (is_true n ≡ false → Through (marks u f called) failed rest ks after) → Through (marks u f called) (condition u is_test e held failed) rest ks after
  exact_condition_through is_test (Typed at t parens fixed (tree.Logical And a b)) n held failed rest ks after exact one other = exact_condition_through is_test a exact.0 (condition u is_test b held failed) failed rest ks after exact.1 (λ yes. let r : Right u.model exact.0 n b = both_right u.model exact.0 n b exact.2 yes in exact_condition_through is_test b r.0 held failed rest ks after r.1 (λ h. one (right_is u.model exact.0 n b r ∙ h)) (λ h. other (right_is u.model exact.0 n b r ∙ h))) (λ no. other (ap is_true (both_failed u.model exact.0 n b exact.2 no)))
  exact_condition_through is_test (Typed at t parens fixed (tree.Logical Or a b)) n held failed rest ks after exact one other = exact_condition_through is_test a exact.0 held (condition u is_test b held failed) rest ks after exact.1 (λ yes. one (ap is_true (either_held u.model exact.0 n b exact.2 yes))) (λ no. let r : Right u.model exact.0 n b = either_right u.model exact.0 n b exact.2 no in exact_condition_through is_test b r.0 held failed rest ks after r.1 (λ h. one (right_is u.model exact.0 n b r ∙ h)) (λ h. other (right_is u.model exact.0 n b r ∙ h)))
  exact_condition_through is_test (Typed at t parens fixed (tree.Not a)) n held failed rest ks after exact one other = exact_condition_through is_test a exact.0 failed held rest ks after exact.1 (λ yes. other (negation_is exact.0 n exact.2 ∙ ap not yes)) (λ no. one (negation_is exact.0 n exact.2 ∙ ap not no))
  exact_condition_through is_test (Typed at t parens fixed (tree.Conditional c a b)) n held failed rest ks after exact one other = exact_condition_through true c exact.0 (condition u false a held failed) (condition u false b held failed) rest ks after exact.1 (λ yes. exact_condition_through false a n held failed rest ks after (first_arm u.model exact.0 n a b exact.2 yes) one other) (λ no. exact_condition_through false b n held failed rest ks after (second_arm u.model exact.0 n a b exact.2 no) one other)
  exact_condition_through is_test e n held failed rest ks after exact one other = exact_leaf_by_through is_test e (read_by e) n held failed rest ks after (nothing_read u.model e n exact) exact one other
