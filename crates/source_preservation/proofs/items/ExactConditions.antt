-- Terms that are computed without memory name no object and read no line, so as conditions they are no tests.
use Rattle.std.proofs.Common.{◌≡◌, ℤ, Bool, true, false, Option, Some, None, refl, ap, ◌∙◌}
use Rattle.cc_base.specs.declared.integer_operators.Rel.{Rel}
use Rattle.cc_base.specs.declared.int_types.IntType.{IntType}
use Rattle.c_layout.specs.CheckedTrees as tree
use Rattle.c_layout.specs.CheckedTrees.{TermTree, Typed}
use Rattle.c_layout.specs.CheckedUnits.{UnitView}
use Rattle.c_layout.specs.declared.checked_tree.checked_terms.ConversionKind.TheVariants.{Implicit}
use Rattle.c_layout.specs.declared.data_model.Model.{Model}
use Rattle.lower_conditions.specs.Conditions.{line_call_in, line_call, read_test, read_by}
use Rattle.lower_conditions.specs.Tests.{named_by, named, or_else, named_or_assigned, constant_of}
use Rattle.lower_templates.specs.Worklist.TermKinds.{meaning, integer_type, term_type, term_form, peeled, loaded, assigned}
use Rattle.lower_templates.specs.declared.worklist.term_kinds.OperatorMeaning.{OperatorMeaning}
use Rattle.lower_templates.specs.declared.worklist.term_kinds.OperatorMeaning.TheVariants as meant
use Rattle.semantics.specs.SourceMachine.TermTests.{turned_test, relation_test, operator_test, zero_test, test_of, test_if}
use Rattle.source_preservation.specs.WellTyped.ExactTerms.{ExactTerm}

-- ---- forms

module _ (m : Model) where
  peeled_exact : (e : TermTree) (n : ℤ) → ExactTerm m e n → (k : ℤ) × ExactTerm m (peeled e) k
  peeled_exact (Typed at t parens fixed (tree.Convert Implicit a)) n exact = peeled_exact a exact.1 exact.4
  peeled_exact e n exact = (n, exact)

  nothing_loaded : (e : TermTree) (n : ℤ) → ExactTerm m e n → loaded (term_form e) ≡ None
  nothing_loaded (Typed at t parens fixed (tree.Load l)) n exact = absurd exact
  nothing_loaded e n exact = refl

  nothing_assigned : (e : TermTree) (n : ℤ) → ExactTerm m e n → assigned (term_form e) ≡ None
  nothing_assigned (Typed at t parens fixed (tree.Assign l a)) n exact = absurd exact
  nothing_assigned e n exact = refl

  nothing_called : (e : TermTree) (n : ℤ) → ExactTerm m e n → line_call_in e ≡ None
  nothing_called (Typed at t parens fixed (tree.Library function args allocated)) n exact = absurd exact
  nothing_called e n exact = refl

  -- ---- names

  nothing_named : (e : TermTree) (n : ℤ) → ExactTerm m e n → named e ≡ None
  nothing_named e n exact = let p = peeled_exact e n exact in ap named_by (nothing_loaded (peeled e) p.0 p.1)

  nothing_named_or_assigned : (e : TermTree) (n : ℤ) → ExactTerm m e n → named_or_assigned e ≡ None
  nothing_named_or_assigned e n exact =
      let p = peeled_exact e n exact in
      ap (λ o. or_else o (named_by (assigned (term_form (peeled e))))) (nothing_named e n exact) ∙ ap named_by (nothing_assigned (peeled e) p.0 p.1)

  pub no_line : (e : TermTree) (n : ℤ) → ExactTerm m e n → line_call e ≡ None
  no_line e n exact = let p = peeled_exact e n exact in nothing_called (peeled e) p.0 p.1

  -- ---- conditions

  pub nothing_read : (e : TermTree) (n : ℤ) → ExactTerm m e n → read_by e ≡ None
  nothing_read (Typed at t parens fixed (tree.Compare sign a b)) n exact = absurd exact
  nothing_read e n exact = ap (λ c. read_test c true) (no_line e n exact)

  not_turned : (c : Option ℤ) (rel : Rel) (common : IntType) → turned_test c rel None common ≡ None
  not_turned None rel common = refl
  not_turned (Some n) rel common = refl

  no_operator_test : (sign : OperatorMeaning) (a b : TermTree) → named_or_assigned a ≡ None → named b ≡ None → operator_test sign a b ≡ None
  no_operator_test (meant.Number sign) a b left right = refl
  no_operator_test (meant.Truth rel) a b left right =
      let common : IntType = integer_type (term_type a) in
      ap (λ o. relation_test o a rel b) left ∙ (ap (λ o. turned_test (constant_of a) rel o common) right ∙ not_turned (constant_of a) rel common)

  no_test_of : (u : UnitView) (e : TermTree) (n : ℤ) → ExactTerm m e n → test_of u e ≡ None
  no_test_of u (Typed at t parens fixed (tree.Integer sign a b)) n exact = no_operator_test (meaning sign) a b (nothing_named_or_assigned a exact.0 exact.2) (nothing_named b exact.1 exact.3)
  no_test_of u (Typed at t parens fixed (tree.Compare sign a b)) n exact = absurd exact
  no_test_of u e n exact = ap (zero_test u) (nothing_named_or_assigned e n exact)

  pub no_test : (u : UnitView) (is_test : Bool) (e : TermTree) (n : ℤ) → ExactTerm m e n → test_if u is_test e ≡ None
  no_test u true e n exact = no_test_of u e n exact
  no_test u false e n exact = refl
