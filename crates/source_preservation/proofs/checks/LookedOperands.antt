-- What is known of the operands of conditions, and conditions that decide their tests.
use Rattle.std.proofs.Common.{◌≡◌, ◌⊎◌, inl, inr, ℤ, Bool, true, false, ◌&&◌, cond, Option, Some, None, option_map, slice_get, refl, sym}
use Rattle.cc_base.specs.declared.integer_operators.Rel.{Rel}
use Rattle.c_layout.specs.Types.{Ty}
use Rattle.c_layout.specs.CheckedTrees as tree
use Rattle.c_layout.specs.CheckedTrees.{TermTree, Typed, Designates}
use Rattle.c_layout.specs.CheckedUnits.{UnitView}
use Rattle.c_layout.specs.declared.checked_tree.checked_terms.ObjectRef.{ObjectRef}
use Rattle.c_layout.specs.declared.checked_tree.checked_terms.ObjectRef.TheVariants as ref
use Rattle.c_layout.specs.declared.syntax_tree.expressions.LogicalOp.TheVariants.{And, Or}
use Rattle.lower_templates.specs.Worklist.TermKinds.{meaning, relation, scalar_of}
use Rattle.lower_templates.specs.declared.worklist.term_kinds.OperatorMeaning.{OperatorMeaning}
use Rattle.lower_templates.specs.declared.worklist.term_kinds.OperatorMeaning.TheVariants as meant
use Rattle.lower_conditions.specs.declared.branch_tests.NamedObject.{NamedObject}
use Rattle.cfg.specs.declared.machine_instructions.Scalar.TheVariants as of
use Rattle.semantics.specs.SourceMachine.Items.{NamedTest}
use Rattle.semantics.specs.SourceMachine.TermTests.{test_if}
use Rattle.source_items.specs.StackKinds.KindedTerms.{HasObject}
use Rattle.source_preservation.specs.ValueTyping.Marks.{Mark, Exactly, Null}
use Rattle.source_preservation.specs.ValueTyping.MarkOperations.{ComparesAs, AreWithNull, null_test_of, ConvertsTo}
use Rattle.source_preservation.specs.WellTyped.WellTypedTerms.{IsScalarType, Decides, SideTerm, StoredTerm, Quiet, Operand, TestTerm, HasTest, HasTests}
use Rattle.source_preservation.specs.Checks.LookedTypes.{is_scalar_type}
use Rattle.source_preservation.specs.Checks.LookedTests.{converted_mark, compares, compares_with_null, decides}
use Rattle.source_preservation.specs.Checks.LookedTerms.{exact, is_null, has_object, loaded_from, converted_to, side, stored, first_of, quiet, operand, is_decided, has_test, has_tests}
use Rattle.source_preservation.proofs.checks.Truths.{never, no_some, some_is, if_true, there, both_true, both, three}
use Rattle.source_preservation.proofs.checks.SameTypes.{scalar_type}
use Rattle.source_preservation.proofs.checks.DecidedTests.{mark_converts, compared, NullCompared, null_compared, decided}
use Rattle.source_preservation.proofs.checks.ExactNumbers.{exact_is, null_is}

-- ---- options

first_is : (a b : Option Mark) (mark : Mark) → first_of a b ≡ Some mark → (a ≡ Some mark) ⊎ (b ≡ Some mark)
first_is (Some x) b mark h = inl h
first_is None b mark h = inr h

number_of : (o : Option ℤ) (mark : Mark) → option_map Exactly o ≡ Some mark → (n : ℤ) × (o ≡ Some n) × (mark ≡ Exactly n)
number_of None mark h = no_some mark h
number_of (Some n) mark h = (n, refl, sym (some_is (Exactly n) mark h))

module _ (u : UnitView) where
  pub object_there : (o : ObjectRef) → has_object u o ≡ true → HasObject u o
  object_there (ref.Static n) h = there (slice_get u.objects n) h
  object_there (ref.Local n) h = tt

  -- ---- operands

  converted : (A : Mark → Type 0) (t : Ty) (o : Option Mark) (mark : Mark) → ((old : Mark) → o ≡ Some old → A old) → converted_to u t o ≡ Some mark → IsScalarType u t × ((old : Mark) × A old × ConvertsTo u.model (scalar_of t) old mark)
  converted A t None mark at h = no_some mark h
  converted A t (Some old) mark at h = if_true (is_scalar_type u t) (converted_mark (scalar_of t) old) mark (λ is e. (scalar_type u t is, (old, at old refl, mark_converts u.model (scalar_of t) old mark e))) h

  pub side_is : (e : TermTree) (mark : Mark) → side u e ≡ Some mark → SideTerm u e mark
  side_is (Typed at t parens fixed (tree.Load (Designates place s wrapped (tree.Object o)))) mark h =
      if_true (has_object u o && is_scalar_type u s) (Some (loaded_from o s)) mark (λ is e. let x = both_true (has_object u o) (is_scalar_type u s) is in (object_there o x.0, scalar_type u s x.1, sym (some_is (loaded_from o s) mark e))) h
  side_is (Typed at t parens fixed (tree.Convert sort a)) mark h = converted (SideTerm u a) t (side u a) mark (λ old e. side_is a old e) h
  side_is e mark h = no_some mark h

  stored_is : (e : TermTree) (mark : Mark) → stored u e ≡ Some mark → StoredTerm u e mark
  stored_is (Typed at t parens fixed (tree.Assign (Designates place s wrapped (tree.Object o)) a)) mark h = sym (some_is (loaded_from o s) mark h)
  stored_is (Typed at t parens fixed (tree.Convert sort a)) mark h = converted (StoredTerm u a) t (stored u a) mark (λ old e. stored_is a old e) h
  stored_is e mark h = no_some mark h

  quiet_is : (e : TermTree) (mark : Mark) → quiet u e ≡ Some mark → Quiet u e mark
  quiet_is e mark h = by (first_is (side u e) others mark h)
    where
      null : Option Mark
      null = cond (is_null u.model e) (Some Null) None

      others : Option Mark
      others = first_of (option_map Exactly (exact u.model e)) null

      on : (option_map Exactly (exact u.model e) ≡ Some mark) ⊎ (cond (is_null u.model e) (Some Null) None ≡ Some mark) → Quiet u e mark
      on (inl is) = let x = number_of (exact u.model e) mark is in inr (inl (x.0, exact_is u.model e x.0 x.1, x.2))
      on (inr is) = inr (inr (if_true (is_null u.model e) (Some Null) mark (λ here same. (null_is u.model e here, sym (some_is Null mark same))) is))

      by : (side u e ≡ Some mark) ⊎ (first_of (option_map Exactly (exact u.model e)) (cond (is_null u.model e) (Some Null) None) ≡ Some mark) → Quiet u e mark
      by (inl is) = inl (side_is e mark is)
      by (inr is) = on (first_is (option_map Exactly (exact u.model e)) (cond (is_null u.model e) (Some Null) None) mark is)

  operand_is : (e : TermTree) (mark : Mark) → operand u e ≡ Some mark → Operand u e mark
  operand_is e mark h = by (first_is (quiet u e) (stored u e) mark h)
    where
      by : (quiet u e ≡ Some mark) ⊎ (stored u e ≡ Some mark) → Operand u e mark
      by (inl is) = inl (quiet_is e mark is)
      by (inr is) = inr (stored_is e mark is)

  -- ---- tests

  module _ (test : NamedTest) where
    relation_is : (A B : Mark → Type 0) (how : OperatorMeaning) (x y : Option Mark) → ((k : Mark) → x ≡ Some k → A k) → ((k : Mark) → y ≡ Some k → B k) → compares u.model how x y test ≡ true → (rel : Rel) × (left : Mark) × (right : Mark) × (how ≡ meant.Truth rel) × A left × B right × ComparesAs u.model rel left right test
    relation_is A B (meant.Truth rel) (Some left) (Some right) at behind h = (rel, left, right, refl, at left refl, behind right refl, compared u.model rel left right test h)
    relation_is A B (meant.Truth rel) (Some left) None at behind h = never h
    relation_is A B (meant.Truth rel) None y at behind h = never h
    relation_is A B (meant.Number sign) x y at behind h = never h

    with_null : (A B : Mark → Type 0) (rel : Rel) (x y : Option Mark) → ((k : Mark) → x ≡ Some k → A k) → ((k : Mark) → y ≡ Some k → B k) → compares_with_null rel x y test ≡ true → (o : NamedObject) × (left : Mark) × (right : Mark) × (o.kind ≡ of.Pointer) × A left × B right × AreWithNull o left right × (test ≡ null_test_of o rel)
    with_null A B rel (Some left) (Some right) at behind h = let x : NullCompared rel left right test = null_compared rel test left right h in (x.o, left, right, x.pointer, at left refl, behind right refl, x.are, x.is)
    with_null A B rel (Some left) None at behind h = never h
    with_null A B rel None y at behind h = never h

    alone : (A : Mark → Type 0) (x : Option Mark) → ((k : Mark) → x ≡ Some k → A k) → decides u x test ≡ true → (mark : Mark) × A mark × Decides u mark test
    alone A (Some mark) at h = (mark, at mark refl, decided u mark test h)
    alone A None at h = never h

    test_is : (e : TermTree) → is_decided u e test ≡ true → TestTerm u e test
    test_is (Typed at t parens fixed (tree.Integer sign a b)) h = relation_is (Operand u a) (Quiet u b) (meaning sign) (operand u a) (quiet u b) (operand_is a) (quiet_is b) h
    test_is (Typed at t parens fixed (tree.Compare sign a b)) h = with_null (Operand u a) (Quiet u b) (relation sign) (operand u a) (quiet u b) (operand_is a) (quiet_is b) h
    test_is e h = alone (Operand u e) (operand u e) (operand_is e) h

  tested : (e : TermTree) (o : Option NamedTest) → has_test u e o ≡ true → HasTest u e o
  tested e None h = tt
  tested e (Some test) h = test_is test e h

  pub tests : (is_test : Bool) (e : TermTree) → has_tests u is_test e ≡ true → HasTests u is_test e
  tests is_test (Typed at t parens fixed (tree.Logical And a b)) h = both (has_tests u is_test a) (has_tests u is_test b) (λ x. tests is_test a x) (λ x. tests is_test b x) h
  tests is_test (Typed at t parens fixed (tree.Logical Or a b)) h = both (has_tests u is_test a) (has_tests u is_test b) (λ x. tests is_test a x) (λ x. tests is_test b x) h
  tests is_test (Typed at t parens fixed (tree.Not a)) h = tests is_test a h
  tests is_test (Typed at t parens fixed (tree.Conditional c a b)) h = three (has_tests u true c) (has_tests u false a) (has_tests u false b) (λ x. tests true c x) (λ x. tests false a x) (λ x. tests false b x) h
  tests is_test e h = tested e (test_if u is_test e) h
