-- Relations, equalities and all operators between two operands make what is made.
use Rattle.std.proofs.Common.{◌≡◌, ℕ, Bool, true, false, ◌&&◌, Option, Some, None, refl}
use Rattle.std.proofs.lemmas.Bool.{and_from}
use Rattle.cc_base.specs.declared.diagnostics.Place.{Place}
use Rattle.c_layout.specs.CheckedTrees as tree
use Rattle.c_layout.specs.CheckedTrees.{TermTree, Typed}
use Rattle.c_layout.specs.CheckedUnits.{UnitView}
use Rattle.c_layout.specs.Types.{Int}
use Rattle.c_layout.specs.declared.syntax_tree.expressions.BinaryOp.{BinaryOp}
use Rattle.c_layout.specs.declared.syntax_tree.expressions.BinaryOp.TheVariants as op
use Rattle.c_types_rules.specs.declared.rules.type_conversions.Pairing.{Pairing}
use Rattle.c_types_rules.specs.declared.rules.type_conversions.Pairing.TheVariants as pair
use Rattle.c_types_scopes.specs.Known.{Known}
use Rattle.c_types_operands.specs.Operands.{OperandView, ValueView, value_of, term_type, is_null}
use Rattle.c_types_operands.specs.Conversions.{in_type}
use Rattle.c_types_operands.specs.Arithmetic.{int_kind, value_kinds, in_common_kind}
use Rattle.c_types_operands.specs.PointerArithmetic.{common_target, pointer_additive, additive_by, additive}
use Rattle.c_types_operands.specs.Comparisons.{pointer_comparison, pointer_relation_by, pointer_relation, relation_by, relation, pairing, pointer_equality_by, pointer_equality, equality_by, equality, between_values, binary}
use Rattle.c_types_operands.specs.declared.arithmetic.KindPair.{KindPair}
use Rattle.source_preservation.specs.Checks.LookedTypes.{is_address, is_truth}
use Rattle.source_preservation.specs.Checks.LookedTerms.{is_well_typed_term, has_tests}
use Rattle.c_types_well_formed.specs.WellFormed.ModelTypes.{IsGround}
use Rattle.c_types_well_formed.specs.WellFormed.MadeTerms.{IsMade, IsGiven, IsMadeOperand, Makes}
use Rattle.c_types_well_formed.proofs.decided_tests.MadeNumbers.{is_relation}
use Rattle.c_types_well_formed.proofs.decided_tests.MadeTests.{pointer_tests, left_pointer_tests, right_pointer_tests}
use Rattle.c_types_well_formed.proofs.rules.GroundKinds.{kinds_are, pointer_scalar, pointer_address, int_there, int_truths}
use Rattle.c_types_well_formed.proofs.rules.MadeConversions.{scalar_well_typed}
use Rattle.c_types_well_formed.proofs.rules.MadeNodes.{node_made}
use Rattle.c_types_well_formed.proofs.rules.MadeValues.{value_made}
use Rattle.c_types_well_formed.proofs.rules.MadeArithmetic.{common_made, operation_made, shift_made}
use Rattle.c_types_well_formed.proofs.rules.MadeSums.{ArePointers, common_is, added_made, subtracted_made}
use Rattle.c_types_well_formed.proofs.rules.PairedTypes.{IsPointer, ComesToPointer, PairedAs, paired_as, comes_null, pointer_given, given_address}

module _ (u : UnitView) (k : Known) (ground : IsGround u k) where
  -- ---- comparisons of pointers

  comparison_made : (at : Place) (sign : BinaryOp) (x y : TermTree) → is_well_typed_term u true x ≡ true → is_well_typed_term u true y ≡ true → is_address (term_type x) ≡ true → is_address (term_type y) ≡ true → ((is_test : Bool) → has_tests u is_test (Typed at (Int (int_kind k)) 0 None (tree.Compare sign x y)) ≡ true) → IsMadeOperand u (pointer_comparison k at sign x y)
  comparison_made at sign x y p q s t tests =
      let truth : Bool = is_truth (Int (int_kind k)) in
      node_made u at (Int (int_kind k)) 0 (tree.Compare sign x y) refl refl
      (and_from (is_well_typed_term u true x) (is_well_typed_term u true y && (is_address (term_type x) && (is_address (term_type y) && truth))) p
      (and_from (is_well_typed_term u true y) (is_address (term_type x) && (is_address (term_type y) && truth)) q
      (and_from (is_address (term_type x)) (is_address (term_type y) && truth) s (and_from (is_address (term_type y)) truth t (int_truths u k ground)))))
      (int_there u k ground)
      (λ scalar is_test. tests is_test)

  pointers_made : (at : Place) (sign : BinaryOp) (x y : TermTree) → IsMade u x → IsMade u y → Makes u (pointer_relation k at sign x y)
  pointers_made at sign x y p q = by (common_target k (term_type x) (term_type y)) refl
    where
      on : ArePointers (term_type x) (term_type y) → IsMadeOperand u (pointer_comparison k at sign x y)
      on are =
          comparison_made at sign x y (scalar_well_typed u x p (pointer_scalar x are.target are.left)) (scalar_well_typed u y q (pointer_scalar y are.target are.right)) (pointer_address x are.target are.left) (pointer_address y are.target are.right)
          (λ is_test. pointer_tests u k ground at (Int (int_kind k)) 0 None is_test sign x y (pointer_address x are.target are.left) (pointer_address y are.target are.right) p q)

      by : (o : Option ℕ) → common_target k (term_type x) (term_type y) ≡ o → Makes u (pointer_relation_by k at sign x y o)
      by None is = tt
      by (Some size) is = on (common_is k (term_type x) (term_type y) size is)

  left_made : (at : Place) (sign : BinaryOp) (x y : TermTree) → IsMade u x → IsMade u y → IsPointer (term_type x) → ComesToPointer (term_type y) (is_null y) → IsMadeOperand u (pointer_comparison k at sign x (in_type k y (term_type x)))
  left_made at sign x y p q pointer comes =
      let given : IsGiven u (in_type k y (term_type x)) (term_type x) = pointer_given u k ground y (term_type x) pointer.0 pointer.1 q comes p.typed in
      comparison_made at sign x (in_type k y (term_type x)) (scalar_well_typed u x p (pointer_scalar x pointer.0 pointer.1)) given.well_typed (pointer_address x pointer.0 pointer.1) (given_address u k ground (in_type k y (term_type x)) (term_type x) pointer.0 pointer.1 given)
      (λ is_test. left_pointer_tests u k ground at (Int (int_kind k)) 0 None is_test sign x y (pointer_address x pointer.0 pointer.1) (comes_null y comes) p q)

  right_made : (at : Place) (sign : BinaryOp) (x y : TermTree) → IsMade u x → IsMade u y → ComesToPointer (term_type x) (is_null x) → IsPointer (term_type y) → IsMadeOperand u (pointer_comparison k at sign (in_type k x (term_type y)) y)
  right_made at sign x y p q comes pointer =
      let given : IsGiven u (in_type k x (term_type y)) (term_type y) = pointer_given u k ground x (term_type y) pointer.0 pointer.1 p comes q.typed in
      comparison_made at sign (in_type k x (term_type y)) y given.well_typed (scalar_well_typed u y q (pointer_scalar y pointer.0 pointer.1)) (given_address u k ground (in_type k x (term_type y)) (term_type y) pointer.0 pointer.1 given) (pointer_address y pointer.0 pointer.1)
      (λ is_test. right_pointer_tests u k ground at (Int (int_kind k)) 0 None is_test sign x y (comes_null x comes) (pointer_address y pointer.0 pointer.1) p q)

  pointer_equality_made : (at : Place) (sign : BinaryOp) (x y : TermTree) → IsMade u x → IsMade u y → Makes u (pointer_equality k at sign x y)
  pointer_equality_made at sign x y p q = by (pairing x y) (paired_as (term_type x) (is_null x) (term_type y) (is_null y))
    where
      by : (how : Pairing) → PairedAs (term_type x) (is_null x) (term_type y) (is_null y) how → Makes u (pointer_equality_by k at sign x y how)
      by pair.AsLeft are = left_made at sign x y p q are.0 are.1
      by pair.AsRight are = right_made at sign x y p q are.0 are.1
      by pair.Integers are = tt
      by pair.Crosses are = tt
      by pair.Apart are = tt

  -- ---- by the types of both operands

  module _ (at : Place) (left right : ValueView) (x : IsMade u left.term) (y : IsMade u right.term) where
    integers : (sign : BinaryOp) (is_int : Bool) → is_relation sign ≡ is_int → (kinds : KindPair) → value_kinds left right ≡ Some kinds → IsMadeOperand u (in_common_kind k at sign is_int kinds left right)
    integers sign is_int relates kinds is = let e = kinds_are (term_type left.term) (term_type right.term) kinds is in common_made u k ground at sign is_int kinds left right relates x y e.0 e.1

    additive_made : (sign : BinaryOp) → is_relation sign ≡ false → Makes u (pointer_additive k at sign left.term right.term) → Makes u (additive k at sign left right)
    additive_made sign relates pointers = by (value_kinds left right) refl
      where
        by : (o : Option KindPair) → value_kinds left right ≡ o → Makes u (additive_by k at sign left right o)
        by (Some kinds) is = integers sign false relates kinds is
        by None is = pointers

    relation_made : (sign : BinaryOp) → is_relation sign ≡ true → Makes u (relation k at sign left right)
    relation_made sign relates = by (value_kinds left right) refl
      where
        by : (o : Option KindPair) → value_kinds left right ≡ o → Makes u (relation_by k at sign left right o)
        by (Some kinds) is = integers sign true relates kinds is
        by None is = pointers_made at sign left.term right.term x y

    equality_made : (sign : BinaryOp) → is_relation sign ≡ true → Makes u (equality k at sign left right)
    equality_made sign relates = by (value_kinds left right) refl
      where
        by : (o : Option KindPair) → value_kinds left right ≡ o → Makes u (equality_by k at sign left right o)
        by (Some kinds) is = integers sign true relates kinds is
        by None is = pointer_equality_made at sign left.term right.term x y

    between_made : (sign : BinaryOp) → Makes u (between_values k at sign left right)
    between_made op.Multiply = operation_made u k ground at op.Multiply left right refl x y
    between_made op.Divide = operation_made u k ground at op.Divide left right refl x y
    between_made op.Remainder = operation_made u k ground at op.Remainder left right refl x y
    between_made op.And = operation_made u k ground at op.And left right refl x y
    between_made op.Xor = operation_made u k ground at op.Xor left right refl x y
    between_made op.Or = operation_made u k ground at op.Or left right refl x y
    between_made op.Add = additive_made op.Add refl (added_made u k ground at left.term right.term x y)
    between_made op.Subtract = additive_made op.Subtract refl (subtracted_made u k ground at left.term right.term x y)
    between_made op.ShiftLeft = shift_made u k ground at op.ShiftLeft left right refl x y
    between_made op.ShiftRight = shift_made u k ground at op.ShiftRight left right refl x y
    between_made op.Less = relation_made op.Less refl
    between_made op.Greater = relation_made op.Greater refl
    between_made op.LessEqual = relation_made op.LessEqual refl
    between_made op.GreaterEqual = relation_made op.GreaterEqual refl
    between_made op.Equal = equality_made op.Equal refl
    between_made op.NotEqual = equality_made op.NotEqual refl

  pub binary_made : (at : Place) (sign : BinaryOp) (x y : OperandView) → IsMadeOperand u x → IsMadeOperand u y → Makes u (binary k at sign x y)
  binary_made at sign x y p q = between_made at (value_of x) (value_of y) (value_made u k ground x p) (value_made u k ground y q) sign
