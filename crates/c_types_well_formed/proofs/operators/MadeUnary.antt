-- Unary operators, `++` and `--` make what is made.
use Rattle.std.proofs.Common.{◌≡◌, ℕ, ℤ, true, ◌&&◌, cond, Option, Some, None, refl, sym, subst}
use Rattle.std.proofs.lemmas.Bool.{and_from}
use Rattle.cc_base.specs.declared.diagnostics.Place.{Place}
use Rattle.cc_base.specs.declared.int_types.IntType.{IntType}
use Rattle.c_layout.specs.CheckedTrees as tree
use Rattle.c_layout.specs.CheckedTrees.{TermTree, LvalueTree}
use Rattle.c_layout.specs.CheckedUnits.{UnitView}
use Rattle.c_layout.specs.Types.{Ty, Int, Pointer, same_type}
use Rattle.c_layout.specs.declared.checked_tree.checked_terms.StepTime.{StepTime}
use Rattle.c_layout.specs.declared.syntax_tree.expressions.StepOp.{StepOp}
use Rattle.c_layout.specs.declared.syntax_tree.expressions.UnaryOp.{UnaryOp}
use Rattle.c_layout.specs.declared.syntax_tree.expressions.UnaryOp.TheVariants as op
use Rattle.c_types_rules.specs.Rules.IntegerKinds.{promoted}
use Rattle.c_types_scopes.specs.Known.{Known, size_of}
use Rattle.c_types_operands.specs.Operands.{OperandView, ValueView, value_of, term_of, own_lvalue, lvalue_type, term_type, term_constant, is_scalar}
use Rattle.c_types_operands.specs.Conversions.{integer_as}
use Rattle.c_types_operands.specs.Arithmetic.{int_kind}
use Rattle.c_types_operators.specs.UnaryOperators.{integer_step, pointer_kind, step_kind, step_by, step_of, step, address_of, address, promoted_kind, turned_value, arithmetic_in, arithmetic_by, arithmetic, not_value, not_node, not_of, unary}
use Rattle.source_preservation.specs.Checks.LookedTypes.{is_kind, is_address, is_truth, same_mark, steps_in}
use Rattle.source_preservation.specs.Checks.LookedTerms.{is_well_typed_term, is_well_typed_place}
use Rattle.c_types_well_formed.specs.WellFormed.ModelTypes.{IsKindOf, IsGround}
use Rattle.c_types_well_formed.specs.WellFormed.MadeTerms.{IsMade, IsMadePlace, IsGiven, IsMadeOperand, Makes}
use Rattle.c_types_well_formed.proofs.decided_tests.MadeNumbers.{if_fixed, turned_number, not_number}
use Rattle.c_types_well_formed.proofs.decided_tests.MadeTests.{no_tests, not_tests}
use Rattle.c_types_well_formed.proofs.decided_tests.ModelKinds.{same_type_self}
use Rattle.c_types_well_formed.proofs.rules.ModelKinds.{mark_same}
use Rattle.c_types_well_formed.proofs.rules.GroundKinds.{number_known, kind_there, promoted_there, int_there, int_truths}
use Rattle.c_types_well_formed.proofs.rules.MadeConversions.{scalar_well_typed, integer_given}
use Rattle.c_types_well_formed.proofs.rules.MadeNodes.{term_made, node_made, makes_if}
use Rattle.c_types_well_formed.proofs.rules.MadePlaces.{own_made, place_address, place_kind, steps_there}
use Rattle.c_types_well_formed.proofs.rules.MadeSums.{indirection_made}
use Rattle.c_types_well_formed.proofs.rules.MadeValues.{value_made}

module _ (u : UnitView) (k : Known) (ground : IsGround u k) where
  -- ---- `++` and `--`

  number_stepped : (at : Place) (sign : StepOp) (time : StepTime) (l : LvalueTree) (kind : IntType) → IsMadePlace u l → lvalue_type l ≡ Int kind → IsMadeOperand u (integer_step at sign time (promoted k.numbers kind) l)
  number_stepped at sign time l kind made is =
      let known : IsKindOf u.model kind = place_kind u l kind made is in
      node_made u at (lvalue_type l) 0 (tree.Step sign time (Int (promoted k.numbers kind)) l) refl refl
      (and_from (is_well_typed_place u l) (steps_in u (promoted k.numbers kind) (lvalue_type l) (lvalue_type l)) made.well_typed (steps_there u k ground (lvalue_type l) kind (promoted k.numbers kind) is known (promoted_there u k ground kind known)))
      made.typed
      (λ scalar is_test. no_tests u k ground at (lvalue_type l) 0 None is_test (tree.Step sign time (Int (promoted k.numbers kind)) l) refl)

  pointer_stepped : (at : Place) (sign : StepOp) (time : StepTime) (l : LvalueTree) (t : Ty) (size : Option ℕ) → IsMadePlace u l → lvalue_type l ≡ Pointer t → Makes u (step_by at sign time l (pointer_kind size))
  pointer_stepped at sign time l t None made is = tt
  pointer_stepped at sign time l t (Some size) made is =
      node_made u at (lvalue_type l) 0 (tree.StepPointer sign time size l) refl refl
      (and_from (is_well_typed_place u l) (is_address (lvalue_type l) && is_address (lvalue_type l)) made.well_typed (and_from (is_address (lvalue_type l)) (is_address (lvalue_type l)) (place_address u l t is) (place_address u l t is)))
      made.typed
      (λ scalar is_test. no_tests u k ground at (lvalue_type l) 0 None is_test (tree.StepPointer sign time size l) refl)

  type_stepped : (at : Place) (sign : StepOp) (time : StepTime) (l : LvalueTree) (t : Ty) → IsMadePlace u l → lvalue_type l ≡ t → Makes u (step_by at sign time l (step_kind k t))
  type_stepped at sign time l (Int kind) made is = number_stepped at sign time l kind made is
  type_stepped at sign time l (Pointer t) made is = pointer_stepped at sign time l t (size_of k t) made is
  type_stepped at sign time l t made is = tt

  pub step_made : (at : Place) (sign : StepOp) (time : StepTime) (x : OperandView) → IsMadeOperand u x → Makes u (step k at sign time x)
  step_made at sign time x made = by (own_lvalue x) refl
    where
      by : (o : Option LvalueTree) → own_lvalue x ≡ o → Makes u (step_of k at sign time o)
      by None is = tt
      by (Some l) is = type_stepped at sign time l (lvalue_type l) (own_made u x l made is) refl

  -- ---- `&`

  address_made : (at : Place) (x : OperandView) → IsMadeOperand u x → Makes u (address at x)
  address_made at x made = by (own_lvalue x) refl
    where
      on : (l : LvalueTree) → IsMadePlace u l → Makes u (address_of at (Some l))
      on l place = node_made u at (Pointer (lvalue_type l)) 0 (tree.AddressOf l) refl refl (and_from (is_well_typed_place u l) true place.well_typed refl) place.typed (λ scalar is_test. no_tests u k ground at (Pointer (lvalue_type l)) 0 None is_test (tree.AddressOf l) refl)

      by : (o : Option LvalueTree) → own_lvalue x ≡ o → Makes u (address_of at o)
      by None is = tt
      by (Some l) is = on l (own_made u x l made is)

  module _ (at : Place) (v : ValueView) (x : IsMade u v.term) where
    -- ---- `!`

    negation_made : is_scalar (term_type v.term) ≡ true → IsMadeOperand u (not_node k at v)
    negation_made scalar =
        let constant : Option ℤ = cond v.fixed (not_value (term_constant v.term)) None in
        term_made u at (Int (int_kind k)) 0 constant (tree.Not v.term) refl refl
        (and_from (is_well_typed_term u true v.term) (is_truth (Int (int_kind k))) (scalar_well_typed u v.term x scalar) (int_truths u k ground))
        (int_there u k ground)
        (λ n is. not_number u k ground at constant n v.term x (if_fixed v.fixed (not_value (term_constant v.term)) n is).1)
        (λ s is_test. not_tests u k ground at (Int (int_kind k)) 0 constant is_test v.term scalar x)

    pub not_made : Makes u (not_of k at v)
    not_made = makes_if u (is_scalar (term_type v.term)) _ _ negation_made (λ h. tt)

    -- ---- `+`, `-` and `~`

    module _ (a : IntType) (typed : term_type v.term ≡ Int a) where
      known : IsKindOf u.model (promoted k.numbers a)
      known = promoted_there u k ground a (number_known u k ground v.term a x typed)

      given : IsGiven u (integer_as k v.term (promoted k.numbers a)) (Int (promoted k.numbers a))
      given = integer_given u k ground.proper v.term a (promoted k.numbers a) x typed known

      same_well_typed : (e : TermTree) → IsGiven u e (Int (promoted k.numbers a)) → (is_well_typed_term u true e && same_mark (term_type e) (Int (promoted k.numbers a))) ≡ true
      same_well_typed e g = and_from (is_well_typed_term u true e) (same_mark (term_type e) (Int (promoted k.numbers a))) g.well_typed (subst (λ t. same_mark t (Int (promoted k.numbers a)) ≡ true) (sym g.same) (mark_same (Int (promoted k.numbers a))))

      computed_well_typed : (e : TermTree) → IsGiven u e (Int (promoted k.numbers a)) → (is_well_typed_term u true e && (same_type (term_type e) (Int (promoted k.numbers a)) && is_kind u.model (promoted k.numbers a))) ≡ true
      computed_well_typed e g =
          and_from (is_well_typed_term u true e) (same_type (term_type e) (Int (promoted k.numbers a)) && is_kind u.model (promoted k.numbers a)) g.well_typed
          (and_from (same_type (term_type e) (Int (promoted k.numbers a))) (is_kind u.model (promoted k.numbers a)) (subst (λ t. same_type t (Int (promoted k.numbers a)) ≡ true) (sym g.same) (same_type_self (Int (promoted k.numbers a)))) (kind_there u k ground (promoted k.numbers a) known))

      abbrev constant : UnaryOp → Option ℤ
      constant sign = cond v.fixed (turned_value sign (promoted k.numbers a) (term_constant v.term)) None

      fixed_number : (sign : UnaryOp) (n : ℤ) → constant sign ≡ Some n → turned_value sign (promoted k.numbers a) (term_constant v.term) ≡ Some n
      fixed_number sign n is = (if_fixed v.fixed (turned_value sign (promoted k.numbers a) (term_constant v.term)) n is).1

      plus_made : IsMadeOperand u (arithmetic_in k at op.Plus (promoted k.numbers a) v)
      plus_made =
          term_made u at (Int (promoted k.numbers a)) 0 (constant op.Plus) (tree.Plus (integer_as k v.term (promoted k.numbers a))) refl refl (same_well_typed (integer_as k v.term (promoted k.numbers a)) given) known
          (λ n is. turned_number u k ground at (constant op.Plus) n op.Plus a v.term typed x (fixed_number op.Plus n is))
          (λ s is_test. no_tests u k ground at (Int (promoted k.numbers a)) 0 (constant op.Plus) is_test (tree.Plus (integer_as k v.term (promoted k.numbers a))) refl)

      minus_made : IsMadeOperand u (arithmetic_in k at op.Minus (promoted k.numbers a) v)
      minus_made =
          term_made u at (Int (promoted k.numbers a)) 0 (constant op.Minus) (tree.Minus (integer_as k v.term (promoted k.numbers a))) refl refl (computed_well_typed (integer_as k v.term (promoted k.numbers a)) given) known
          (λ n is. turned_number u k ground at (constant op.Minus) n op.Minus a v.term typed x (fixed_number op.Minus n is))
          (λ s is_test. no_tests u k ground at (Int (promoted k.numbers a)) 0 (constant op.Minus) is_test (tree.Minus (integer_as k v.term (promoted k.numbers a))) refl)

      complement_made : IsMadeOperand u (arithmetic_in k at op.Complement (promoted k.numbers a) v)
      complement_made =
          term_made u at (Int (promoted k.numbers a)) 0 (constant op.Complement) (tree.Complement (integer_as k v.term (promoted k.numbers a))) refl refl (computed_well_typed (integer_as k v.term (promoted k.numbers a)) given) known
          (λ n is. turned_number u k ground at (constant op.Complement) n op.Complement a v.term typed x (fixed_number op.Complement n is))
          (λ s is_test. no_tests u k ground at (Int (promoted k.numbers a)) 0 (constant op.Complement) is_test (tree.Complement (integer_as k v.term (promoted k.numbers a))) refl)

    promotes : (sign : UnaryOp) → ((a : IntType) → term_type v.term ≡ Int a → IsMadeOperand u (arithmetic_in k at sign (promoted k.numbers a) v)) → (t : Ty) → term_type v.term ≡ t → Makes u (arithmetic_by k at sign v (promoted_kind k t))
    promotes sign made (Int a) is = made a is
    promotes sign made t is = tt

    pub arithmetic_made : (sign : UnaryOp) → ((a : IntType) → term_type v.term ≡ Int a → IsMadeOperand u (arithmetic_in k at sign (promoted k.numbers a) v)) → Makes u (arithmetic k at sign v)
    arithmetic_made sign made = promotes sign made (term_type v.term) refl

  pub unary_made : (at : Place) (sign : UnaryOp) (x : OperandView) → IsMadeOperand u x → Makes u (unary k at sign x)
  unary_made at op.Address x made = address_made at x made
  unary_made at op.Indirection x made = indirection_made u k ground at (term_of x) (value_made u k ground x made)
  unary_made at op.Not x made = not_made at (value_of x) (value_made u k ground x made)
  unary_made at op.Plus x made = arithmetic_made at (value_of x) (value_made u k ground x made) op.Plus (plus_made at (value_of x) (value_made u k ground x made))
  unary_made at op.Minus x made = arithmetic_made at (value_of x) (value_made u k ground x made) op.Minus (minus_made at (value_of x) (value_made u k ground x made))
  unary_made at op.Complement x made = arithmetic_made at (value_of x) (value_made u k ground x made) op.Complement (complement_made at (value_of x) (value_made u k ground x made))
