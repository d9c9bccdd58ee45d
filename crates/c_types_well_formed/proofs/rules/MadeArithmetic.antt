-- Operators on two integers make what is made.
use Rattle.std.proofs.Common.{◌≡◌, ℤ, Bool, true, false, ◌&&◌, cond, Option, Some, None, refl, sym, subst}
use Rattle.std.proofs.lemmas.Bool.{and_from}
use Rattle.cc_base.specs.declared.diagnostics.Place.{Place}
use Rattle.cc_base.specs.declared.int_types.IntType.{IntType}
use Rattle.cc_base.specs.declared.integer_operators.IntOp.{IntOp}
use Rattle.cc_base.specs.declared.integer_operators.IntOp.TheVariants.{Shl, Shr}
use Rattle.c_layout.specs.CheckedTrees as tree
use Rattle.c_layout.specs.CheckedTrees.{TermTree, Typed}
use Rattle.c_layout.specs.CheckedUnits.{UnitView}
use Rattle.c_layout.specs.Types.{Int, same_kind}
use Rattle.c_layout.specs.declared.syntax_tree.expressions.BinaryOp.{BinaryOp}
use Rattle.c_types_rules.specs.Rules.IntegerKinds.{promoted, common}
use Rattle.c_types_scopes.specs.Known.{Known}
use Rattle.c_types_operands.specs.Operands.{ValueView, term_type, term_constant}
use Rattle.c_types_operands.specs.Conversions.{integer_as}
use Rattle.c_types_operands.specs.Arithmetic.{folded_constant, shifted_constant, result_kind, in_common_kind, integer_operation_by, value_kinds, integer_operation, promoted_kinds, shift_in, shift_by, shift_operation}
use Rattle.c_types_operands.specs.declared.arithmetic.KindPair.{KindPair}
use Rattle.lower_templates.specs.Worklist.TermKinds.{meaning}
use Rattle.lower_templates.specs.declared.worklist.term_kinds.OperatorMeaning.{OperatorMeaning}
use Rattle.lower_templates.specs.declared.worklist.term_kinds.OperatorMeaning.TheVariants as meant
use Rattle.source_preservation.specs.Checks.LookedTypes.{is_kind, counts_as, combines}
use Rattle.source_preservation.specs.Checks.LookedTerms.{is_well_typed_term}
use Rattle.source_preservation.proofs.checks.Truths.{never}
use Rattle.c_types_well_formed.specs.WellFormed.ModelTypes.{IsKindOf, IsGround}
use Rattle.c_types_well_formed.specs.WellFormed.MadeTerms.{IsMade, IsGiven, IsMadeOperand, Makes}
use Rattle.c_types_well_formed.proofs.decided_tests.MadeNumbers.{if_fixed, is_relation_meant, is_relation, is_shift_meant, is_shift, operator_number, shift_number}
use Rattle.c_types_well_formed.proofs.decided_tests.MadeTests.{is_number_meant, no_tests, integer_tests}
use Rattle.c_types_well_formed.proofs.decided_tests.ModelKinds.{same_kind_self}
use Rattle.c_types_well_formed.proofs.rules.GroundKinds.{kinds_are, number_known, kind_there, promoted_there, common_there, int_there, int_truths}
use Rattle.c_types_well_formed.proofs.rules.MadeConversions.{integer_given}
use Rattle.c_types_well_formed.proofs.rules.MadeNodes.{term_made}

pub counts_self : (sign : IntOp) (kind : IntType) → counts_as sign kind kind ≡ true
counts_self Shl kind = refl
counts_self Shr kind = refl
counts_self sign kind = same_kind_self kind

shift_no_test : (how : OperatorMeaning) → is_shift_meant how ≡ true → is_number_meant how ≡ true
shift_no_test (meant.Number sign) h = refl
shift_no_test (meant.Truth rel) h = never h

module _ (u : UnitView) (k : Known) (ground : IsGround u k) where
  combined : (how : OperatorMeaning) (is_int : Bool) (kind : IntType) → is_relation_meant how ≡ is_int → IsKindOf u.model kind → combines u how (Int kind) (Int kind) (Int (result_kind k is_int kind)) ≡ true
  combined (meant.Number sign) false kind is known = and_from (is_kind u.model kind) (same_kind kind kind && counts_as sign kind kind) (kind_there u k ground kind known) (and_from (same_kind kind kind) (counts_as sign kind kind) (same_kind_self kind) (counts_self sign kind))
  combined (meant.Number sign) true kind is known = never is
  combined (meant.Truth rel) true kind is known = int_truths u k ground
  combined (meant.Truth rel) false kind is known = never (sym is)

  counted : (sign : IntOp) (a b : IntType) → counts_as sign a b ≡ true → IsKindOf u.model a → combines u (meant.Number sign) (Int a) (Int b) (Int a) ≡ true
  counted sign a b counts known = and_from (is_kind u.model a) (same_kind a a && counts_as sign a b) (kind_there u k ground a known) (and_from (same_kind a a) (counts_as sign a b) (same_kind_self a) counts)

  shifted : (how : OperatorMeaning) (a b : IntType) → is_shift_meant how ≡ true → IsKindOf u.model a → combines u how (Int a) (Int b) (Int a) ≡ true
  shifted (meant.Number Shl) a b shift known = counted Shl a b refl known
  shifted (meant.Number Shr) a b shift known = counted Shr a b refl known
  shifted how a b shift known = never shift

  -- an operator on two terms that have its types
  integers_well_typed : (at : Place) (c : Option ℤ) (op : BinaryOp) (a b to : IntType) (x y : TermTree) (used : Bool) → IsGiven u x (Int a) → IsGiven u y (Int b) → combines u (meaning op) (Int a) (Int b) (Int to) ≡ true → is_well_typed_term u used (Typed at (Int to) 0 c (tree.Integer op x y)) ≡ true
  integers_well_typed at c op a b to x y used p q h =
      and_from (is_well_typed_term u true x) (is_well_typed_term u true y && combines u (meaning op) (term_type x) (term_type y) (Int to)) p.well_typed
      (and_from (is_well_typed_term u true y) (combines u (meaning op) (term_type x) (term_type y) (Int to)) q.well_typed
      (subst (λ s. combines u (meaning op) s (term_type y) (Int to) ≡ true) (sym p.same) (subst (λ t. combines u (meaning op) (Int a) t (Int to) ≡ true) (sym q.same) h)))

  pub common_made : (at : Place) (op : BinaryOp) (is_int : Bool) (kinds : KindPair) (left right : ValueView) → is_relation op ≡ is_int → IsMade u left.term → IsMade u right.term → term_type left.term ≡ Int kinds.left → term_type right.term ≡ Int kinds.right → IsMadeOperand u (in_common_kind k at op is_int kinds left right)
  common_made at op is_int kinds left right relates x y s t =
      term_made u at (Int (result_kind k is_int kind)) 0 constant (tree.Integer op (integer_as k left.term kind) (integer_as k right.term kind)) refl refl
      (integers_well_typed at constant op kind kind (result_kind k is_int kind) (integer_as k left.term kind) (integer_as k right.term kind) true (integer_given u k ground.proper left.term kinds.left kind x s known) (integer_given u k ground.proper right.term kinds.right kind y t known) (combined (meaning op) is_int kind relates known))
      (result_known is_int)
      (λ n is. operator_number u k ground at constant n op is_int kind left.term right.term relates known x y (if_fixed (left.fixed && right.fixed) (folded_constant op kind (term_constant left.term) (term_constant right.term)) n is).1)
      (λ scalar is_test. integer_tests u k ground at (Int (result_kind k is_int kind)) 0 constant is_test op kind kinds.left kinds.right left.term right.term known s t x y)
    where
      kind : IntType
      kind = common k.numbers kinds.left kinds.right

      constant : Option ℤ
      constant = cond (left.fixed && right.fixed) (folded_constant op kind (term_constant left.term) (term_constant right.term)) None

      known : IsKindOf u.model kind
      known = common_there u k ground kinds.left kinds.right (number_known u k ground left.term kinds.left x s) (number_known u k ground right.term kinds.right y t)

      result_known : (b : Bool) → IsKindOf u.model (result_kind k b kind)
      result_known true = int_there u k ground
      result_known false = known

  pub operation_made : (at : Place) (op : BinaryOp) (left right : ValueView) → is_relation op ≡ false → IsMade u left.term → IsMade u right.term → Makes u (integer_operation k at op left right)
  operation_made at op left right relates x y = by (value_kinds left right) refl
    where
      by : (o : Option KindPair) → value_kinds left right ≡ o → Makes u (integer_operation_by k at op left right o)
      by None is = tt
      by (Some kinds) is = let e = kinds_are (term_type left.term) (term_type right.term) kinds is in common_made at op false kinds left right relates x y e.0 e.1

  -- ---- shifts

  shift_in_made : (at : Place) (op : BinaryOp) (kinds : KindPair) (left right : ValueView) → is_shift op ≡ true → IsMade u left.term → IsMade u right.term → term_type left.term ≡ Int kinds.left → term_type right.term ≡ Int kinds.right → IsMadeOperand u (shift_in k at op (promoted_kinds k kinds) left right)
  shift_in_made at op kinds left right shift x y s t =
      term_made u at (Int a) 0 constant (tree.Integer op (integer_as k left.term a) (integer_as k right.term b)) refl refl
      (integers_well_typed at constant op a b a (integer_as k left.term a) (integer_as k right.term b) true (integer_given u k ground.proper left.term kinds.left a x s known) (integer_given u k ground.proper right.term kinds.right b y t (promoted_there u k ground kinds.right (number_known u k ground right.term kinds.right y t))) (shifted (meaning op) a b shift known))
      known
      (λ n is. shift_number u k ground at constant n op kinds.left kinds.right left.term right.term shift s t x y (if_fixed (left.fixed && right.fixed) (shifted_constant op a (term_constant left.term) (term_constant right.term)) n is).1)
      (λ scalar is_test. no_tests u k ground at (Int a) 0 constant is_test (tree.Integer op (integer_as k left.term a) (integer_as k right.term b)) untested)
    where
      a : IntType
      a = promoted k.numbers kinds.left

      b : IntType
      b = promoted k.numbers kinds.right

      constant : Option ℤ
      constant = cond (left.fixed && right.fixed) (shifted_constant op a (term_constant left.term) (term_constant right.term)) None

      known : IsKindOf u.model a
      known = promoted_there u k ground kinds.left (number_known u k ground left.term kinds.left x s)

      untested : is_number_meant (meaning op) ≡ true
      untested = shift_no_test (meaning op) shift

  pub shift_made : (at : Place) (op : BinaryOp) (left right : ValueView) → is_shift op ≡ true → IsMade u left.term → IsMade u right.term → Makes u (shift_operation k at op left right)
  shift_made at op left right shift x y = by (value_kinds left right) refl
    where
      by : (o : Option KindPair) → value_kinds left right ≡ o → Makes u (shift_by k at op left right o)
      by None is = tt
      by (Some kinds) is = let e = kinds_are (term_type left.term) (term_type right.term) kinds is in shift_in_made at op kinds left right shift x y e.0 e.1
