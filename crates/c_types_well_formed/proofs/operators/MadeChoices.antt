-- `&&`, `||`, `?:` and the comma operator make what is made.
use Rattle.std.proofs.Common.{◌≡◌, ℤ, Bool, true, false, not, ◌&&◌, cond, Option, Some, None, refl, sym, subst, ◌∙◌}
use Rattle.std.proofs.lemmas.Bool.{and_from}
use Rattle.cc_base.specs.declared.diagnostics.Place.{Place}
use Rattle.cc_base.specs.declared.int_types.IntType.{IntType}
use Rattle.c_layout.specs.CheckedTrees as tree
use Rattle.c_layout.specs.CheckedTrees.{TermTree, Typed, LvalueTree}
use Rattle.c_layout.specs.CheckedUnits.{UnitView}
use Rattle.c_layout.specs.Types.{Ty, Int, Pointer, Void}
use Rattle.c_layout.specs.declared.syntax_tree.expressions.LogicalOp.{LogicalOp}
use Rattle.c_types_rules.specs.Rules.IntegerKinds.{common}
use Rattle.c_types_rules.specs.declared.rules.type_conversions.Pairing.{Pairing}
use Rattle.c_types_rules.specs.declared.rules.type_conversions.Pairing.TheVariants as pair
use Rattle.c_types_scopes.specs.Known.{Known}
use Rattle.c_types_operands.specs.Operands.{OperandView, OperandForm, AsValue, AsLvalue, ValueView, value_of, term_of, lvalue_value, lvalue_type, term_type, term_constant, is_scalar, is_void, is_struct, is_null}
use Rattle.c_types_operands.specs.Conversions.{in_type, integer_as, unused}
use Rattle.c_types_operands.specs.Arithmetic.{int_kind, integer_kinds}
use Rattle.c_types_operands.specs.Comparisons.{pairing}
use Rattle.c_types_operands.specs.declared.arithmetic.KindPair.{KindPair}
use Rattle.c_types_operators.specs.Choices.{logical_value, are_scalars, logical_node, logical_of, logical, ChoiceView, chosen, integer_choice, plain_choice, paired_choice, paired_choice_of, are_void, other_choice, choice_by, scalar_choice, choice_of, choice_from, conditional, struct_comma, value_comma, comma_with, comma}
use Rattle.source_preservation.specs.Checks.LookedTypes.{is_truth, same_mark}
use Rattle.source_preservation.specs.Checks.LookedTerms.{is_well_typed_term, is_well_typed_place, has_tests}
use Rattle.source_preservation.proofs.checks.Truths.{never}
use Rattle.c_types_well_formed.specs.WellFormed.ModelTypes.{IsKindOf, IsTypeOf, IsGround}
use Rattle.c_types_well_formed.specs.WellFormed.MadeTerms.{IsMade, IsMadePlace, IsMadeForm, IsGiven, IsMadeOperand, Makes}
use Rattle.c_types_well_formed.proofs.decided_tests.MadeNumbers.{if_fixed, logical_number, choice_number}
use Rattle.c_types_well_formed.proofs.decided_tests.MadeTests.{no_tests, logical_tests, choice_tests, arm_tests}
use Rattle.c_types_well_formed.proofs.rules.ModelKinds.{mark_same}
use Rattle.c_types_well_formed.proofs.rules.GroundKinds.{kinds_are, number_scalar, pointer_scalar, number_known, common_there, int_there, int_truths}
use Rattle.c_types_well_formed.proofs.rules.MadeConversions.{scalar_well_typed, same_given, integer_given}
use Rattle.c_types_well_formed.proofs.rules.MadeNodes.{term_made, node_made, makes_if}
use Rattle.c_types_well_formed.proofs.rules.MadeValues.{lvalue_made, value_made}
use Rattle.c_types_well_formed.proofs.rules.PairedTypes.{IsPointer, ComesToPointer, PairedAs, paired_as, comes_scalar, pointer_given}
use Rattle.c_types_well_formed.proofs.rules.UnusedTerms.{unused_well_typed}

both_scalars : (t s : Ty) → are_scalars t s ≡ true → (is_scalar t ≡ true) × (is_scalar s ≡ true)
both_scalars t s h = by (is_scalar t) h
  where
    by : (b : Bool) → cond b (is_scalar s) false ≡ true → (b ≡ true) × (is_scalar s ≡ true)
    by true h = (refl, h)
    by false h = never h

void_is : (t : Ty) → is_void t ≡ true → t ≡ Void
void_is Void h = refl
void_is t h = never h

both_void : (t s : Ty) → are_void t s ≡ true → (t ≡ Void) × (s ≡ Void)
both_void t s h = by (is_void t) refl h
  where
    by : (b : Bool) → is_void t ≡ b → cond b (is_void s) false ≡ true → (t ≡ Void) × (s ≡ Void)
    by true is h = (void_is t is, void_is s h)
    by false is h = never h

module _ (u : UnitView) (k : Known) (ground : IsGround u k) where
  -- ---- `&&` and `||`

  logical_node_made : (at : Place) (sign : LogicalOp) (left right : ValueView) → IsMade u left.term → IsMade u right.term → is_scalar (term_type left.term) ≡ true → is_scalar (term_type right.term) ≡ true → IsMadeOperand u (logical_node k at sign left right)
  logical_node_made at sign left right x y s t =
      let value : Option ℤ = logical_value sign (term_constant left.term) (term_constant right.term) in
      let constant : Option ℤ = cond (left.fixed && right.fixed) value None in
      term_made u at (Int (int_kind k)) 0 constant (tree.Logical sign left.term right.term) refl refl
      (and_from (is_well_typed_term u true left.term) (is_well_typed_term u true right.term && is_truth (Int (int_kind k))) (scalar_well_typed u left.term x s) (and_from (is_well_typed_term u true right.term) (is_truth (Int (int_kind k))) (scalar_well_typed u right.term y t) (int_truths u k ground)))
      (int_there u k ground)
      (λ n is. logical_number u k ground at constant n sign left.term right.term x y (if_fixed (left.fixed && right.fixed) value n is).1)
      (λ scalar is_test. logical_tests u k ground at (Int (int_kind k)) 0 constant is_test sign left.term right.term s t x y)

  logical_of_made : (at : Place) (sign : LogicalOp) (left right : ValueView) → IsMade u left.term → IsMade u right.term → Makes u (logical_of k at sign left right)
  logical_of_made at sign left right x y = makes_if u (are_scalars (term_type left.term) (term_type right.term)) _ _ (λ h. let b = both_scalars (term_type left.term) (term_type right.term) h in logical_node_made at sign left right x y b.0 b.1) (λ h. tt)

  pub logical_made : (at : Place) (sign : LogicalOp) (x y : OperandView) → IsMadeOperand u x → IsMadeOperand u y → Makes u (logical k at sign x y)
  logical_made at sign x y p q = logical_of_made at sign (value_of x) (value_of y) (value_made u k ground x p) (value_made u k ground y q)

  -- ---- `?:`

  module _ (at : Place) (condition : TermTree) (made : IsMade u condition) (scalar : is_scalar (term_type condition) ≡ true) where
    arms_well_typed : (t : Ty) (constant : Option ℤ) (used : Bool) (a b : TermTree) → is_well_typed_term u used a ≡ true → is_well_typed_term u used b ≡ true → term_type a ≡ t → term_type b ≡ t → is_well_typed_term u used (Typed at t 0 constant (tree.Conditional condition a b)) ≡ true
    arms_well_typed t constant used a b p q s r =
        let same : Bool = same_mark (term_type a) t && same_mark (term_type b) t in
        and_from (is_well_typed_term u true condition) (has_tests u true condition && (is_well_typed_term u used a && (is_well_typed_term u used b && same))) (scalar_well_typed u condition made scalar)
        (and_from (has_tests u true condition) (is_well_typed_term u used a && (is_well_typed_term u used b && same)) (made.tests scalar true)
        (and_from (is_well_typed_term u used a) (is_well_typed_term u used b && same) p
        (and_from (is_well_typed_term u used b) same q
        (and_from (same_mark (term_type a) t) (same_mark (term_type b) t) (subst (λ x. same_mark x t ≡ true) (sym s) (mark_same t)) (subst (λ x. same_mark x t ≡ true) (sym r) (mark_same t))))))

    integers_made : (first second : TermTree) (fixed : Bool) (a b : IntType) → IsMade u first → IsMade u second → term_type first ≡ Int a → term_type second ≡ Int b → IsMadeOperand u (integer_choice k at (common k.numbers a b) (record { condition = condition; first = first; second = second; fixed = fixed }))
    integers_made first second fixed a b x y s t =
        term_made u at (Int kind) 0 constant (tree.Conditional condition (integer_as k first kind) (integer_as k second kind)) refl refl
        (arms_well_typed (Int kind) constant true (integer_as k first kind) (integer_as k second kind) p.well_typed q.well_typed p.same q.same)
        known
        (λ n is. choice_number u k ground at constant n kind condition first second known made x y (if_fixed fixed value n is).1)
        (λ h is_test. choice_tests u k ground at (Int kind) 0 constant is_test condition (integer_as k first kind) (integer_as k second kind) scalar made (arm_tests u k first (Int kind) (number_scalar first a s) x) (arm_tests u k second (Int kind) (number_scalar second b t) y))
      where
        kind : IntType
        kind = common k.numbers a b

        value : Option ℤ
        value = chosen kind (term_constant condition) (term_constant first) (term_constant second)

        constant : Option ℤ
        constant = cond fixed value None

        known : IsKindOf u.model kind
        known = common_there u k ground a b (number_known u k ground first a x s) (number_known u k ground second b y t)

        p : IsGiven u (integer_as k first kind) (Int kind)
        p = integer_given u k ground.proper first a kind x s known

        q : IsGiven u (integer_as k second kind) (Int kind)
        q = integer_given u k ground.proper second b kind y t known

    -- arms of one type of pointers
    pointers_made : (a b : TermTree) (t target : Ty) → t ≡ Pointer target → IsGiven u a t → IsGiven u b t → IsTypeOf u.model t → has_tests u false a ≡ true → has_tests u false b ≡ true → IsMadeOperand u (plain_choice at condition a b)
    pointers_made a b t target is p q known first second =
        node_made u at (term_type a) 0 (tree.Conditional condition a b) refl refl
        (subst (λ used. is_well_typed_term u (not used) (Typed at (term_type a) 0 None (tree.Conditional condition a b)) ≡ true) (sym (subst (λ s. is_void s ≡ false) (sym (p.same ∙ is)) refl)) (arms_well_typed (term_type a) None true a b p.well_typed q.well_typed refl (q.same ∙ sym p.same)))
        (subst (λ s. IsTypeOf u.model s) (sym p.same) known)
        (λ h is_test. choice_tests u k ground at (term_type a) 0 None is_test condition a b scalar made first second)

    voids_made : (a b : TermTree) → IsMade u a → IsMade u b → term_type a ≡ Void → term_type b ≡ Void → IsMadeOperand u (plain_choice at condition a b)
    voids_made a b x y s t =
        node_made u at (term_type a) 0 (tree.Conditional condition a b) refl refl
        (arms_well_typed (term_type a) None (not (is_void (term_type a))) a b x.well_typed (subst (λ r. is_well_typed_term u (not (is_void r)) b ≡ true) (t ∙ sym s) y.well_typed) refl (t ∙ sym s))
        x.typed
        (λ h is_test. never (subst (λ r. is_scalar r ≡ true) s h))

    left_made : (a b : TermTree) → IsMade u a → IsMade u b → IsPointer (term_type a) → ComesToPointer (term_type b) (is_null b) → IsMadeOperand u (plain_choice at condition a (in_type k b (term_type a)))
    left_made a b x y pointer comes =
        let first : is_scalar (term_type a) ≡ true = pointer_scalar a pointer.0 pointer.1 in
        pointers_made a (in_type k b (term_type a)) (term_type a) pointer.0 pointer.1 (same_given u k ground.proper a (term_type a) x first refl) (pointer_given u k ground b (term_type a) pointer.0 pointer.1 y comes x.typed) x.typed
        (x.tests first false)
        (arm_tests u k b (term_type a) (comes_scalar b comes) y)

    right_made : (a b : TermTree) → IsMade u a → IsMade u b → ComesToPointer (term_type a) (is_null a) → IsPointer (term_type b) → IsMadeOperand u (plain_choice at condition (in_type k a (term_type b)) b)
    right_made a b x y comes pointer =
        let second : is_scalar (term_type b) ≡ true = pointer_scalar b pointer.0 pointer.1 in
        pointers_made (in_type k a (term_type b)) b (term_type b) pointer.0 pointer.1 (pointer_given u k ground a (term_type b) pointer.0 pointer.1 x comes y.typed) (same_given u k ground.proper b (term_type b) y second refl) y.typed
        (arm_tests u k a (term_type b) (comes_scalar a comes) x)
        (y.tests second false)

    module _ (a b : TermTree) (fixed : Bool) (x : IsMade u a) (y : IsMade u b) where
      abbrev choice : ChoiceView
      choice = record { condition = condition; first = a; second = b; fixed = fixed }

      paired_made : Makes u (paired_choice_of k at choice)
      paired_made = by (pairing a b) (paired_as (term_type a) (is_null a) (term_type b) (is_null b))
        where
          by : (how : Pairing) → PairedAs (term_type a) (is_null a) (term_type b) (is_null b) how → Makes u (paired_choice k at choice how)
          by pair.AsLeft are = left_made a b x y are.0 are.1
          by pair.AsRight are = right_made a b x y are.0 are.1
          by pair.Integers are = tt
          by pair.Crosses are = tt
          by pair.Apart are = tt

      other_made : Makes u (other_choice k at choice)
      other_made = makes_if u (are_void (term_type a) (term_type b)) _ _ (λ h. let v = both_void (term_type a) (term_type b) h in voids_made a b x y v.0 v.1) (λ h. paired_made)

      pub choice_made : Makes u (scalar_choice k at choice)
      choice_made = by (integer_kinds (term_type a) (term_type b)) refl
        where
          by : (o : Option KindPair) → integer_kinds (term_type a) (term_type b) ≡ o → Makes u (choice_by k at choice o)
          by (Some kinds) is = let e = kinds_are (term_type a) (term_type b) kinds is in integers_made a b fixed kinds.left kinds.right x y e.0 e.1
          by None is = other_made

  choice_of_made : (at : Place) (c : ChoiceView) → IsMade u c.condition → IsMade u c.first → IsMade u c.second → Makes u (choice_of k at c)
  choice_of_made at c p q r = makes_if u (is_scalar (term_type c.condition)) _ _ (λ h. choice_made at c.condition p h c.first c.second c.fixed q r) (λ h. tt)

  pub conditional_made : (at : Place) (x y z : OperandView) → IsMadeOperand u x → IsMadeOperand u y → IsMadeOperand u z → Makes u (conditional k at x y z)
  conditional_made at x y z p q r = choice_of_made at (choice_from (value_of x) (value_of y) (value_of z)) (value_made u k ground x p) (value_made u k ground y q) (value_made u k ground z r)

  -- ---- the comma operator

  module _ (at : Place) (first : TermTree) (well_typed : is_well_typed_term u false first ≡ true) where
    value_comma_made : (e : TermTree) → IsMade u e → IsMadeOperand u (value_comma at first e)
    value_comma_made e made =
        node_made u at (term_type e) 0 (tree.Comma first e) refl refl
        (and_from (is_well_typed_term u false first) (is_well_typed_term u (not (is_void (term_type e))) e && same_mark (term_type e) (term_type e)) well_typed (and_from (is_well_typed_term u (not (is_void (term_type e))) e) (same_mark (term_type e) (term_type e)) made.well_typed (mark_same (term_type e))))
        made.typed
        (λ scalar is_test. no_tests u k ground at (term_type e) 0 None is_test (tree.Comma first e) refl)

    struct_comma_made : (l : LvalueTree) → IsMadePlace u l → IsMadeOperand u (struct_comma at first l)
    struct_comma_made l place = record { well_typed = and_from (is_well_typed_term u false first) (is_well_typed_place u l) well_typed place.well_typed; typed = place.typed }

    lvalue_comma_made : (l : LvalueTree) (b : Bool) → IsMadePlace u l → IsMadeOperand u (cond b (struct_comma at first l) (value_comma at first (lvalue_value l)))
    lvalue_comma_made l true place = struct_comma_made l place
    lvalue_comma_made l false place = value_comma_made (lvalue_value l) (lvalue_made u k ground l place)

    comma_with_made : (f : OperandForm) → IsMadeForm u f → IsMadeOperand u (comma_with at first f)
    comma_with_made (AsLvalue l) place = lvalue_comma_made l (is_struct (lvalue_type l)) place
    comma_with_made (AsValue e) made = value_comma_made e made

  pub comma_made : (at : Place) (x y : OperandView) → IsMadeOperand u x → IsMadeOperand u y → IsMadeOperand u (comma at x y)
  comma_made at x y p q = comma_with_made at (unused (term_of x)) (unused_well_typed u (not (is_void (term_type (term_of x)))) (term_of x) (IsMade.well_typed (value_made u k ground x p))) y.form q
