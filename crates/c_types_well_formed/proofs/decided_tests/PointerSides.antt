-- Comparisons of pointers with null are decided: one operand is null and the other one the value of an object.
use Rattle.std.proofs.Common.{◌≡◌, ◌⊎◌, inl, inr, pos, Bool, true, false, ◌&&◌, ◌||◌, cond, Option, Some, None, refl, ap, sym, subst, subst₂, ◌∙◌}
use Rattle.std.proofs.lemmas.Bool.{and_from, or_left, or_right}
use Rattle.cc_base.specs.declared.int_types.IntType.{IntType}
use Rattle.cc_base.specs.declared.integer_operators.Rel.{Rel}
use Rattle.c_layout.specs.Types.{Ty, Int, Pointer, Array, Struct, Void}
use Rattle.c_layout.specs.CheckedTrees as tree
use Rattle.c_layout.specs.CheckedTrees.{TermTree, Typed}
use Rattle.c_layout.specs.CheckedUnits.{UnitView}
use Rattle.c_layout.specs.declared.checked_tree.checked_terms.ConversionKind.TheVariants.{Implicit, Cast}
use Rattle.c_types_scopes.specs.Known.{Known}
use Rattle.c_types_operands.specs.Operands as operand
use Rattle.c_types_operands.specs.Conversions.{in_type, implicit}
use Rattle.lower_conditions.specs.declared.branch_tests.NamedObject.{NamedObject}
use Rattle.lower_conditions.specs.Tests.{named, named_or_assigned, compared_with_null}
use Rattle.lower_templates.specs.Worklist.TermKinds.{scalar_of, is_void_pointer, is_zero, is_zero_cast, converted, term_type, term_form, term_constant, is_null_term, is_null_constant}
use Rattle.cfg.specs.declared.machine_instructions.Scalar.TheVariants as of
use Rattle.semantics.specs.SourceMachine.Items as item
use Rattle.semantics.specs.SourceMachine.Items.{NamedTest}
use Rattle.semantics.specs.SourceMachine.TermTests.{test_between, null_test}
use Rattle.source_preservation.specs.ValueTyping.Marks.{Mark, Null, Loaded}
use Rattle.source_preservation.specs.Checks.LookedTypes.{is_scalar, is_pointer, is_address}
use Rattle.source_preservation.specs.Checks.LookedTests.{same_object, same_relation, same_test, converted_mark, converted_pointer, compares_with_null}
use Rattle.source_preservation.specs.Checks.LookedTerms as look
use Rattle.source_preservation.specs.Checks.LookedTerms.{exact, is_exact_zero, side, quiet, converted_to}
use Rattle.source_preservation.proofs.checks.SameTypes.{pointer_is}
use Rattle.source_preservation.proofs.checks.Truths.{never, no_some, both_true, either_true}
use Rattle.c_types_well_formed.specs.WellFormed.MadeTerms.{IsExactly, IsMade}
use Rattle.c_types_well_formed.proofs.decided_tests.ConvertedOperands.{bare_peeled, in_type_by, in_type_named, in_type_assigned, in_type_zero, converted_exact, converted_null, converted_side, converted_stored}
use Rattle.c_types_well_formed.proofs.decided_tests.NamedOperands.{address_no_number, zero_is, number_side, null_side, quiet_side, quiet_null, operand_quiet, operand_stored, IsLoaded, IsAssigned, loads, names}
use Rattle.c_types_well_formed.proofs.decided_tests.IntegerSides.{same_object_self, same_relation_self}

-- ---- null pointer constants

void_pointer : (t : Ty) → operand.is_void_pointer t ≡ true → is_void_pointer t ≡ true
void_pointer (Pointer Void) h = refl
void_pointer (Pointer (Int kind)) h = never h
void_pointer (Pointer (Pointer t)) h = never h
void_pointer (Pointer (Array t n)) h = never h
void_pointer (Pointer (Struct i)) h = never h
void_pointer (Int kind) h = never h
void_pointer (Array t n) h = never h
void_pointer (Struct i) h = never h
void_pointer Void h = never h

-- a cast that typing takes for null is one for tests
null_cast : (e : TermTree) → operand.is_null_form e ≡ true → is_zero_cast (term_type e) (converted (term_form e)) ≡ true
null_cast (Typed at t p c (tree.Convert Cast a)) h =
    let x = both_true (operand.is_void_pointer t) (operand.is_zero a) h in
    let y = both_true (operand.is_integer (term_type a)) (operand.is_0 (term_constant a)) x.1 in
    and_from (is_void_pointer t) (is_zero (term_constant a)) (void_pointer t x.0) y.1
null_cast (Typed at t p c (tree.Convert Implicit a)) h = never h
null_cast (Typed at t p c f) h = never h

null_term_is : (e : TermTree) → is_null_term e ≡ (is_zero (term_constant e) || is_zero_cast (term_type e) (converted (term_form e)))
null_term_is (Typed at t p c f) = refl

module _ (u : UnitView) (e : TermTree) (x : IsMade u e) where
  -- the number 0, or a null pointer constant of a pointer type
  abbrev IsNull : Type 0
  IsNull = IsExactly u e (pos 0) ⊎ (look.is_null u.model e ≡ true)

  typed_null : operand.is_null e ≡ true → IsNull
  typed_null h = by (either_true (operand.is_zero e) (operand.is_null_form e) h)
    where
      by : (operand.is_zero e ≡ true) ⊎ (operand.is_null_form e ≡ true) → IsNull
      by (inl f) = inl (x.constant (pos 0) (zero_is (term_constant e) (both_true (operand.is_integer (term_type e)) (operand.is_0 (term_constant e)) f).1))
      by (inr f) = inr (x.null (null_cast e f))

  tested_null : is_null_constant e ≡ true → IsNull
  tested_null h = by (either_true (is_zero (term_constant e)) (is_zero_cast (term_type e) (converted (term_form e))) (sym (null_term_is e) ∙ subst (λ a. is_null_term a ≡ true) (bare_peeled e x.bare) h))
    where
      by : (is_zero (term_constant e) ≡ true) ⊎ (is_zero_cast (term_type e) (converted (term_form e)) ≡ true) → IsNull
      by (inl f) = inl (x.constant (pos 0) (zero_is (term_constant e) f))
      by (inr f) = inr (x.null f)

  null_no_side : IsNull → side u e ≡ None
  null_no_side (inl y) = number_side u e (pos 0) y.number
  null_no_side (inr y) = null_side u e y

-- ---- sides

-- an operand whose value is a pointer
pub record IsPointerSide (u : UnitView) (l : TermTree) : Type 0 where
  pub object : (o : NamedObject) → named l ≡ Some o → (quiet u l ≡ Some (Loaded o)) × (o.kind ≡ of.Pointer)
  pub changed : (o : NamedObject) → named_or_assigned l ≡ Some o → (look.operand u l ≡ Some (Loaded o)) × (o.kind ≡ of.Pointer)
  pub null : is_null_constant l ≡ true → quiet u l ≡ Some Null

address_scalar : (t : Ty) → is_address t ≡ true → scalar_of t ≡ of.Pointer
address_scalar t h = pointer_is (scalar_of t) h

no_address : (a : IntType) (t : Ty) → t ≡ Int a → is_address t ≡ true → ⊥
no_address a t is h = never (subst (λ t. is_address t ≡ true) is h)

differ : (b : Bool) → b ≡ true → b ≡ false → ⊥
differ b h g = never (sym g ∙ h)

module _ (u : UnitView) (k : Known) (e : TermTree) (to : Ty) (fits : (is_address (term_type e) || operand.is_null e) ≡ true) (address : is_address to ≡ true) (x : IsMade u e) where
  -- the objects that it names are pointers
  loaded_pointer : (o : NamedObject) → IsLoaded u e o → o.kind ≡ of.Pointer
  loaded_pointer o y = by (either_true (is_address (term_type e)) (operand.is_null e) fits)
    where
      by : (is_address (term_type e) ≡ true) ⊎ (operand.is_null e ≡ true) → o.kind ≡ of.Pointer
      by (inl h) = y.kind ∙ address_scalar (term_type e) h
      by (inr h) = no_some (Loaded o) (sym (null_no_side u e x (typed_null u e x h)) ∙ y.side)

  assigned_pointer : (o : NamedObject) → IsAssigned u e o → o.kind ≡ of.Pointer
  assigned_pointer o y = by (either_true (is_address (term_type e)) (operand.is_null e) fits)
    where
      known : IsNull u e x → o.kind ≡ of.Pointer
      known (inl z) = no_some (pos 0) (sym y.number ∙ z.number)
      known (inr z) = absurd (differ (look.is_null u.model e) z y.null)

      by : (is_address (term_type e) ≡ true) ⊎ (operand.is_null e ≡ true) → o.kind ≡ of.Pointer
      by (inl h) = y.kind ∙ address_scalar (term_type e) h
      by (inr h) = known (typed_null u e x h)

  converted_pointer_is : (o : NamedObject) → o.kind ≡ of.Pointer → converted_to u to (Some (Loaded o)) ≡ Some (Loaded o)
  converted_pointer_is o is =
      ap (λ s. cond (is_scalar u.model s) (converted_mark s (Loaded o)) None) (address_scalar to address) ∙ ap (converted_pointer o) is

  loaded_known : (o : NamedObject) → IsLoaded u e o → side u (in_type k e to) ≡ Some (Loaded o)
  loaded_known o y = in_type_by k e to (λ l. side u l ≡ Some (Loaded o)) (λ same. y.side)
      (converted_side k e to u ∙ (ap (converted_to u to) y.side ∙ converted_pointer_is o (loaded_pointer o y)))

  assigned_known : (o : NamedObject) → IsAssigned u e o → look.operand u (in_type k e to) ≡ Some (Loaded o)
  assigned_known o y = in_type_by k e to (λ l. look.operand u l ≡ Some (Loaded o)) (λ same. operand_stored u e (Loaded o) y.side y.number y.null y.stored)
      (operand_stored u (implicit k e to) (Loaded o)
      (converted_side k e to u ∙ ap (converted_to u to) y.side)
      (converted_exact k e to u.model ∙ address_no_number u.model to (exact u.model e) address)
      (converted_null k e to u.model ∙ (ap (λ b. is_address to && (b || is_exact_zero u.model e)) y.null ∙ (ap (λ o. is_address to && is_zero o) y.number ∙ and_false (is_address to))))
      (converted_stored k e to u ∙ (ap (converted_to u to) y.stored ∙ converted_pointer_is o (assigned_pointer o y))))
    where
      and_false : (b : Bool) → (b && false) ≡ false
      and_false true = refl
      and_false false = refl

  null_known : IsNull u e x → quiet u (in_type k e to) ≡ Some Null
  null_known n = in_type_by k e to (λ l. quiet u l ≡ Some Null) (λ same. quiet_null u e (own same n))
      (quiet_null u (implicit k e to) (converted_null k e to u.model ∙ and_from (is_address to) (look.is_null u.model e || is_exact_zero u.model e) address (other n)))
    where
      own : term_type e ≡ to → IsNull u e x → look.is_null u.model e ≡ true
      own same (inl y) = absurd (no_address y.integer to (sym same ∙ y.typed) address)
      own same (inr y) = y

      other : IsNull u e x → (look.is_null u.model e || is_exact_zero u.model e) ≡ true
      other (inl y) = or_right (look.is_null u.model e) (is_exact_zero u.model e) (ap is_zero y.number)
      other (inr y) = or_left (look.is_null u.model e) (is_exact_zero u.model e) y

  changed_known : (o : NamedObject) → IsLoaded u e o ⊎ IsAssigned u e o → (look.operand u (in_type k e to) ≡ Some (Loaded o)) × (o.kind ≡ of.Pointer)
  changed_known o (inl y) = (operand_quiet u (in_type k e to) (Loaded o) (quiet_side u (in_type k e to) (Loaded o) (loaded_known o y)), loaded_pointer o y)
  changed_known o (inr y) = (assigned_known o y, assigned_pointer o y)

  pub pointer_side : IsPointerSide u (in_type k e to)
  pointer_side = record {
    object = λ o is.
        let y = loads u _ e o x.bare x.well_typed (sym (in_type_named k e to) ∙ is) in
        (quiet_side u (in_type k e to) (Loaded o) (loaded_known o y), loaded_pointer o y);
    changed = λ o is. changed_known o (names u _ e o x.bare x.well_typed (sym (in_type_assigned k e to) ∙ is));
    null = λ is. null_known (tested_null u e x (sym (in_type_zero k e to) ∙ is));
  }

-- ---- tests

null_side_decides : (o : NamedObject) (rel : Rel) → o.kind ≡ of.Pointer → (is_pointer o.kind && same_test (test_between o rel item.nothing None) (test_between o rel item.nothing None)) ≡ true
null_side_decides o rel is = and_from (is_pointer o.kind) (same_test (test_between o rel item.nothing None) (test_between o rel item.nothing None)) (ap is_pointer is)
    (and_from (same_object o o) (same_relation rel rel && true) (same_object_self o) (and_from (same_relation rel rel) true (same_relation_self rel) refl))

-- whether a test is decided
abbrev pub compared : Rel → Option Mark → Option Mark → Option NamedTest → Bool
compared rel left right None = true
compared rel left right (Some test) = compares_with_null rel left right test

module _ (u : UnitView) (l r : TermTree) (x : IsPointerSide u l) (y : IsPointerSide u r) (rel : Rel) where
  null_right : is_null_constant r ≡ true → (p : Option NamedObject) → named_or_assigned l ≡ p → compared rel (look.operand u l) (quiet u r) (null_test p rel) ≡ true
  null_right h None is = refl
  null_right h (Some o) is =
      let v = x.changed o is in
      subst₂ (λ p q. compares_with_null rel p q (test_between o rel item.nothing None) ≡ true) (sym v.0) (sym (y.null h)) (null_side_decides o rel v.1)

  null_left : is_null_constant l ≡ true → (p : Option NamedObject) → named r ≡ p → compared rel (look.operand u l) (quiet u r) (null_test p rel) ≡ true
  null_left h None is = refl
  null_left h (Some o) is =
      let v = y.object o is in
      subst₂ (λ p q. compares_with_null rel p q (test_between o rel item.nothing None) ≡ true) (sym (operand_quiet u l Null (x.null h))) (sym v.0) (null_side_decides o rel v.1)

  by_null : (a b : Bool) → is_null_constant r ≡ a → is_null_constant l ≡ b → compared rel (look.operand u l) (quiet u r) (null_test (cond a (named_or_assigned l) (cond b (named r) None)) rel) ≡ true
  by_null true b h g = null_right h (named_or_assigned l) refl
  by_null false true h g = null_left g (named r) refl
  by_null false false h g = refl

  pub pointers_decided : compared rel (look.operand u l) (quiet u r) (null_test (compared_with_null l r) rel) ≡ true
  pointers_decided = by_null (is_null_constant r) (is_null_constant l) refl refl
