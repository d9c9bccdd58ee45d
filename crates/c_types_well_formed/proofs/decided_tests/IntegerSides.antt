-- Relations of two integers are decided: their operands are sides of tests in the common type.
use Rattle.std.proofs.Common.{◌≡◌, ◌⊎◌, inl, inr, ℤ, Bool, true, Option, Some, None, refl, ap, sym, subst, subst₂, ◌∙◌}
use Rattle.std.proofs.lemmas.Bool.{eq-eqb, and_from, or_left, or_right, cond-true}
use Rattle.std.proofs.lemmas.Bool.Decides.{Decides-int_eq}
use Rattle.cc_base.specs.IntegerTypes.{wrap_into}
use Rattle.cc_base.specs.declared.int_types.IntType.{IntType}
use Rattle.cc_base.specs.declared.integer_operators.Rel.{Rel}
use Rattle.cc_base.specs.declared.integer_operators.Rel.TheVariants.{Lt, Le, Gt, Ge, Eq, Ne}
use Rattle.c_layout.specs.Types.{Int, same_kind}
use Rattle.c_layout.specs.CheckedTrees.{TermTree}
use Rattle.c_layout.specs.CheckedUnits.{UnitView}
use Rattle.c_layout.specs.declared.checked_tree.checked_terms.ObjectRef.{ObjectRef}
use Rattle.c_layout.specs.declared.checked_tree.checked_terms.ObjectRef.TheVariants as ref
use Rattle.c_types_scopes.specs.Known.{Known}
use Rattle.c_types_operands.specs.Operands.{term_constant}
use Rattle.c_types_operands.specs.Conversions.{implicit, integer_as}
use Rattle.lower_conditions.specs.declared.branch_tests.NamedObject.{NamedObject}
use Rattle.lower_conditions.specs.Tests.{named, named_or_assigned, constant_of}
use Rattle.lower_templates.specs.Worklist.TermKinds.{integer_type, scalar_of, term_type}
use Rattle.lower_templates.specs.declared.worklist.term_kinds.OperatorMeaning.{OperatorMeaning}
use Rattle.lower_templates.specs.declared.worklist.term_kinds.OperatorMeaning.TheVariants as meant
use Rattle.cfg.specs.declared.machine_instructions.Scalar.{Scalar}
use Rattle.cfg.specs.declared.machine_instructions.Scalar.TheVariants as of
use Rattle.memory_model.specs.Effects.Tests.{turned}
use Rattle.semantics.specs.SourceMachine.Items as item
use Rattle.semantics.specs.SourceMachine.Items.{NamedSide, NamedTest}
use Rattle.semantics.specs.SourceMachine.TermTests.{test_between, right_side, test_with, turned_test, relation_test, operator_test}
use Rattle.source_preservation.specs.ValueTyping.Marks.{Mark, Exactly, Loaded, Converted}
use Rattle.source_preservation.specs.Checks.LookedTypes.{is_kind, same_scalar}
use Rattle.source_preservation.specs.Checks.LookedTests.{same_reference, same_object, same_relation, is_side_of, converted_number, compares}
use Rattle.source_preservation.specs.Checks.LookedTerms.{side, quiet, operand, converted_in, converted_to}
use Rattle.c_types_well_formed.specs.WellFormed.ModelTypes.{IsKindOf, IsGround}
use Rattle.c_types_well_formed.specs.WellFormed.MadeTerms.{IsMade}
use Rattle.c_types_well_formed.proofs.decided_tests.ModelKinds.{same_kind_self, kind_there}
use Rattle.c_types_well_formed.proofs.decided_tests.ConvertedOperands.{bare_constant, in_type_by, in_type_named, in_type_assigned, in_type_number, in_type_typed, converted_exact, converted_null, converted_side, converted_stored, exact_in}
use Rattle.c_types_well_formed.proofs.decided_tests.NamedOperands.{quiet_side, quiet_number, operand_quiet, operand_stored, IsLoaded, IsAssigned, loads, names}

-- ---- the same objects and relations

same_reference_self : (o : ObjectRef) → same_reference o o ≡ true
same_reference_self (ref.Static n) = eq-eqb n n refl
same_reference_self (ref.Local n) = eq-eqb n n refl

same_scalar_self : (s : Scalar) → same_scalar s s ≡ true
same_scalar_self (of.Int kind) = same_kind_self kind
same_scalar_self of.Pointer = refl

pub same_object_self : (o : NamedObject) → same_object o o ≡ true
same_object_self o = and_from (same_reference o.object o.object) (same_scalar o.kind o.kind) (same_reference_self o.object) (same_scalar_self o.kind)

pub same_relation_self : (rel : Rel) → same_relation rel rel ≡ true
same_relation_self Lt = refl
same_relation_self Le = refl
same_relation_self Gt = refl
same_relation_self Ge = refl
same_relation_self Eq = refl
same_relation_self Ne = refl

-- ---- sides

-- what is known of a value makes it a side of a test
pub record IsSided (kind : IntType) (known : Option Mark) (s : NamedSide) : Type 0 where
  pub mark : Mark
  pub is : known ≡ Some mark
  pub fits : is_side_of kind mark s ≡ true

pub record IsSideIn (u : UnitView) (kind : IntType) (l : TermTree) : Type 0 where
  pub typed : term_type l ≡ Int kind
  pub object : (o : NamedObject) → named l ≡ Some o → IsSided kind (quiet u l) (item.named o)
  pub changed : (o : NamedObject) → named_or_assigned l ≡ Some o → IsSided kind (operand u l) (item.named o)
  pub number : (n : ℤ) → constant_of l ≡ Some n → IsSided kind (quiet u l) (item.number n)

-- an object of the type, and one of another type whose value is converted
own_side : (kind : IntType) (o : NamedObject) → o.kind ≡ of.Int kind → is_side_of kind (Loaded o) (item.named o) ≡ true
own_side kind o h = and_from (same_object o o) (same_scalar o.kind (of.Int kind)) (same_object_self o) (subst (λ s. same_scalar s (of.Int kind) ≡ true) (sym h) (same_kind_self kind))

other_side : (kind : IntType) (o : NamedObject) → is_side_of kind (Converted o kind) (item.named o) ≡ true
other_side kind o = and_from (same_object o o) (same_kind kind kind) (same_object_self o) (same_kind_self kind)

module _ (u : UnitView) (k : Known) (ground : IsGround u k) (e : TermTree) (kind a : IntType) (h : IsKindOf u.model kind) (t : term_type e ≡ Int a) (x : IsMade u e) where
  scalar_is : (o : NamedObject) → o.kind ≡ scalar_of (term_type e) → (b : IntType) → term_type e ≡ Int b → o.kind ≡ of.Int b
  scalar_is o is b typed = is ∙ ap scalar_of typed

  converted_mark_is : (o : NamedObject) → o.kind ≡ scalar_of (term_type e) → converted_to u (Int kind) (Some (Loaded o)) ≡ Some (Converted o kind)
  converted_mark_is o is =
      cond-true (is_kind u.model kind) (converted_number o kind o.kind) None (kind_there u.model ground.proper kind h) ∙ ap (converted_number o kind) (scalar_is o is a t)

  pub loaded_known : (o : NamedObject) → IsLoaded u e o → IsSided kind (side u (integer_as k e kind)) (item.named o)
  loaded_known o y = in_type_by k e (Int kind) (λ l. IsSided kind (side u l) (item.named o))
      (λ same. record { mark = Loaded o; is = y.side; fits = own_side kind o (scalar_is o y.kind kind same) })
      (record { mark = Converted o kind; is = converted_side k e (Int kind) u ∙ (ap (converted_to u (Int kind)) y.side ∙ converted_mark_is o y.kind); fits = other_side kind o })

  stored_known : (o : NamedObject) → IsAssigned u e o → IsSided kind (operand u (integer_as k e kind)) (item.named o)
  stored_known o y = in_type_by k e (Int kind) (λ l. IsSided kind (operand u l) (item.named o))
      (λ same. record { mark = Loaded o; is = operand_stored u e (Loaded o) y.side y.number y.null y.stored; fits = own_side kind o (scalar_is o y.kind kind same) })
      (record {
        mark = Converted o kind;
        is = operand_stored u (implicit k e (Int kind)) (Converted o kind)
            (converted_side k e (Int kind) u ∙ ap (converted_to u (Int kind)) y.side)
            (converted_exact k e (Int kind) u.model ∙ ap (converted_in u.model (Int kind)) y.number)
            (converted_null k e (Int kind) u.model)
            (converted_stored k e (Int kind) u ∙ (ap (converted_to u (Int kind)) y.stored ∙ converted_mark_is o y.kind));
        fits = other_side kind o;
      })

  quiet_known : (s : NamedSide) → IsSided kind (side u (integer_as k e kind)) s → IsSided kind (quiet u (integer_as k e kind)) s
  quiet_known s y = record { mark = y.mark; is = quiet_side u (integer_as k e kind) y.mark y.is; fits = y.fits }

  any_known : (s : NamedSide) → IsSided kind (quiet u (integer_as k e kind)) s → IsSided kind (operand u (integer_as k e kind)) s
  any_known s y = record { mark = y.mark; is = operand_quiet u (integer_as k e kind) y.mark y.is; fits = y.fits }

  changed_known : (o : NamedObject) → IsLoaded u e o ⊎ IsAssigned u e o → IsSided kind (operand u (integer_as k e kind)) (item.named o)
  changed_known o (inl y) = any_known (item.named o) (quiet_known (item.named o) (loaded_known o y))
  changed_known o (inr y) = stored_known o y

  number_known : (n : ℤ) → term_constant e ≡ Some n → IsSided kind (quiet u (integer_as k e kind)) (item.number n)
  number_known n is = record {
    mark = Exactly (wrap_into kind n);
    is = quiet_number u (integer_as k e kind) (wrap_into kind n) (exact_in u k ground e kind n h (x.constant n is));
    fits = (Decides-int_eq (wrap_into kind n) (wrap_into kind n)).1 refl;
  }

  pub integer_side : IsSideIn u kind (integer_as k e kind)
  integer_side = record {
    typed = in_type_typed k e (Int kind);
    object = λ o is. quiet_known (item.named o) (loaded_known o (loads u _ e o x.bare x.well_typed (sym (in_type_named k e (Int kind)) ∙ is)));
    changed = λ o is. changed_known o (names u _ e o x.bare x.well_typed (sym (in_type_assigned k e (Int kind)) ∙ is));
    number = λ n is. number_known n (sym (bare_constant e x.bare) ∙ (sym (in_type_number k e (Int kind)) ∙ is));
  }

-- ---- tests

module _ (u : UnitView) (kind : IntType) (there : is_kind u.model kind ≡ true) where
  straight : (rel : Rel) (left right : Option Mark) (o : NamedObject) (s : NamedSide) → IsSided kind left (item.named o) → IsSided kind right s → compares u.model (meant.Truth rel) left right (test_between o rel s (Some kind)) ≡ true
  straight rel left right o s x y = subst₂ (λ p q. compares u.model (meant.Truth rel) p q (test_between o rel s (Some kind)) ≡ true) (sym x.is) (sym y.is)
      (and_from (is_kind u.model kind) _ there (or_left _ _ (and_from (is_side_of kind x.mark (item.named o)) _ x.fits (and_from (is_side_of kind y.mark s) _ y.fits (same_relation_self rel)))))

  crossed : (rel : Rel) (left right : Option Mark) (o : NamedObject) (s : NamedSide) → IsSided kind left s → IsSided kind right (item.named o) → compares u.model (meant.Truth rel) left right (test_between o (turned rel) s (Some kind)) ≡ true
  crossed rel left right o s x y = subst₂ (λ p q. compares u.model (meant.Truth rel) p q (test_between o (turned rel) s (Some kind)) ≡ true) (sym x.is) (sym y.is)
      (and_from (is_kind u.model kind) _ there (or_right _ _ (and_from (is_side_of kind x.mark s) _ x.fits (and_from (is_side_of kind y.mark (item.named o)) _ y.fits (same_relation_self (turned rel))))))

  -- whether a test is decided
  abbrev pub compared : OperatorMeaning → Option Mark → Option Mark → Option NamedTest → Bool
  compared how left right None = true
  compared how left right (Some test) = compares u.model how left right test

  module _ (l r : TermTree) (x : IsSideIn u kind l) (y : IsSideIn u kind r) (rel : Rel) where
    with_right : (o : NamedObject) → IsSided kind (operand u l) (item.named o) → (p : Option NamedObject) (q : Option ℤ) → named r ≡ p → constant_of r ≡ q → compared (meant.Truth rel) (operand u l) (quiet u r) (test_with o rel kind (right_side p q)) ≡ true
    with_right o v (Some p) q f g = straight rel (operand u l) (quiet u r) o (item.named p) v (y.object p f)
    with_right o v None (Some n) f g = straight rel (operand u l) (quiet u r) o (item.number n) v (y.number n g)
    with_right o v None None f g = refl

    with_left : (p : Option ℤ) (q : Option NamedObject) → constant_of l ≡ p → named r ≡ q → compared (meant.Truth rel) (operand u l) (quiet u r) (turned_test p rel q kind) ≡ true
    with_left (Some n) (Some o) f g =
        let v = x.number n f in
        crossed rel (operand u l) (quiet u r) o (item.number n) (record { mark = v.mark; is = operand_quiet u l v.mark v.is; fits = v.fits }) (y.object o g)
    with_left (Some n) None f g = refl
    with_left None q f g = refl

    related : (p : Option NamedObject) → named_or_assigned l ≡ p → compared (meant.Truth rel) (operand u l) (quiet u r) (relation_test p l rel r) ≡ true
    related (Some o) is = subst (λ c. compared (meant.Truth rel) (operand u l) (quiet u r) (test_with o rel c (right_side (named r) (constant_of r))) ≡ true) (sym (ap integer_type x.typed)) (with_right o (x.changed o is) (named r) (constant_of r) refl refl)
    related None is = subst (λ c. compared (meant.Truth rel) (operand u l) (quiet u r) (turned_test (constant_of l) rel (named r) c) ≡ true) (sym (ap integer_type x.typed)) (with_left (constant_of l) (named r) refl refl)

  pub operators_decided : (l r : TermTree) → IsSideIn u kind l → IsSideIn u kind r → (how : OperatorMeaning) → compared how (operand u l) (quiet u r) (operator_test how l r) ≡ true
  operators_decided l r x y (meant.Number sign) = refl
  operators_decided l r x y (meant.Truth rel) = related l r x y rel (named_or_assigned l) refl
