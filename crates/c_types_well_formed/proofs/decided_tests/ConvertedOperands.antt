-- What looks see of an operand in a type, which is converted or stands as it is.
use Rattle.std.proofs.Common.{◌≡◌, ℤ, true, false, ◌&&◌, ◌||◌, Some, None, refl, ap, ap₂, sym, subst, ◌∙◌}
use Rattle.std.proofs.lemmas.Bool.{cond_both, cond-true}
use Rattle.cc_base.specs.IntegerTypes.{in_type, wrap_into}
use Rattle.cc_base.specs.declared.int_types.IntType.{IntType}
use Rattle.c_layout.specs.Types.{Ty, Int, same_type}
use Rattle.c_layout.specs.CheckedTrees as tree
use Rattle.c_layout.specs.CheckedTrees.{TermTree, Typed}
use Rattle.c_layout.specs.CheckedUnits.{UnitView}
use Rattle.c_layout.specs.declared.data_model.Model.{Model}
use Rattle.c_layout.specs.declared.checked_tree.checked_terms.ConversionKind.TheVariants.{Implicit, Cast}
use Rattle.c_types_scopes.specs.Known.{Known}
use Rattle.c_types_operands.specs.Operands.{term_type, term_constant}
use Rattle.c_types_operands.specs.Conversions as convert
use Rattle.c_types_operands.specs.Conversions.{noted, implicit, integer_as}
use Rattle.lower_conditions.specs.Tests.{named, named_or_assigned, constant_of}
use Rattle.lower_templates.specs.Worklist.TermKinds.{integer_type, peeled, is_zero, is_null_constant}
use Rattle.source_preservation.specs.Checks.LookedTypes.{is_kind, is_address}
use Rattle.source_preservation.specs.Checks.LookedTerms.{exact, is_exact_zero, is_null, side, stored, converted_in, converted_to}
use Rattle.c_types_rules.proofs.SameTypes.{type_is}
use Rattle.source_preservation.proofs.ranges.TypeRanges.{wrapped_own}
use Rattle.c_types_well_formed.specs.WellFormed.ModelTypes.{IsKindOf, IsGround}
use Rattle.c_types_well_formed.specs.WellFormed.MadeTerms.{IsExactly, is_implicit}
use Rattle.c_types_well_formed.proofs.decided_tests.ModelKinds.{same_type_self, kind_there, kind_size}
use Rattle.c_types_well_formed.proofs.decided_tests.Rewrapped.{noted_exact, noted_null}

-- ---- a term that notes a type

module _ (k : Known) (to : Ty) where
  noted_side : (u : UnitView) (e : TermTree) → side u (noted k to e) ≡ side u e
  noted_side u (Typed at t p c (tree.Library g args allocated)) = refl
  noted_side u (Typed at t p c f) = refl

  noted_stored : (u : UnitView) (e : TermTree) → stored u (noted k to e) ≡ stored u e
  noted_stored u (Typed at t p c (tree.Library g args allocated)) = refl
  noted_stored u (Typed at t p c f) = refl

  noted_named : (e : TermTree) → named (noted k to e) ≡ named e
  noted_named (Typed at t p c (tree.Library g args allocated)) = refl
  noted_named (Typed at t p c (tree.Convert Implicit e)) = refl
  noted_named (Typed at t p c (tree.Convert Cast e)) = refl
  noted_named (Typed at t p c f) = refl

  noted_assigned : (e : TermTree) → named_or_assigned (noted k to e) ≡ named_or_assigned e
  noted_assigned (Typed at t p c (tree.Library g args allocated)) = refl
  noted_assigned (Typed at t p c (tree.Convert Implicit e)) = refl
  noted_assigned (Typed at t p c (tree.Convert Cast e)) = refl
  noted_assigned (Typed at t p c f) = refl

  noted_number : (e : TermTree) → constant_of (noted k to e) ≡ constant_of e
  noted_number (Typed at t p c (tree.Library g args allocated)) = refl
  noted_number (Typed at t p c (tree.Convert Implicit e)) = refl
  noted_number (Typed at t p c (tree.Convert Cast e)) = refl
  noted_number (Typed at t p c f) = refl

  noted_zero : (e : TermTree) → is_null_constant (noted k to e) ≡ is_null_constant e
  noted_zero (Typed at t p c (tree.Library g args allocated)) = refl
  noted_zero (Typed at t p c (tree.Convert Implicit e)) = refl
  noted_zero (Typed at t p c (tree.Convert Cast e)) = refl
  noted_zero (Typed at t p c f) = refl

-- ---- no conversion stands round an operand

pub bare_peeled : (e : TermTree) → is_implicit e ≡ false → peeled e ≡ e
bare_peeled (Typed at t p c (tree.Convert Implicit e)) bare = absurd (let d : true ≡ false = bare in let no : ⊥ = cc in no)
bare_peeled (Typed at t p c (tree.Convert Cast e)) bare = refl
bare_peeled (Typed at t p c f) bare = refl

pub bare_constant : (e : TermTree) → is_implicit e ≡ false → constant_of e ≡ term_constant e
bare_constant e bare = ap term_constant (bare_peeled e bare)

-- ---- an operand in a type

module _ (k : Known) (e : TermTree) (to : Ty) where
  pub in_type_by : (P : TermTree → Type 0) → (term_type e ≡ to → P e) → P (implicit k e to) → P (convert.in_type k e to)
  in_type_by P f g = cond_both (same_type (term_type e) to) e (implicit k e to) P (λ h. f (type_is (term_type e) to h)) (λ h. g)

  pub in_type_named : named (convert.in_type k e to) ≡ named e
  in_type_named = in_type_by (λ l. named l ≡ named e) (λ h. refl) (noted_named k to e)

  pub in_type_assigned : named_or_assigned (convert.in_type k e to) ≡ named_or_assigned e
  in_type_assigned = in_type_by (λ l. named_or_assigned l ≡ named_or_assigned e) (λ h. refl) (noted_assigned k to e)

  pub in_type_number : constant_of (convert.in_type k e to) ≡ constant_of e
  in_type_number = in_type_by (λ l. constant_of l ≡ constant_of e) (λ h. refl) (noted_number k to e)

  pub in_type_zero : is_null_constant (convert.in_type k e to) ≡ is_null_constant e
  in_type_zero = in_type_by (λ l. is_null_constant l ≡ is_null_constant e) (λ h. refl) (noted_zero k to e)

  pub in_type_typed : term_type (convert.in_type k e to) ≡ to
  in_type_typed = in_type_by (λ l. term_type l ≡ to) (λ h. h) refl

  pub converted_exact : (m : Model) → exact m (implicit k e to) ≡ converted_in m to (exact m e)
  converted_exact m = ap (converted_in m to) (noted_exact k to m e)

  pub converted_null : (m : Model) → is_null m (implicit k e to) ≡ (is_address to && (is_null m e || is_exact_zero m e))
  converted_null m = ap₂ (λ a b. is_address to && (a || b)) (noted_null k to m e) (ap is_zero (noted_exact k to m e))

  pub converted_side : (u : UnitView) → side u (implicit k e to) ≡ converted_to u to (side u e)
  converted_side u = ap (converted_to u to) (noted_side k to u e)

  pub converted_stored : (u : UnitView) → stored u (implicit k e to) ≡ converted_to u to (stored u e)
  converted_stored u = ap (converted_to u to) (noted_stored k to u e)

pub in_own : (k : Known) (e : TermTree) → convert.in_type k e (term_type e) ≡ e
in_own k e = cond-true (same_type (term_type e) (term_type e)) e (implicit k e (term_type e)) (same_type_self (term_type e))

-- the number of an operand in an integer type
pub exact_in : (u : UnitView) (k : Known) → IsGround u k → (e : TermTree) (kind : IntType) (n : ℤ) → IsKindOf u.model kind → IsExactly u e n → exact u.model (integer_as k e kind) ≡ Some (wrap_into kind n)
exact_in u k ground e kind n h x = in_type_by k e (Int kind) (λ l. exact u.model l ≡ Some (wrap_into kind n)) own other
  where
    own : term_type e ≡ Int kind → exact u.model e ≡ Some (wrap_into kind n)
    own same =
        let is : x.integer ≡ kind = ap integer_type (sym x.typed ∙ same) in
        x.number ∙ ap Some (sym (wrapped_own kind n (kind_size u.model ground.proper kind h) (subst (λ a. in_type a n ≡ true) is x.fits)))

    other : exact u.model (implicit k e (Int kind)) ≡ Some (wrap_into kind n)
    other = converted_exact k e (Int kind) u.model ∙ (ap (converted_in u.model (Int kind)) x.number ∙ cond-true (is_kind u.model kind) (Some (wrap_into kind n)) None (kind_there u.model ground.proper kind h))
