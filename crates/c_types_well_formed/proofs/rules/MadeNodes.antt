-- What terms that are no conversions owe to be made, and rules that refuse.
use Rattle.std.proofs.Common.{◌≡◌, ℕ, ℤ, Bool, true, false, not, cond, Option, Some, None, refl, subst}
use Rattle.cc_base.specs.declared.diagnostics.Place.{Place}
use Rattle.c_layout.specs.CheckedTrees.{FormTree, Typed}
use Rattle.c_layout.specs.CheckedUnits.{UnitView}
use Rattle.c_layout.specs.Types.{Ty}
use Rattle.c_types_scopes.specs.Refusals.{Ruled}
use Rattle.c_types_operands.specs.Operands.{OperandView, is_scalar, is_void}
use Rattle.lower_templates.specs.Worklist.TermKinds.{converted, is_zero_cast}
use Rattle.source_preservation.specs.Checks.LookedTerms as look
use Rattle.source_preservation.specs.Checks.LookedTerms.{is_well_typed_term, has_tests}
use Rattle.source_preservation.proofs.checks.Truths.{never, no_some}
use Rattle.c_types_well_formed.specs.WellFormed.ModelTypes.{IsTypeOf}
use Rattle.c_types_well_formed.specs.WellFormed.MadeTerms.{IsExactly, is_implicit_form, IsMade, Makes}

module _ (u : UnitView) where
  -- a term that is no conversion
  pub term_made : (at : Place) (t : Ty) (parens : ℕ) (constant : Option ℤ) (f : FormTree)
      → is_implicit_form f ≡ false
      → converted f ≡ None
      → is_well_typed_term u (not (is_void t)) (Typed at t parens constant f) ≡ true
      → IsTypeOf u.model t
      → ((n : ℤ) → constant ≡ Some n → IsExactly u (Typed at t parens constant f) n)
      → (is_scalar t ≡ true → (is_test : Bool) → has_tests u is_test (Typed at t parens constant f) ≡ true)
      → IsMade u (Typed at t parens constant f)
  term_made at t parens constant f bare none well_typed typed numbers tests = record {
    well_typed = well_typed;
    typed = typed;
    bare = bare;
    constant = numbers;
    null = λ h. never (subst (λ o. is_zero_cast t o ≡ true) none h);
    tests = tests;
  }

  -- one that is no constant either
  pub node_made : (at : Place) (t : Ty) (parens : ℕ) (f : FormTree)
      → is_implicit_form f ≡ false
      → converted f ≡ None
      → is_well_typed_term u (not (is_void t)) (Typed at t parens None f) ≡ true
      → IsTypeOf u.model t
      → (is_scalar t ≡ true → (is_test : Bool) → has_tests u is_test (Typed at t parens None f) ≡ true)
      → IsMade u (Typed at t parens None f)
  node_made at t parens f bare none well_typed typed tests = term_made at t parens None f bare none well_typed typed (λ n h. no_some n h) tests

  pub makes_if : (b : Bool) (r s : Ruled OperandView) → (b ≡ true → Makes u r) → (b ≡ false → Makes u s) → Makes u (cond b r s)
  makes_if true r s f g = f refl
  makes_if false r s f g = g refl
