-- Values of operands, and operands in parentheses.
use Rattle.std.proofs.Common.{◌≡◌, ℕ, ◌==◌, ℤ, Bool, true, false, not, ◌&&◌, cond, Option, None, refl, sym, subst, ◌∙◌}
use Rattle.std.proofs.lemmas.Bool.{and_from}
use Rattle.cc_base.specs.declared.diagnostics.Place.{Place}
use Rattle.c_layout.specs.CheckedTrees as tree
use Rattle.c_layout.specs.CheckedTrees.{FormTree, Typed, LvalueTree, LvalueFormTree, Designates}
use Rattle.c_layout.specs.CheckedUnits.{UnitView}
use Rattle.c_layout.specs.Types.{Ty, Int, Pointer, Array, Struct, Void}
use Rattle.c_types_scopes.specs.Known.{Known}
use Rattle.c_types_operands.specs.Operands.{OperandForm, AsValue, AsLvalue, OperandView, is_void, one_more, wrapped, parenthesized, Begins, Decays, value_by, lvalue_type, lvalue_value, form_value, term_of}
use Rattle.source_preservation.specs.Checks.LookedTypes.{is_scalar_type, same_mark}
use Rattle.source_preservation.specs.Checks.LookedTerms.{is_well_typed_term, is_well_typed_place}
use Rattle.source_preservation.proofs.checks.Truths.{never}
use Rattle.c_types_well_formed.specs.WellFormed.ModelTypes.{IsTypeOf, IsGround}
use Rattle.c_types_well_formed.specs.WellFormed.MadeTerms.{IsExactly, IsMade, IsMadePlace, IsMadeForm, IsMadeOperand}
use Rattle.c_types_well_formed.proofs.decided_tests.MadeTests.{no_tests, load_tests}
use Rattle.c_types_well_formed.proofs.decided_tests.ModelKinds.{scalar_there}
use Rattle.c_types_well_formed.proofs.decided_tests.Rewrapped.{rewrapped_exact, rewrapped_null, rewrapped_well_typed, rewrapped_tests, rewrapped_place}
use Rattle.c_types_well_formed.proofs.rules.ModelKinds.{mark_same}
use Rattle.c_types_well_formed.proofs.rules.MadeNodes.{node_made}

module _ (u : UnitView) (k : Known) (ground : IsGround u k) where
  -- ---- values

  loaded_well_typed : (at : Place) (t : Ty) (parens : ℕ) (l : LvalueTree) (used : Bool) → is_well_typed_place u l ≡ true → IsTypeOf u.model (lvalue_type l) → lvalue_type l ≡ t → is_well_typed_term u used (Typed at t parens None (tree.Load l)) ≡ true
  loaded_well_typed at t parens l used place typed same =
      and_from (is_well_typed_place u l) (is_scalar_type u (lvalue_type l) && same_mark (lvalue_type l) t) place
      (and_from (is_scalar_type u (lvalue_type l)) (same_mark (lvalue_type l) t) (scalar_there u (lvalue_type l) ground.proper typed) (subst (λ s. same_mark (lvalue_type l) s ≡ true) same (mark_same (lvalue_type l))))

  loaded_made : (at : Place) (t : Ty) (parens : ℕ) (f : LvalueFormTree) → IsMadePlace u (Designates at t parens f) → IsMade u (Typed at t parens None (tree.Load (Designates at t parens f)))
  loaded_made at t parens f place =
      node_made u at t parens (tree.Load (Designates at t parens f)) refl refl (loaded_well_typed at t parens (Designates at t parens f) (not (is_void t)) place.well_typed place.typed refl) place.typed
      (λ scalar is_test. load_tests u k ground at t parens None is_test (Designates at t parens f) (loaded_well_typed at t parens (Designates at t parens f) true place.well_typed place.typed refl) place.typed)

  -- a pointer to the first element of an array
  first_made : (at : Place) (t : Ty) (parens : ℕ) (l : LvalueTree) (none : Bool) → is_well_typed_place u l ≡ true → IsTypeOf u.model t → IsMade u (value_by at parens l (cond none (Begins (Pointer t)) (Decays (Pointer t))))
  first_made at t parens l true place typed = node_made u at (Pointer t) 0 (tree.AddressOf l) refl refl (and_from (is_well_typed_place u l) true place refl) typed (λ scalar is_test. no_tests u k ground at (Pointer t) 0 None is_test (tree.AddressOf l) refl)
  first_made at t parens l false place typed = node_made u at (Pointer t) 0 (tree.Decay l) refl refl (and_from (is_well_typed_place u l) true place refl) typed (λ scalar is_test. no_tests u k ground at (Pointer t) 0 None is_test (tree.Decay l) refl)

  pub lvalue_made : (l : LvalueTree) → IsMadePlace u l → IsMade u (lvalue_value l)
  lvalue_made (Designates at (Int kind) parens f) place = loaded_made at (Int kind) parens f place
  lvalue_made (Designates at (Pointer t) parens f) place = loaded_made at (Pointer t) parens f place
  lvalue_made (Designates at (Array t count) parens f) place = first_made at t parens (Designates at (Array t count) parens f) (count == 0) place.well_typed place.typed
  lvalue_made (Designates at (Struct i) parens f) place = node_made u at (Struct i) 0 (tree.Struct (Designates at (Struct i) parens f)) refl refl (and_from (is_well_typed_place u (Designates at (Struct i) parens f)) true place.well_typed refl) tt (λ scalar is_test. never scalar)
  lvalue_made (Designates at Void parens f) place = loaded_made at Void parens f place

  form_made : (f : OperandForm) (fixed : Bool) → IsMadeForm u f → IsMade u (form_value f fixed).term
  form_made (AsValue e) fixed made = made
  form_made (AsLvalue l) fixed made = lvalue_made l made

  pub value_made : (x : OperandView) → IsMadeOperand u x → IsMade u (term_of x)
  value_made x made = form_made x.form x.fixed made

  -- ---- parentheses

  term_wrapped : (at : Place) (t : Ty) (p q : ℕ) (constant : Option ℤ) (f : FormTree) → IsMade u (Typed at t p constant f) → IsMade u (Typed at t q constant f)
  term_wrapped at t p q c f made = record {
    well_typed = sym (rewrapped_well_typed at at t p q c c u (not (is_void t)) f) ∙ made.well_typed;
    typed = made.typed;
    bare = made.bare;
    constant = λ n is. let x : IsExactly u (Typed at t p c f) n = made.constant n is in record { integer = x.integer; typed = x.typed; number = sym (rewrapped_exact at at t p q c c u.model f) ∙ x.number; fits = x.fits };
    null = λ h. sym (rewrapped_null at at t p q c c u.model f) ∙ made.null h;
    tests = λ scalar is_test. sym (rewrapped_tests at at t p q c c u is_test f) ∙ made.tests scalar is_test;
  }

  wrapped_made : (f : OperandForm) → IsMadeForm u f → IsMadeForm u (wrapped f)
  wrapped_made (AsValue (Typed at t parens constant f)) made = term_wrapped at t parens (one_more parens) constant f made
  wrapped_made (AsLvalue (Designates at t parens f)) made = record { well_typed = sym (rewrapped_place u at at t t parens (one_more parens) f) ∙ made.well_typed; typed = made.typed }

  pub parenthesized_made : (x : OperandView) → IsMadeOperand u x → IsMadeOperand u (parenthesized x)
  parenthesized_made x made = wrapped_made x.form made
