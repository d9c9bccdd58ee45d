-- What looks at a term see does not depend on its parentheses, its place and what it records.
use Rattle.std.proofs.Common.{◌≡◌, ℕ, ℤ, Bool, true, false, Option, refl}
use Rattle.cc_base.specs.declared.diagnostics.Place.{Place}
use Rattle.c_layout.specs.Types.{Ty}
use Rattle.c_layout.specs.CheckedTrees as tree
use Rattle.c_layout.specs.CheckedTrees.{TermTree, FormTree, Typed, LvalueFormTree, Designates}
use Rattle.c_layout.specs.CheckedUnits.{UnitView}
use Rattle.c_layout.specs.declared.data_model.Model.{Model}
use Rattle.c_layout.specs.declared.checked_tree.checked_terms.ConversionKind.TheVariants.{Implicit, Cast}
use Rattle.c_layout.specs.declared.syntax_tree.expressions.LogicalOp.TheVariants.{And, Or}
use Rattle.c_types_scopes.specs.Known.{Known}
use Rattle.c_types_operands.specs.Operands.{term_type, term_constant}
use Rattle.c_types_operands.specs.Conversions.{noted}
use Rattle.source_preservation.specs.Checks.LookedTerms.{exact, is_null, is_well_typed_term, is_well_typed_place, has_tests}

-- ---- another pair of parentheses

module _ (at place : Place) (t : Ty) (p q : ℕ) (c d : Option ℤ) where
  pub rewrapped_exact : (m : Model) (f : FormTree) → exact m (Typed at t p c f) ≡ exact m (Typed place t q d f)
  rewrapped_exact m (tree.Number k) = refl
  rewrapped_exact m f = refl

  pub rewrapped_null : (m : Model) (f : FormTree) → is_null m (Typed at t p c f) ≡ is_null m (Typed place t q d f)
  rewrapped_null m (tree.Convert sort a) = refl
  rewrapped_null m f = refl

  pub rewrapped_well_typed : (u : UnitView) (used : Bool) (f : FormTree) → is_well_typed_term u used (Typed at t p c f) ≡ is_well_typed_term u used (Typed place t q d f)
  rewrapped_well_typed u used (tree.Number n) = refl
  rewrapped_well_typed u used f = refl

  pub rewrapped_tests : (u : UnitView) (is_test : Bool) (f : FormTree) → has_tests u is_test (Typed at t p c f) ≡ has_tests u is_test (Typed place t q d f)
  rewrapped_tests u is_test (tree.Logical And a b) = refl
  rewrapped_tests u is_test (tree.Logical Or a b) = refl
  rewrapped_tests u is_test (tree.Not a) = refl
  rewrapped_tests u is_test (tree.Conditional condition a b) = refl
  rewrapped_tests u true (tree.Convert Implicit a) = refl
  rewrapped_tests u true (tree.Convert Cast a) = refl
  rewrapped_tests u true (tree.Load l) = refl
  rewrapped_tests u true f = refl
  rewrapped_tests u false f = refl

pub rewrapped_place : (u : UnitView) (at place : Place) (t s : Ty) (p q : ℕ) (f : LvalueFormTree) → is_well_typed_place u (Designates at t p f) ≡ is_well_typed_place u (Designates place s q f)
rewrapped_place u at place t s p q (tree.Object o) = refl
rewrapped_place u at place t s p q f = refl

-- ---- an allocation that notes a type

module _ (k : Known) (to : Ty) where
  pub noted_type : (e : TermTree) → term_type (noted k to e) ≡ term_type e
  noted_type (Typed at t p c (tree.Library g args noted)) = refl
  noted_type (Typed at t p c f) = refl

  pub noted_constant : (e : TermTree) → term_constant (noted k to e) ≡ term_constant e
  noted_constant (Typed at t p c (tree.Library g args noted)) = refl
  noted_constant (Typed at t p c f) = refl

  pub noted_exact : (m : Model) (e : TermTree) → exact m (noted k to e) ≡ exact m e
  noted_exact m (Typed at t p c (tree.Library g args noted)) = refl
  noted_exact m (Typed at t p c f) = refl

  pub noted_null : (m : Model) (e : TermTree) → is_null m (noted k to e) ≡ is_null m e
  noted_null m (Typed at t p c (tree.Library g args noted)) = refl
  noted_null m (Typed at t p c f) = refl

  pub noted_well_typed : (u : UnitView) (used : Bool) (e : TermTree) → is_well_typed_term u used (noted k to e) ≡ is_well_typed_term u used e
  noted_well_typed u used (Typed at t p c (tree.Library g args noted)) = refl
  noted_well_typed u used (Typed at t p c f) = refl
