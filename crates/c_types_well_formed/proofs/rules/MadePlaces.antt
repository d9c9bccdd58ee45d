-- Lvalues that operands are, and steps of what they designate.
use Rattle.std.proofs.Common.{◌≡◌, Bool, true, false, ◌&&◌, cond, Some, None, refl, sym, subst}
use Rattle.std.proofs.lemmas.Bool.{and_from}
use Rattle.cc_base.specs.declared.int_types.IntType.{IntType}
use Rattle.c_layout.specs.CheckedTrees.{LvalueTree}
use Rattle.c_layout.specs.CheckedUnits.{UnitView}
use Rattle.c_layout.specs.Types.{Ty, Int, Pointer, same_type}
use Rattle.c_types_scopes.specs.Known.{Known}
use Rattle.c_types_operands.specs.Operands.{OperandForm, AsValue, AsLvalue, OperandView, lvalue_type, is_lvalue, own_form, own_lvalue}
use Rattle.c_types_operators.specs.Assignments.{source_form, struct_source}
use Rattle.source_preservation.specs.Checks.LookedTypes.{is_kind, is_address, is_such, steps_in}
use Rattle.source_preservation.proofs.checks.Truths.{no_some, some_is}
use Rattle.c_types_well_formed.specs.WellFormed.ModelTypes.{IsKindOf, IsTypeOf, IsGround}
use Rattle.c_types_well_formed.specs.WellFormed.MadeTerms.{IsMadePlace, IsMadeForm, IsMadeOperand}
use Rattle.c_types_well_formed.proofs.decided_tests.ModelKinds.{same_type_self}
use Rattle.c_types_well_formed.proofs.rules.GroundKinds.{kind_there}

module _ (u : UnitView) where
  place_made : (l m : LvalueTree) (b : Bool) → IsMadePlace u l → cond b (Some l) None ≡ Some m → IsMadePlace u m
  place_made l m true made h = subst (λ x. IsMadePlace u x) (some_is l m h) made
  place_made l m false made h = no_some m h

  form_own : (f : OperandForm) (l : LvalueTree) → IsMadeForm u f → own_form f ≡ Some l → IsMadePlace u l
  form_own (AsLvalue m) l made h = place_made m l (is_lvalue m) made h
  form_own (AsValue e) l made h = no_some l h

  pub own_made : (x : OperandView) (l : LvalueTree) → IsMadeOperand u x → own_lvalue x ≡ Some l → IsMadePlace u l
  own_made x l made h = form_own x.form l made h

  -- an lvalue of a type, whatever the operand is
  form_typed : (f : OperandForm) (t : Ty) (l : LvalueTree) → IsMadeForm u f → source_form f t ≡ Some l → IsMadePlace u l
  form_typed (AsLvalue m) t l made h = place_made m l (same_type (lvalue_type m) t) made h
  form_typed (AsValue e) t l made h = no_some l h

  pub source_made : (x : OperandView) (t : Ty) (l : LvalueTree) → IsMadeOperand u x → struct_source x t ≡ Some l → IsMadePlace u l
  source_made x t l made h = form_typed x.form t l made h

  pub place_address : (l : LvalueTree) (t : Ty) → lvalue_type l ≡ Pointer t → is_address (lvalue_type l) ≡ true
  place_address l t is = subst (λ s. is_address s ≡ true) (sym is) refl

  pub place_kind : (l : LvalueTree) (kind : IntType) → IsMadePlace u l → lvalue_type l ≡ Int kind → IsKindOf u.model kind
  place_kind l kind made is = subst (λ t. IsTypeOf u.model t) is made.typed

  -- a step in a type of its own
  pub steps_there : (k : Known) (ground : IsGround u k) (t : Ty) (old kind : IntType) → t ≡ Int old → IsKindOf u.model old → IsKindOf u.model kind → steps_in u kind t t ≡ true
  steps_there k ground t old kind is known other =
      and_from (is_such (λ a. is_kind u.model a) t) (is_kind u.model kind && same_type t t) (subst (λ s. is_such (λ a. is_kind u.model a) s ≡ true) (sym is) (kind_there u k ground old known))
      (and_from (is_kind u.model kind) (same_type t t) (kind_there u k ground kind other) (same_type_self t))
