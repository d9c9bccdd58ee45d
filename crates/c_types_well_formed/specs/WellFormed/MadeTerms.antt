-- What is known of terms that typing makes: they are marked, and what they record of constants is true.
use Rattle.std.specs.Prelude.{◌≡◌, ℕ, ℤ, Bool, true, false, not, Option, Some, None, Ok, Err}
use Rattle.cc_base.specs.IntegerTypes.{in_type}
use Rattle.cc_base.specs.declared.int_types.IntType.{IntType}
use Rattle.c_layout.specs.Types.{Ty, Int}
use Rattle.c_layout.specs.CheckedTrees as tree
use Rattle.c_layout.specs.CheckedTrees.{TermTree, FormTree, LvalueTree}
use Rattle.c_layout.specs.CheckedUnits.{UnitView}
use Rattle.c_layout.specs.declared.checked_tree.checked_terms.ConversionKind.TheVariants as kind
use Rattle.c_types_operands.specs.Operands.{OperandForm, AsValue, AsLvalue, OperandView, term_type, term_constant, lvalue_type, is_scalar, is_void}
use Rattle.c_types_scopes.specs.Refusals.{Ruled}
use Rattle.lower_templates.specs.Worklist.TermKinds.{is_zero_cast, converted, term_form}
use Rattle.source_preservation.specs.Checks.LookedTerms as look
use Rattle.source_preservation.specs.Checks.LookedTerms.{exact, is_well_typed_term, is_well_typed_place, has_tests}
use Rattle.c_types_well_formed.specs.WellFormed.ModelTypes.{IsTypeOf}

-- the number that a term is, which its type has
pub record IsExactly (u : UnitView) (e : TermTree) (n : ℤ) : Type 0 where
  pub integer : IntType
  pub typed : term_type e ≡ Int integer
  pub number : exact u.model e ≡ Some n
  pub fits : in_type integer n ≡ true

abbrev pub is_implicit_form : FormTree → Bool
is_implicit_form (tree.Convert kind.Implicit e) = true
is_implicit_form _ = false

abbrev pub is_implicit : TermTree → Bool
is_implicit (tree.Typed at t parens constant f) = is_implicit_form f

-- a term that an operand is: no implicit conversion stands round it
pub record IsMade (u : UnitView) (e : TermTree) : Type 0 where
  pub well_typed : is_well_typed_term u (not (is_void (term_type e))) e ≡ true
  pub typed : IsTypeOf u.model (term_type e)
  pub bare : is_implicit e ≡ false
  pub constant : (n : ℤ) → term_constant e ≡ Some n → IsExactly u e n
  pub null : is_zero_cast (term_type e) (converted (term_form e)) ≡ true → look.is_null u.model e ≡ true
  pub tests : is_scalar (term_type e) ≡ true → (is_test : Bool) → has_tests u is_test e ≡ true

pub record IsMadePlace (u : UnitView) (l : LvalueTree) : Type 0 where
  pub well_typed : is_well_typed_place u l ≡ true
  pub typed : IsTypeOf u.model (lvalue_type l)

abbrev pub IsMadeForm : UnitView → OperandForm → Type 0
IsMadeForm u (AsValue e) = IsMade u e
IsMadeForm u (AsLvalue l) = IsMadePlace u l

abbrev pub IsMadeOperand : UnitView → OperandView → Type 0
IsMadeOperand u o = IsMadeForm u o.form

-- what a rule makes, where it does not refuse
abbrev pub Makes : UnitView → Ruled OperandView → Type 0
Makes u (Ok o) = IsMadeOperand u o
Makes u (Err f) = Unit {0}

-- a term of a type, which a conversion may have given it
pub record IsGiven (u : UnitView) (e : TermTree) (to : Ty) : Type 0 where
  pub well_typed : is_well_typed_term u true e ≡ true
  pub same : term_type e ≡ to

abbrev pub Gives : UnitView → Ty → Ruled TermTree → Type 0
Gives u to (Ok e) = IsGiven u e to
Gives u to (Err f) = Unit {0}
