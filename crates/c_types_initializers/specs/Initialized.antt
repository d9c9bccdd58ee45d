-- What an initializer does to its object (6.7.9).
use Rattle.std.specs.Prelude.{ℕ, cond, List, [], ◌∷◌, map, Option, Some, None, Ok, Err}
use Rattle.cc_base.specs.declared.diagnostics.Place.{Place}
use Rattle.cc_base.specs.declared.refusals.Fault.{Fault}
use Rattle.c_layout.specs.Types.{Ty}
use Rattle.c_layout.specs.CheckedTrees.{TermTree, LvalueTree, StoreTree, StoreText, term_tree, lvalue_tree, store_tree}
use Rattle.c_types_scopes.specs.Known.{Known}
use Rattle.c_types_scopes.specs.Refusals.{Ruled, type_fault}
use Rattle.c_types_operands.specs.Operands.{OperandView, term_of, is_scalar, is_struct}
use Rattle.c_types_operands.specs.Conversions.{assigned}
use Rattle.c_types_operators.specs.Assignments.{struct_source}
use Rattle.c_types_initializers.specs.Literals.{length_or, with_length, literal_length}
use Rattle.c_types_initializers.specs.ListStores.{FillingView}
use Rattle.c_types_initializers.specs.declared.object_initializers.Initialized.{Initialized}
use Rattle.c_types_initializers.specs.declared.object_initializers.Initialized.TheVariants as initialized

-- a scalar by an expression, a struct by another one, or the stores over an object that is all zero
pub data InitializedView : Type 0 where
  ByTerm : (value : TermTree) → InitializedView
  ByLvalue : (source : LvalueTree) → InitializedView
  ByStores : (stores : List StoreTree) → InitializedView

abbrev pub initialized_view : Initialized → InitializedView
initialized_view (initialized.Scalar e) = ByTerm (term_tree e.value)
initialized_view (initialized.Struct l) = ByLvalue (lvalue_tree l.value)
initialized_view (initialized.List stores) = ByStores (map store_tree stores.items)

abbrev pub by_literal : ℕ → List ℕ → InitializedView
by_literal room bytes = ByStores (StoreText 0 (length_or room (literal_length bytes)) bytes ∷ [])

-- an array of characters by a literal, and its type with its length
abbrev pub spelled : Ty → ℕ → List ℕ → InitializedView × Ty
spelled t room bytes = (by_literal room bytes, with_length t (literal_length bytes))

abbrev pub filled_by : FillingView → Ty → ℕ → Option Fault → Ruled (InitializedView × Ty)
filled_by v t passed (Some f) = Err f
filled_by v t passed None = Ok (ByStores v.stores, with_length t passed)

-- an object by a list that was read, and its type with its length, or the first refusal
abbrev pub filled : FillingView → Ty → ℕ → Ruled (InitializedView × Ty)
filled v t passed = filled_by v t passed v.fault

abbrev pub scalar_by : Ruled TermTree → Ruled InitializedView
scalar_by (Ok e) = Ok (ByTerm e)
scalar_by (Err f) = Err f

abbrev pub struct_by : Place → Option LvalueTree → Ruled InitializedView
struct_by at None = type_fault at
struct_by at (Some l) = Ok (ByLvalue l)

-- an object by a value
abbrev pub by_operand : Known → Place → Ty → OperandView → Ruled InitializedView
by_operand k at t o = cond (is_scalar t) (scalar_by (assigned k at (term_of o) t)) (cond (is_struct t) (struct_by at (struct_source o t)) (type_fault at))
