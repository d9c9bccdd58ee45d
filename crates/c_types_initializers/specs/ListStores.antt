-- The stores of a list in braces (6.7.9p16 to p21).
use Rattle.std.specs.Prelude.{ℕ, zero, suc, Bool, true, false, cond, List, [], ◌∷◌, ◌++◌, map, Option, Some, None, is_some, Ok, Err}
use Rattle.cc_base.specs.declared.diagnostics.Place.{Place}
use Rattle.cc_base.specs.declared.refusals.Fault.{Fault}
use Rattle.cc_base.specs.declared.refusals.Refusal.TheVariants as refusal
use Rattle.c_layout.specs.Types.{Ty, same_type}
use Rattle.c_layout.specs.CheckedTrees.{TermTree, LvalueTree, StoreTree, StoreValue, StoreCopy, StoreText, store_tree}
use Rattle.c_types_scopes.specs.Known.{Known}
use Rattle.c_types_scopes.specs.Refusals.{Ruled}
use Rattle.c_types_operands.specs.Operands.{OperandView, OperandForm, AsValue, AsLvalue, lvalue_type, term_of, is_scalar, is_struct}
use Rattle.c_types_operands.specs.Conversions.{assigned}
use Rattle.c_types_operators.specs.Assignments.{struct_source}
use Rattle.c_types_initializers.specs.Subobjects.{SubobjectView, OpenView, entered, next}
use Rattle.c_types_initializers.specs.Literals.{character_room}
use Rattle.c_types_initializers.specs.declared.list_stores.Filling.{Filling}

-- the stores so far, and the first refusal of an initializer whose parts have types
pub record FillingView : Type 0 where
  pub stores : List StoreTree
  pub fault : Option Fault

abbrev pub filling_view : Filling → FillingView
filling_view f = record { stores = map store_tree f.stores.items; fault = f.fault }

abbrev pub nothing : FillingView
nothing = record { stores = []; fault = None }

abbrev pub first_fault : Option Fault → Fault → Option Fault
first_fault None f = Some f
first_fault (Some had) f = Some had

abbrev pub with_fault : FillingView → Fault → FillingView
with_fault v f = record v { fault = first_fault v.fault f }

abbrev pub with_type_fault : FillingView → Place → FillingView
with_type_fault v at = with_fault v (record { place = at; refusal = refusal.TypeFault })

abbrev pub with_store : FillingView → StoreTree → FillingView
with_store v s = record v { stores = v.stores ++ s ∷ [] }

abbrev pub scalar_of : FillingView → ℕ → Ruled TermTree → FillingView
scalar_of v offset (Ok e) = with_store v (StoreValue offset e)
scalar_of v offset (Err f) = with_fault v f

-- a scalar by a value
abbrev pub with_scalar : Known → Place → SubobjectView → OperandView → FillingView → FillingView
with_scalar k at s o v = scalar_of v s.offset (assigned k at (term_of o) s.ctype)

abbrev pub copy_of : FillingView → Place → ℕ → Option LvalueTree → FillingView
copy_of v at offset None = with_type_fault v at
copy_of v at offset (Some l) = with_store v (StoreCopy offset l)

-- a struct by another one
abbrev pub with_struct : Place → SubobjectView → OperandView → FillingView → FillingView
with_struct at s o v = copy_of v at s.offset (struct_source o s.ctype)

-- a subobject by a value
abbrev pub with_value : Known → Place → SubobjectView → OperandView → FillingView → FillingView
with_value k at s o v = cond (is_scalar s.ctype) (with_scalar k at s o v) (with_struct at s o v)

-- the subobject that was sought, if there is one
abbrev pub with_found : Known → Place → OperandView → FillingView → Option SubobjectView → FillingView
with_found k at o v None = with_type_fault v at
with_found k at o v (Some s) = with_value k at s o v

-- a literal in an array of characters
abbrev pub with_text : FillingView → ℕ → ℕ → List ℕ → FillingView
with_text v offset room bytes = with_store v (StoreText offset room bytes)

abbrev pub is_form_of : OperandForm → Ty → Bool
is_form_of (AsLvalue l) t = same_type (lvalue_type l) t
is_form_of (AsValue e) t = false

-- whether an operand is an lvalue of a struct type
abbrev pub is_struct_operand : OperandView → Ty → Bool
is_struct_operand o t = cond (is_struct t) (is_form_of o.form t) false

-- the types of subobjects that a value initializes as a whole
abbrev pub takes_value : OperandView → Ty → Bool
takes_value o t = cond (is_scalar t) true (is_struct_operand o t)

-- those that a literal does
abbrev pub takes_text : Ty → Bool
takes_text t = cond (is_scalar t) true (is_some (character_room t))

abbrev pub found_or : (Ty → Bool) → (List OpenView → Option SubobjectView × List OpenView) → Option SubobjectView → List OpenView → Option SubobjectView × List OpenView
found_or wanted inside None left = (None, left)
found_or wanted inside (Some s) left = cond (wanted s.ctype) (Some s, left) (inside (entered s ∷ left))

-- the next subobject of a type that is wanted, and the aggregates behind it; those of other types are entered, so many
-- of them at most
unfoldable pub sought_within : ℕ → Known → (Ty → Bool) → List OpenView → Option SubobjectView × List OpenView
sought_within zero k wanted had = (None, had)
sought_within (suc n) k wanted had = found_or wanted (λ l. sought_within n k wanted l) (next k had).0 (next k had).1

-- the same; that many aggregates stand in no type
abbrev pub sought : Known → (Ty → Bool) → List OpenView → Option SubobjectView × List OpenView
sought k wanted had = sought_within 4294967295 k wanted had

abbrev pub stored_at : Known → Place → OperandView → FillingView → Option SubobjectView × List OpenView → List OpenView × FillingView
stored_at k at o v found = (found.1, with_found k at o v found.0)

-- a value in a list: it initializes the next subobject that it may initialize as a whole
abbrev pub stored_next : Known → Place → OperandView → List OpenView → FillingView → List OpenView × FillingView
stored_next k at o had v = stored_at k at o v (sought k (takes_value o) had)
