-- Members (6.5.2.3).
use Rattle.std.specs.Prelude.{ℕ, cond, List, Option, Some, None, Ok, Err}
use Rattle.cc_base.specs.declared.diagnostics.Place.{Place}
use Rattle.c_layout.specs.Types.{Ty}
use Rattle.c_layout.specs.CheckedTrees as tree
use Rattle.c_layout.specs.CheckedTrees.{LvalueTree}
use Rattle.c_types_scopes.specs.Names.{known_in}
use Rattle.c_types_scopes.specs.StructTables as structs
use Rattle.c_types_scopes.specs.StructTables.{TypesView, MemberView, is_complete, struct_of}
use Rattle.c_types_scopes.specs.States.{State}
use Rattle.c_types_scopes.specs.Refusals.{Ruled, type_fault, undeclared}
use Rattle.c_types_operands.specs.Operands.{OperandView, OperandForm, AsValue, AsLvalue, term_of, lvalue_type}
use Rattle.c_types_operands.specs.Indirections.{indirection}
use Rattle.c_types_primary.specs.Primaries.{designated}

abbrev pub if_complete : TypesView → Option ℕ → Option ℕ
if_complete t None = None
if_complete t (Some number) = cond (is_complete t number) (Some number) None

-- the number of a complete struct that a type is
abbrev pub complete_struct : TypesView → Ty → Option ℕ
complete_struct t ctype = if_complete t (struct_of ctype)

abbrev pub member_operand : Place → LvalueTree → MemberView → OperandView
member_operand at whole m = designated at m.field.ctype (tree.Member whole m.field.offset) m.enumeration

abbrev pub member_found : Place → LvalueTree → Option MemberView → Ruled OperandView
member_found at whole None = undeclared at
member_found at whole (Some m) = Ok (member_operand at whole m)

abbrev pub member_with : State → Place → LvalueTree → ℕ → ℕ → Ruled OperandView
member_with s at whole owner name = member_found at whole (structs.member s.types owner name)

abbrev pub member_known : State → Place → LvalueTree → ℕ → Option ℕ → Ruled OperandView
member_known s at whole owner None = undeclared at
member_known s at whole owner (Some name) = member_with s at whole owner name

abbrev pub member_in : State → Place → LvalueTree → ℕ → List ℕ → Ruled OperandView
member_in s at whole owner text = member_known s at whole owner (known_in s.scopes.names text)

abbrev pub selected_of : State → Place → LvalueTree → List ℕ → Option ℕ → Ruled OperandView
selected_of s at whole text None = type_fault at
selected_of s at whole text (Some owner) = member_in s at whole owner text

-- the member of an lvalue, which has to be a complete struct
abbrev pub selected : State → Place → LvalueTree → List ℕ → Ruled OperandView
selected s at whole text = selected_of s at whole text (complete_struct s.types (lvalue_type whole))

abbrev pub member_by : State → Place → OperandForm → List ℕ → Ruled OperandView
member_by s at (AsLvalue whole) text = selected s at whole text
member_by s at (AsValue e) text = type_fault at

-- `.`
abbrev pub member : State → Place → OperandView → List ℕ → Ruled OperandView
member s at whole text = member_by s at whole.form text

abbrev pub at_target : State → Place → Ruled OperandView → List ℕ → Ruled OperandView
at_target s at (Ok whole) text = member s at whole text
at_target s at (Err f) text = Err f

-- `->`: the member of what a pointer points to
abbrev pub arrow : State → Place → OperandView → List ℕ → Ruled OperandView
arrow s at pointer text = at_target s at (indirection s.known at (term_of pointer)) text
