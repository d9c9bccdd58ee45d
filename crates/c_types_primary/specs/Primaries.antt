-- Names, constants and literals (6.4.4, 6.4.5, 6.5.1).
use Rattle.std.specs.Prelude.{ℕ, ℤ, pos, neg_ℤ, ◌+◌, Bool, true, ◌&&◌, cond, is_none, List, length, get_or, slice_get, unwrap_or, Option, Some, None, Ok}
use Rattle.cc_base.specs.declared.diagnostics.Place.{Place}
use Rattle.cc_base.specs.declared.int_types.IntType.{IntType}
use Rattle.c_layout.specs.Types.{Ty, Int, Array}
use Rattle.c_layout.specs.CheckedTrees as tree
use Rattle.c_layout.specs.CheckedTrees.{LvalueFormTree}
use Rattle.c_layout.specs.CheckedUnits.{LocalView}
use Rattle.c_layout.specs.declared.checked_tree.checked_terms.ObjectRef.TheVariants as object
use Rattle.c_layout.specs.declared.library_functions.LibFn.{LibFn}
use Rattle.c_layout.specs.declared.syntax_tree.expressions.Constant.{Constant}
use Rattle.c_library.specs.Headers.Library.{function_named}
use Rattle.c_types_rules.specs.Rules.IntegerKinds.{kind_of}
use Rattle.c_types_rules.specs.declared.rules.integer_kinds.Rank.TheVariants as rank
use Rattle.c_types_scopes.specs.Known.{Known, size_of}
use Rattle.c_types_scopes.specs.Names.{known_in, found}
use Rattle.c_types_scopes.specs.DeclaredTypes.{ObjectView}
use Rattle.c_types_scopes.specs.States.{State, is_evaluated, literal_number, with_literal}
use Rattle.c_types_scopes.specs.Refusals.{Ruled, type_fault, undeclared}
use Rattle.c_types_scopes.specs.declared.meanings.Meaning.{Meaning}
use Rattle.c_types_scopes.specs.declared.meanings.Meaning.TheVariants as meaning
use Rattle.c_types_operands.specs.Operands.{OperandView, node, number, lvalue}
use Rattle.c_types_operands.specs.Arithmetic.{int_kind}

-- the number of what the unit does not define, where it is not evaluated
abbrev pub no_number : ℕ
no_number = 4294967295

-- what the unit does not define may not be evaluated
abbrev pub is_missing : State → Option ℕ → Bool
is_missing s number = is_none number && is_evaluated s

-- the library function of a name
abbrev pub library_named : List ℕ → Option LibFn
library_named text = function_named text

abbrev pub meaning_by : State → Option ℕ → Option Meaning
meaning_by s None = None
meaning_by s (Some n) = found s.scopes n

-- what a name in an expression means
abbrev pub meaning_of : State → List ℕ → Option Meaning
meaning_of s text = meaning_by s (known_in s.scopes.names text)

-- an lvalue without parentheses
abbrev pub designated : Place → Ty → LvalueFormTree → Option ℕ → OperandView
designated at t f enumeration = lvalue (tree.Designates at t 0 f) enumeration

abbrev pub defined_object : Place → ObjectView → OperandView
defined_object at o = designated at o.declared.ctype (tree.Object (object.Static (unwrap_or o.number no_number))) o.declared.enumeration

abbrev pub declared_object : State → Place → ObjectView → Ruled OperandView
declared_object s at o = cond (is_missing s o.number) (undeclared at) (Ok (defined_object at o))

abbrev pub static_by : State → Place → Option ObjectView → Ruled OperandView
static_by s at None = undeclared at
static_by s at (Some o) = declared_object s at o

-- an object of static storage
abbrev pub static_object : State → Place → ℕ → Ruled OperandView
static_object s at declared = static_by s at (slice_get s.objects declared)

abbrev pub numbered_local : State → Place → ℕ → LocalView → OperandView
numbered_local s at number o = designated at o.ctype (tree.Object (object.Local number)) (get_or s.body.enumerations number None)

abbrev pub local_by : State → Place → ℕ → Option LocalView → Ruled OperandView
local_by s at number None = undeclared at
local_by s at number (Some o) = Ok (numbered_local s at number o)

-- an object of the function at hand
abbrev pub local_object : State → Place → ℕ → Ruled OperandView
local_object s at number = local_by s at number (slice_get s.body.locals number)

-- a number of a type, which is a constant expression
abbrev pub fixed_number : Place → Ty → ℤ → OperandView
fixed_number at t n = number (node at t (tree.Number n)) (Some n) true

-- an enumeration constant
abbrev pub enumerator : Known → Place → ℤ → OperandView
enumerator k at n = fixed_number at (Int (int_kind k)) n

abbrev pub not_declared : Place → Option LibFn → Ruled OperandView
not_declared at (Some f) = type_fault at
not_declared at None = undeclared at

-- a name that is not declared: that of a library function has no value, another one no meaning
abbrev pub undeclared_name : Place → List ℕ → Ruled OperandView
undeclared_name at text = not_declared at (library_named text)

abbrev pub named : State → Place → List ℕ → Option Meaning → Ruled OperandView
named s at text (Some (meaning.Static declared)) = static_object s at declared
named s at text (Some (meaning.Local number)) = local_object s at number
named s at text (Some (meaning.Enumerator n)) = Ok (enumerator s.known at n)
named s at text (Some (meaning.Function declared)) = type_fault at
named s at text (Some (meaning.Typedef declared)) = type_fault at
named s at text None = undeclared_name at text

-- a name that is not called: a function has no value of its own here
abbrev pub name : State → Place → List ℕ → Ruled OperandView
name s at text = named s at text (meaning_of s text)

-- the value of an integer constant or of a character constant
abbrev pub constant_value : Constant → ℤ
constant_value c = cond c.negative (neg_ℤ (pos c.value)) (pos c.value)

-- a constant
abbrev pub constant : Place → Constant → OperandView
constant at c = fixed_number at (Int c.kind) (constant_value c)

-- the type char
abbrev pub char_kind : Known → IntType
char_kind k = kind_of k.numbers rank.Char k.numbers.char_signed

-- the type of a literal: an array of its characters and a closing zero
abbrev pub literal_type : Known → List ℕ → Ty
literal_type k bytes = Array (Int (char_kind k)) (length bytes + 1)

abbrev pub literal_operand : State → Place → List ℕ → OperandView
literal_operand s at bytes = designated at (literal_type s.known bytes) (tree.Literal (literal_number s)) None

abbrev pub literal_of_size : State → Place → List ℕ → Option ℕ → Ruled (OperandView × State)
literal_of_size s at bytes None = type_fault at
literal_of_size s at bytes (Some size) = Ok (literal_operand s at bytes, with_literal s at bytes)

-- a literal that is an array of its own, and what is known behind it; adjacent literals are joined, so that the array may
-- have more bytes than a type may
abbrev pub literal : State → Place → List ℕ → Ruled (OperandView × State)
literal s at bytes = literal_of_size s at bytes (size_of s.known (literal_type s.known bytes))
