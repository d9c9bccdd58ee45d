-- Calls (6.5.2.2).
use Rattle.std.specs.Prelude.{ℕ, ◌==◌, Bool, false, not, cond, List, [], ◌∷◌, length, map, slice_get, unwrap_or, Vec, Option, Some, None, Ok, Err}
use Rattle.std.specs.Global.{Global}
use Rattle.cc_base.specs.declared.diagnostics.Place.{Place}
use Rattle.cc_base.specs.declared.int_types.IntType.{IntType}
use Rattle.c_layout.specs.Types.{Ty, Int, Pointer, same_type}
use Rattle.c_layout.specs.CheckedTrees as tree
use Rattle.c_layout.specs.LibrarySignatures.{signature_of}
use Rattle.c_layout.specs.CheckedTrees.{TermTree, term_tree, term_trees}
use Rattle.c_layout.specs.SyntaxTrees as syntax_tree
use Rattle.c_layout.specs.SyntaxTrees.{Tree}
use Rattle.c_layout.specs.declared.checked_tree.checked_terms.CheckedTerm.{CheckedTerm}
use Rattle.c_layout.specs.declared.library_functions.LibFn.{LibFn}
use Rattle.c_layout.specs.declared.library_functions.LibFn.TheVariants as lib
use Rattle.c_types_rules.specs.Rules.IntegerKinds.{number_of, size_rank}
use Rattle.c_types_rules.specs.declared.rules.integer_kinds.Rank.TheVariants as rank
use Rattle.c_types_scopes.specs.Known.{Known}
use Rattle.c_types_scopes.specs.DeclaredTypes.{DeclaredView, SignatureView}
use Rattle.c_types_scopes.specs.LibraryTypes.{library_result, library_parameters}
use Rattle.c_types_scopes.specs.States.{State, with_call}
use Rattle.c_types_scopes.specs.Refusals.{Ruled, type_fault, undeclared, format_fault}
use Rattle.c_types_scopes.specs.declared.meanings.Meaning.{Meaning}
use Rattle.c_types_scopes.specs.declared.meanings.Meaning.TheVariants as meaning
use Rattle.c_types_operands.specs.Operands.{OperandView, node, plain, term_of, term_type, is_void}
use Rattle.c_types_operands.specs.Conversions.{integer_as, assigned}
use Rattle.c_types_operands.specs.Arithmetic.{int_kind}
use Rattle.c_types_operators.specs.UnaryOperators.{promoted_kind}
use Rattle.c_types_primary.specs.Lists.{if_first}
use Rattle.c_types_primary.specs.Primaries.{no_number, is_missing, char_kind, library_named, meaning_of}
use Rattle.c_library.specs.Formats.PrintfFormats.{wanted_by}
use Rattle.c_library.specs.declared.formats.printf_formats.Length.{Length}
use Rattle.c_library.specs.declared.formats.printf_formats.Length.TheVariants as size
use Rattle.c_library.specs.declared.formats.printf_formats.Wanted.{Wanted}
use Rattle.c_library.specs.declared.formats.printf_formats.Wanted.TheVariants as want
use Rattle.c_types_primary.specs.declared.calls.Callee.{Callee}
use Rattle.c_types_primary.specs.declared.calls.Callee.TheVariants as callee

abbrev pub not_declared : Option LibFn → Callee
not_declared (Some f) = callee.Library f
not_declared None = callee.Unknown

abbrev pub callee_by : List ℕ → Option Meaning → Callee
callee_by text (Some (meaning.Function declared)) = callee.Own declared
callee_by text (Some (meaning.Static declared)) = callee.Other
callee_by text (Some (meaning.Local number)) = callee.Other
callee_by text (Some (meaning.Typedef declared)) = callee.Other
callee_by text (Some (meaning.Enumerator n)) = callee.Other
callee_by text None = not_declared (library_named text)

-- what the name of a call means
abbrev pub callee_named : State → List ℕ → Callee
callee_named s text = callee_by text (meaning_of s text)

-- the number of a function that the unit defines
abbrev pub defined_number : Option SignatureView → Option ℕ
defined_number None = None
defined_number (Some f) = f.number

abbrev pub number_of_function : List SignatureView → ℕ → Option ℕ
number_of_function functions declared = defined_number (slice_get functions declared)

abbrev pub noted_call : State → Place → Option ℕ → State
noted_call s at None = s
noted_call s at (Some number) = with_call s number at

-- the call of a function that the unit defines is noted
abbrev pub noted : State → Place → Callee → State
noted s at (callee.Own declared) = noted_call s at (number_of_function s.functions declared)
noted s at (callee.Library f) = s
noted s at callee.Other = s
noted s at callee.Unknown = s

abbrev pub done : Unit {0} → Unit {0}
done u = tt

abbrev pub note_callee : State → Place → Callee → Ruled (Unit {0} × State)
note_callee s at c = Ok (tt, noted s at c)

-- ---- arguments of functions with a prototype

abbrev pub terms_view : Vec CheckedTerm Global → List TermTree
terms_view v = map term_tree v.items

-- an argument, converted to the type of its parameter
abbrev pub converted_argument : Known → Place → OperandView → Ty → Ruled TermTree
converted_argument k at a t = assigned k at (term_of a) t

unfoldable pub each_converted : Known → Place → List OperandView → List Ty → Ruled (List TermTree)
each_converted k at [] ts = Ok []
each_converted k at (a ∷ more) [] = type_fault at
each_converted k at (a ∷ more) (t ∷ ts) = if_first (converted_argument k at a t) (each_converted k at more ts)

-- the arguments, converted to the types of the parameters, of which there are as many
abbrev pub converted_arguments : Known → Place → List OperandView → List Ty → Ruled (List TermTree)
converted_arguments k at arguments ts = cond (length arguments == length ts) (each_converted k at arguments ts) (type_fault at)

-- ---- functions of the unit

-- the value of a call; one whose result is void has none
abbrev pub called : Place → SignatureView → List TermTree → OperandView
called at f arguments = record (plain (node at f.result.ctype (tree.Call (unwrap_or f.number no_number) (term_trees arguments) (not (is_void f.result.ctype))))) { enumeration = f.result.enumeration }

abbrev pub called_with : Place → SignatureView → Ruled (List TermTree) → Ruled OperandView
called_with at f (Err e) = Err e
called_with at f (Ok arguments) = Ok (called at f arguments)

abbrev pub own_with : Known → Place → SignatureView → List OperandView → Ruled OperandView
own_with k at f arguments = called_with at f (converted_arguments k at arguments f.parameters)

abbrev pub own_declared : State → Place → SignatureView → List OperandView → Ruled OperandView
own_declared s at f arguments = cond (is_missing s f.number) (undeclared at) (own_with s.known at f arguments)

abbrev pub own_by : State → Place → List OperandView → Option SignatureView → Ruled OperandView
own_by s at arguments None = undeclared at
own_by s at arguments (Some f) = own_declared s at f arguments

-- a call of a function of the unit
abbrev pub own_call : State → Place → ℕ → List OperandView → Ruled OperandView
own_call s at declared arguments = own_by s at arguments (slice_get s.functions declared)

-- ---- `printf`

-- whether a type is plain char
abbrev pub is_char : Known → Ty → Bool
is_char k t = same_type t (Int (char_kind k))

-- whether a type is a pointer to plain char
abbrev pub is_text : Known → Ty → Bool
is_text k (Pointer target) = is_char k target
is_text k _ = false

-- the rank that a length wants
abbrev pub wanted_rank : Known → Length → ℕ
wanted_rank k size.Plain = number_of rank.Int
wanted_rank k size.Long = number_of rank.Long
wanted_rank k size.LongLong = number_of rank.LongLong
wanted_rank k size.Size = number_of (size_rank k.numbers)

abbrev pub has_rank : ℕ → Ty → Bool
has_rank r (Int kind) = kind.rank == r
has_rank r _ = false

-- whether a promoted argument of a type is what a conversion wants
abbrev pub is_wanted : Known → Wanted → Ty → Bool
is_wanted k want.Text t = is_text k t
is_wanted k want.Character t = same_type t (Int (int_kind k))
is_wanted k (want.Number size) t = has_rank (wanted_rank k size) t

abbrev pub promoted_by : Known → TermTree → Option IntType → TermTree
promoted_by k e None = e
promoted_by k e (Some kind) = integer_as k e kind

-- an argument after the default promotions
abbrev pub promoted_argument : Known → TermTree → TermTree
promoted_argument k e = promoted_by k e (promoted_kind k (term_type e))

abbrev pub if_wanted : Known → Place → Wanted → TermTree → Ruled TermTree
if_wanted k at w e = cond (is_wanted k w (term_type e)) (Ok e) (format_fault at)

-- an argument for a conversion
abbrev pub formatted : Known → Place → Wanted → OperandView → Ruled TermTree
formatted k at w a = if_wanted k at w (promoted_argument k (term_of a))

unfoldable pub each_formatted : Known → Place → List Wanted → List OperandView → Ruled (List TermTree)
each_formatted k at ws [] = Ok []
each_formatted k at [] (a ∷ more) = format_fault at
each_formatted k at (w ∷ ws) (a ∷ more) = if_first (formatted k at w a) (each_formatted k at ws more)

-- the arguments behind a format, one for each conversion
abbrev pub formatted_arguments : Known → Place → List Wanted → List OperandView → Ruled (List TermTree)
formatted_arguments k at ws arguments = cond (length arguments == length ws) (each_formatted k at ws arguments) (format_fault at)

-- the bytes of a literal, parentheses removed
abbrev pub literal_bytes : Tree → Option (List ℕ)
literal_bytes (syntax_tree.Literal at bytes) = Some bytes
literal_bytes (syntax_tree.Paren at e) = literal_bytes e
literal_bytes _ = None

-- the call of a library function, whose value is of a type
abbrev pub library_called : Place → Ty → LibFn → List TermTree → OperandView
library_called at t f arguments = plain (node at t (tree.Library f (term_trees arguments) None))

abbrev pub printed : Known → Place → TermTree → Ruled (List TermTree) → Ruled OperandView
printed k at first (Err f) = Err f
printed k at first (Ok others) = Ok (library_called at (Int (int_kind k)) lib.Printf (first ∷ others))

abbrev pub printed_with : Known → Place → List Wanted → TermTree → List OperandView → Ruled OperandView
printed_with k at ws format others = printed k at format (formatted_arguments k at ws others)

abbrev pub printf_with : Known → Place → List Wanted → List OperandView → Ruled OperandView
printf_with k at ws [] = format_fault at
printf_with k at ws (format ∷ others) = printed_with k at ws (term_of format) others

abbrev pub printf_wanting : Known → Place → List OperandView → Option (List Wanted) → Ruled OperandView
printf_wanting k at arguments None = format_fault at
printf_wanting k at arguments (Some ws) = printf_with k at ws arguments

abbrev pub printf_by : Known → Place → List OperandView → List ℕ → Ruled OperandView
printf_by k at arguments bytes = printf_wanting k at arguments (wanted_by bytes)

abbrev pub printf_spelled : Known → Place → List OperandView → Option (List ℕ) → Ruled OperandView
printf_spelled k at arguments None = format_fault at
printf_spelled k at arguments (Some bytes) = printf_by k at arguments bytes

abbrev pub printf_of : Known → Place → List OperandView → Tree → Ruled OperandView
printf_of k at arguments format = printf_spelled k at arguments (literal_bytes format)

-- a call of `printf`: its format is a literal
abbrev pub printf_call : Known → Place → Option Tree → List OperandView → Ruled OperandView
printf_call k at None arguments = format_fault at
printf_call k at (Some format) arguments = printf_of k at arguments format

-- ---- the other library functions

abbrev pub library_with : Place → Ty → LibFn → Ruled (List TermTree) → Ruled OperandView
library_with at t f (Err e) = Err e
library_with at t f (Ok arguments) = Ok (library_called at t f arguments)

-- a call of a library function with a prototype
abbrev pub library_call : State → Place → LibFn → List OperandView → Ruled OperandView
library_call s at f arguments = library_with at (library_result s.known.numbers s.stream f) f (converted_arguments s.known at arguments (library_parameters s.known.numbers s.stream f))

abbrev pub takes_format : LibFn → Bool
takes_format f = (signature_of f).takes_format

abbrev pub called_library : State → Place → LibFn → Option Tree → List OperandView → Ruled OperandView
called_library s at f format arguments = cond (takes_format f) (printf_call s.known at format arguments) (library_call s at f arguments)

-- a call whose arguments have types; `format` is the first one as it stands
abbrev pub call : State → Place → Callee → Option Tree → List OperandView → Ruled OperandView
call s at (callee.Own declared) format arguments = own_call s at declared arguments
call s at (callee.Library f) format arguments = called_library s at f format arguments
call s at callee.Other format arguments = type_fault at
call s at callee.Unknown format arguments = undeclared at
