-- What becomes of a function's name and type (6.7.6.3, 6.9.1).
use Rattle.std.specs.Prelude.{ℕ, Bool, true, false, cond, List, [], ◌∷◌, ◌++◌, length, slice_get, is_some, Option, Some, None, Ok}
use Rattle.cc_base.specs.declared.diagnostics.Place.{Place}
use Rattle.c_layout.specs.Types.{Ty, Void}
use Rattle.c_layout.specs.DeclarationTrees.{NameView, FunctionDeclaratorView}
use Rattle.c_types_scopes.specs.Definitions.{function_of}
use Rattle.c_types_scopes.specs.DeclaredTypes.{DeclaredView, plain, SignatureView, is_same_signature}
use Rattle.c_types_scopes.specs.Names as names
use Rattle.c_types_scopes.specs.Names.{number_in, found_here}
use Rattle.c_types_scopes.specs.Refusals.{Ruled, redeclared, type_fault}
use Rattle.c_types_scopes.specs.Answers.{after}
use Rattle.c_types_scopes.specs.States.{State, BodyView, with_name}
use Rattle.c_types_scopes.specs.declared.meanings.Meaning.{Meaning}
use Rattle.c_types_scopes.specs.declared.meanings.Meaning.TheVariants as meaning
use Rattle.c_types_declarations.specs.Specifiers.{SpecifiedView, is_library_name}
use Rattle.c_types_declarations.specs.FunctionHeads.{HeadView, function_head}
use Rattle.c_types_statement_rules.specs.Objects.Changes.{changed}
use Rattle.c_types.specs.declared.file_scope.function_declarations.NameBefore.{NameBefore}
use Rattle.c_types.specs.declared.file_scope.function_declarations.NameBefore.TheVariants as before
use Rattle.c_types.specs.declared.file_scope.function_declarations.FunctionSlot.{FunctionSlot}

abbrev pub name_before_by : Option Meaning → NameBefore
name_before_by None = before.Nothing
name_before_by (Some (meaning.Function number)) = before.Function number
name_before_by (Some (meaning.Static number)) = before.Other
name_before_by (Some (meaning.Local number)) = before.Other
name_before_by (Some (meaning.Typedef number)) = before.Other
name_before_by (Some (meaning.Enumerator value)) = before.Other

-- what a function's name means so far
abbrev pub name_before : State → ℕ → NameBefore
name_before s name = name_before_by (found_here s.scopes name)

-- ---- the place among the functions declared

-- a function whose type is not known yet
abbrev pub new_signature : Option ℕ → SignatureView
new_signature number = record { result = plain Void; parameters = []; number = number; is_defined = false }

abbrev pub with_new_function : State → ℕ → State
with_new_function s name = record s { functions = s.functions ++ new_signature (function_of s.definitions name) ∷ []; scopes = names.declared s.scopes name (meaning.Function (length s.functions)) }

-- the number of a function's declaration, a new one where its name meant nothing
abbrev pub slot : State → NameBefore → ℕ
slot s before.Nothing = length s.functions
slot s (before.Function number) = number
slot s before.Other = 4294967295

abbrev pub with_slot : State → ℕ → NameBefore → State
with_slot s name before.Nothing = with_new_function s name
with_slot s name (before.Function number) = s
with_slot s name before.Other = s

abbrev pub slot_by : ℕ → NameBefore → State → FunctionSlot × State
slot_by name b s = (record { known = name; before = b; number = slot s b }, with_slot s name b)

abbrev pub slot_in : ℕ → State → FunctionSlot × State
slot_in name s = slot_by name (name_before s name) s

-- where a function stands by its name, which is declared
abbrev pub function_slot : NameView → State → FunctionSlot × State
function_slot n s = slot_in (number_in s.scopes.names n.text) (with_name s n.text)

-- ---- types

abbrev pub given_signature : DeclaredView → List Ty → SignatureView → SignatureView
given_signature d parameters f = record f { result = d; parameters = parameters }

abbrev pub with_given : ℕ → DeclaredView → List Ty → State → State
with_given number d parameters s = record s { functions = changed (given_signature d parameters) number s.functions }

abbrev pub resulting_signature : DeclaredView → SignatureView → SignatureView
resulting_signature d f = record f { result = d }

abbrev pub with_result : ℕ → DeclaredView → State → State
with_result number d s = record s { functions = changed (resulting_signature d) number s.functions }

abbrev pub same_as : HeadView → Option SignatureView → Bool
same_as h None = false
same_as h (Some f) = is_same_signature f h.declared.ctype h.parameters

-- whether a function has a type
abbrev pub has_signature : State → ℕ → HeadView → Bool
has_signature s number h = same_as h (slice_get s.functions number)

-- whether a function of a number is declared
abbrev pub is_declared : State → ℕ → Bool
is_declared s number = is_some (slice_get s.functions number)

abbrev pub signed_first : Place → ℕ → HeadView → State → Ruled (Unit {0} × State)
signed_first at number h s = cond (is_declared s number) (Ok (tt, with_given number h.declared h.parameters s)) (redeclared at)

abbrev pub signed_again : Place → ℕ → HeadView → State → Ruled (Unit {0} × State)
signed_again at number h s = cond (has_signature s number h) (Ok (tt, with_result number h.declared s)) (redeclared at)

abbrev pub signed_by : Place → ℕ → NameBefore → HeadView → State → Ruled (Unit {0} × State)
signed_by at number before.Nothing h s = signed_first at number h s
signed_by at number (before.Function other) h s = signed_again at number h s
signed_by at number before.Other h s = redeclared at

-- a function with its type, which is that of its earlier declarations
abbrev pub signed : NameView → ℕ → NameBefore → HeadView → State → Ruled (Unit {0} × State)
signed n number b h s = cond (is_library_name n.text) (redeclared n.at) (signed_by n.at number b h s)

-- ---- definitions

abbrev pub was_defined : Option SignatureView → Bool
was_defined None = false
was_defined (Some f) = f.is_defined

abbrev pub defined_signature : SignatureView → SignatureView
defined_signature f = record f { is_defined = true }

-- whether a function was defined
abbrev pub is_defined : State → ℕ → Bool
is_defined s number = was_defined (slice_get s.functions number)

abbrev pub with_defined : State → ℕ → State
with_defined s number = record s { functions = changed defined_signature number s.functions }

-- a second definition of a function, and a parameter without a name, are refused
abbrev pub met_head : NameView → ℕ → HeadView → State → Ruled (Unit {0} × State)
met_head n number h s = cond (is_defined s number) (redeclared n.at) (cond h.are_named (Ok (tt, with_defined s number)) (type_fault n.at))

abbrev pub judged_head : NameView → ℕ → NameBefore → HeadView → State → Ruled (Unit {0} × State)
judged_head n number b h s = after (signed n number b h s) (λ u t. met_head n number h t)

-- ---- prototypes

abbrev pub in_scope : State → State
in_scope s = record s { scopes = names.opened s.scopes }

abbrev pub out_of_scope : State → State
out_of_scope s = record s { scopes = names.closed s.scopes }

abbrev pub prototype_of : SpecifiedView → FunctionDeclaratorView → FunctionSlot × State → Ruled (Unit {0} × State)
prototype_of base f p = after (function_head (in_scope p.1) base.declared f) (λ h t. signed f.name p.0.number p.0.before h (out_of_scope t))

-- a prototype: its parameters have a scope of their own
abbrev pub prototype : State → SpecifiedView → FunctionDeclaratorView → Ruled (Unit {0} × State)
prototype s base f = prototype_of base f (function_slot f.name s)

-- ---- bodies

abbrev pub no_body : BodyView
no_body = record { number = 0; locals = []; enumerations = [] }

abbrev pub without_body : State → State
without_body s = record s { body = no_body }
