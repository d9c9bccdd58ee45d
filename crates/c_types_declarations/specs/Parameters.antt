-- Parameters and function declarators (6.7.6.3).
use Rattle.std.specs.Prelude.{ℕ, ◌==◌, Bool, true, false, cond, List, [], ◌∷◌, length, is_some, Option, Some, None, Ok, Err}
use Rattle.cc_base.specs.declared.diagnostics.Place.{Place}
use Rattle.c_layout.specs.Types.{Ty, Pointer, Array}
use Rattle.c_layout.specs.DeclarationTrees.{NameView, DeclaratorView, ParameterView, ParametersView, NoParameters, OnlyVoid, ParameterList}
use Rattle.c_layout.specs.declared.syntax_tree.declarations.Storage.{Storage}
use Rattle.c_types_scopes.specs.Known.{Known}
use Rattle.c_types_scopes.specs.Names.{number_in, found_here}
use Rattle.c_types_scopes.specs.Refusals.{Ruled, type_fault, redeclared}
use Rattle.c_types_scopes.specs.DeclaredTypes.{DeclaredView, plain}
use Rattle.c_types_scopes.specs.States.{State, with_name, with_local}
use Rattle.c_types_scopes.specs.declared.meanings.Meaning.{Meaning}
use Rattle.c_types_scopes.specs.declared.meanings.Meaning.TheVariants as meaning
use Rattle.c_types_operands.specs.Operands.{is_scalar, is_void}
use Rattle.c_types_declarations.specs.ContextSteps.{with_meaning}
use Rattle.c_types_declarations.specs.Declarators.{pointers, stepped_type}
use Rattle.c_types_declarations.specs.StructBodies.{is_stored}

abbrev pub adjusted_of : DeclaredView → Ty → DeclaredView
adjusted_of d (Array t count) = plain (Pointer t)
adjusted_of d t = d

-- a parameter of array type is a pointer
abbrev pub adjusted : DeclaredView → DeclaredView
adjusted d = adjusted_of d d.ctype

abbrev pub if_scalar : Place → DeclaredView → Ruled DeclaredView
if_scalar at d = cond (is_scalar d.ctype) (Ok d) (type_fault at)

-- the type of a parameter
abbrev pub as_parameter : Place → DeclaredView → Ruled DeclaredView
as_parameter at d = if_scalar at (adjusted d)

abbrev pub declared_local : ℕ → NameView → DeclaredView → State → State
declared_local name n d s = with_meaning (with_local s n.text n.at d) name (meaning.Local (length s.body.locals))

abbrev pub parameter_of : ℕ → NameView → DeclaredView → State → Option Meaning → Ruled (Unit {0} × State)
parameter_of name n d s (Some m) = redeclared n.at
parameter_of name n d s None = Ok (tt, declared_local name n d s)

abbrev pub parameter_by : ℕ → NameView → DeclaredView → State → Ruled (Unit {0} × State)
parameter_by name n d s = parameter_of name n d s (found_here s.scopes name)

-- a parameter with a name is an object of the body
abbrev pub declare_parameter : NameView → DeclaredView → State → Ruled (Unit {0} × State)
declare_parameter n d s = parameter_by (number_in s.scopes.names n.text) n d (with_name s n.text)

abbrev pub name_in : Option DeclaratorView → Option NameView
name_in None = None
name_in (Some d) = d.name

-- the name of a parameter, where it has one
abbrev pub parameter_name : ParameterView → Option NameView
parameter_name p = name_in p.declarator

abbrev pub place_in : Place → Option NameView → Place
place_in at None = at
place_in at (Some n) = n.at

-- where a parameter is refused
abbrev pub parameter_place : ParameterView → Place
parameter_place p = place_in p.at (parameter_name p)

abbrev pub named_parameter : Option NameView → DeclaredView → State → Ruled (Unit {0} × State)
named_parameter None d s = Ok (tt, s)
named_parameter (Some n) d s = declare_parameter n d s

abbrev pub typed_as : Ty → Ruled (Unit {0} × State) → Ruled (Ty × State)
typed_as t (Ok p) = Ok (t, p.1)
typed_as t (Err f) = Err f

-- a parameter whose type is known
abbrev pub finish_parameter : Place → Option Storage → Option NameView → DeclaredView → State → Ruled (Ty × State)
finish_parameter at stored n d s = cond (is_stored stored) (type_fault at) (typed_as d.ctype (named_parameter n d s))

unfoldable pub each_named : List ParameterView → Bool
each_named [] = true
each_named (p ∷ parameters) = cond (is_some (parameter_name p)) (each_named parameters) false

-- whether each parameter has a name
abbrev pub are_named : ParametersView → Bool
are_named NoParameters = true
are_named OnlyVoid = true
are_named (ParameterList parameters) = each_named parameters

-- a function returns a scalar, or nothing
abbrev pub is_result : Ty → Bool
is_result t = cond (is_scalar t) true (is_void t)

abbrev pub result_of : Place → Option ℕ → Ruled Ty → Ruled DeclaredView
result_of at enumeration (Err f) = Err f
result_of at enumeration (Ok t) = cond (is_result t) (Ok (record { ctype = t; enumeration = enumeration })) (type_fault at)

abbrev pub enumeration_of : DeclaredView → ℕ → Option ℕ
enumeration_of d stars = cond (stars == 0) d.enumeration None

-- the type behind so many stars
abbrev pub pointed_type : Known → Place → DeclaredView → ℕ → Ruled Ty
pointed_type k at d stars = stepped_type k at d.ctype (pointers stars)

-- the result of a function whose declarator has so many stars
abbrev pub result_type : Known → Place → DeclaredView → ℕ → Ruled DeclaredView
result_type k at d stars = result_of at (enumeration_of d stars) (pointed_type k at d stars)

-- a body without objects
abbrev pub without_locals : State → State
without_locals s = record s { body = record s.body { locals = []; enumerations = [] } }
