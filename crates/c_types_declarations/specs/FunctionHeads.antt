-- Function declarators with their parameters (6.7.6.3).
use Rattle.std.specs.Prelude.{Bool, false, List, [], ◌∷◌, map, length, Option, Some, None, Ok, Err}
use Rattle.cc_base.specs.declared.diagnostics.Place.{Place}
use Rattle.c_layout.specs.Types.{Ty, view}
use Rattle.c_layout.specs.DeclarationTrees.{DeclaratorView, ParameterView, ParametersView, NoParameters, OnlyVoid, ParameterList, FunctionDeclaratorView, spec_trees}
use Rattle.c_types_scopes.specs.Answers.{after, kept}
use Rattle.c_types_scopes.specs.Known.{Known}
use Rattle.c_types_scopes.specs.DeclaredTypes.{DeclaredView, declared_view}
use Rattle.c_types_scopes.specs.Refusals.{Ruled}
use Rattle.c_types_scopes.specs.States.{State}
use Rattle.c_types_expressions.specs.Expressions.Expressions.{before}
use Rattle.c_types_declarations.specs.Declarators.{declared_type}
use Rattle.c_types_declarations.specs.Specifiers.{SpecifiedView}
use Rattle.c_types_declarations.specs.SpecifierTrees.{specifiers}
use Rattle.c_types_declarations.specs.Parameters.{as_parameter, parameter_name, parameter_place, finish_parameter, are_named, result_type, without_locals}
use Rattle.c_types_declarations.specs.declared.parameters.FunctionHead.{FunctionHead}

-- a function's type, and whether each parameter has a name
pub record HeadView : Type 0 where
  pub declared : DeclaredView
  pub parameters : List Ty
  pub are_named : Bool

abbrev pub head_view : FunctionHead → HeadView
head_view h = record { declared = declared_view h.declared; parameters = map view h.parameters.items; are_named = h.are_named }

abbrev pub as_parameter_in : Place → DeclaredView → State → Ruled (DeclaredView × State)
as_parameter_in at d t = kept t (as_parameter at d)

-- the type of a parameter, which is refused at a place
abbrev pub parameter_type : State → Place → DeclaredView → Option DeclaratorView → Ruled (DeclaredView × State)
parameter_type s at base None = kept s (as_parameter at base)
parameter_type s at base (Some d) = after (declared_type s at base d.layers) (as_parameter_in at)

abbrev pub specified_parameter : ParameterView → SpecifiedView → State → Ruled (Ty × State)
specified_parameter p base s = after (parameter_type s (parameter_place p) base.declared p.declarator) (finish_parameter (parameter_place p) base.storage (parameter_name p))

-- a parameter: its type, and it is declared by its name
abbrev pub add_parameter : State → ParameterView → Ruled (Ty × State)
add_parameter s p = after (specifiers s p.at false (spec_trees p.words)) (specified_parameter p)

-- parameters in order; their types
abbrev pub add_parameters : State → List ParameterView → Ruled (List Ty × State)
add_parameters s [] = Ok ([], s)
add_parameters s (p ∷ ps) = after (add_parameter s p) (λ t s1. after (add_parameters s1 ps) (before t))

abbrev pub parameters_of : State → ParametersView → Ruled (List Ty × State)
parameters_of s NoParameters = Ok ([], s)
parameters_of s OnlyVoid = Ok ([], s)
parameters_of s (ParameterList ps) = add_parameters s ps

abbrev pub head_of : List Ty → Bool → Ruled DeclaredView → Ruled HeadView
head_of parameters named (Ok d) = Ok (record { declared = d; parameters = parameters; are_named = named })
head_of parameters named (Err f) = Err f

abbrev pub head_by : Known → DeclaredView → FunctionDeclaratorView → List Ty → Ruled HeadView
head_by k base f parameters = head_of parameters (are_named f.parameters) (result_type k f.name.at base (length f.stars))

abbrev pub headed : DeclaredView → FunctionDeclaratorView → List Ty → State → Ruled (HeadView × State)
headed base f parameters t = kept t (head_by t.known base f parameters)

-- the type of a function, at whose name it is refused; its parameters come first, and are the first objects of a
-- body without others
abbrev pub function_head : State → DeclaredView → FunctionDeclaratorView → Ruled (HeadView × State)
function_head s base f = after (parameters_of (without_locals s) f.parameters) (headed base f)
