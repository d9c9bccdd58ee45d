-- The check of a unit (6.9): its external declarations are typed in reading order, each in the state that the one before
-- it leaves; the first part that is refused refuses the unit, then the first initializer that goes past an array of which
-- the length became known behind it, and then its entry and its calls may.
use Rattle.std.specs.Prelude.{ℕ, List, [], ◌∷◌, ◌++◌, Ok, Err}
use Rattle.c_layout.specs.DeclarationTrees.{ExternalTree, Declared, Defined}
use Rattle.c_layout.specs.CheckedUnits.{FunctionView, UnitView}
use Rattle.c_layout.specs.declared.data_model.Model.{Model}
use Rattle.c_types_scopes.specs.Refusals.{Ruled}
use Rattle.c_types_scopes.specs.Answers.{after}
use Rattle.c_types_scopes.specs.States.{State, first_state}
use Rattle.c_types.specs.Units.Streams.{with_stream}
use Rattle.c_types.specs.Units.UnitDefinitions.{with_externals}
use Rattle.c_types_statement_rules.specs.Objects.UnitObjects.{finished_objects}
use Rattle.c_types.specs.Units.UnitEntries.{judged}
use Rattle.c_types.specs.FileScope.ExternalDeclarations.{external_declaration}
use Rattle.c_types.specs.Units.FunctionDefinitions.{function_definition}

abbrev pub functions_kept : List FunctionView → Unit {0} → State → Ruled (List FunctionView × State)
functions_kept made u s = Ok (made, s)

abbrev pub with_function : List FunctionView → FunctionView → State → Ruled (List FunctionView × State)
with_function made f s = Ok (made ++ f ∷ [], s)

-- the functions with that of an external declaration
abbrev pub external : State → List FunctionView → ExternalTree → Ruled (List FunctionView × State)
external s made (Declared at words ds) = after (external_declaration s at words ds) (functions_kept made)
external s made (Defined at words f body) = after (function_definition s at words f body) (with_function made)

abbrev pub externals : State → List FunctionView → List ExternalTree → Ruled (List FunctionView × State)
externals s made [] = Ok (made, s)
externals s made (e ∷ es) = after (external s made e) (λ more t. externals t more es)

abbrev pub finished : List FunctionView → State → Ruled (List FunctionView × State)
finished made s = after (finished_objects s) (functions_kept made)

-- the functions of a unit; what it defines is known before it is typed
abbrev pub typed_unit : State → List ExternalTree → Ruled (List FunctionView × State)
typed_unit s es = after (externals (with_externals es (with_stream s)) [] es) finished

abbrev pub unit_of : Model → List FunctionView → State → ℕ → UnitView
unit_of m functions s entry = record {
  functions = functions;
  constants = s.constants;
  objects = s.statics;
  structs = s.types.structs;
  literals = s.literals;
  entry = entry;
  model = m;
}

abbrev pub entered : Model → List FunctionView → State → Ruled ℕ → Ruled UnitView
entered m functions s (Ok entry) = Ok (unit_of m functions s entry)
entered m functions s (Err f) = Err f

abbrev pub judged_unit : Model → List ℕ → Ruled (List FunctionView × State) → Ruled UnitView
judged_unit m name (Ok p) = entered m p.0 p.1 (judged p.0 name p.1.calls)
judged_unit m name (Err f) = Err f

-- the checked unit that a tree is under a data model and an entry, or the first refusal
abbrev pub check : Model → List ℕ → List ExternalTree → Ruled UnitView
check m name es = judged_unit m name (typed_unit (first_state m) es)
