-- What typing knows at a place of a unit, and what changes of it.
use Rattle.std.specs.Prelude.{ℕ, ℤ, Bool, ◌==◌, cond, List, [], ◌∷◌, ◌++◌, map, length, vec_items, Option, None}
use Rattle.cc_base.specs.declared.diagnostics.Place.{Place}
use Rattle.c_layout.specs.Types.{Ty}
use Rattle.c_layout.specs.CheckedTrees.{TermTree, term_tree}
use Rattle.c_layout.specs.CheckedUnits.{LocalView, local_view, StaticView, static_view, LiteralView, literal_view}
use Rattle.c_layout.specs.declared.data_model.Model.{Model}
use Rattle.c_types_rules.specs.declared.call_cycles.call_graph.Call.{Call}
use Rattle.c_types_scopes.specs.Known.{Known, known}
use Rattle.c_types_scopes.specs.DeclaredTypes.{DeclaredView, declared_view, ObjectView, object_view, SignatureView, signature_view}
use Rattle.c_types_scopes.specs.Definitions.{DefinitionsView, definitions_view, no_definitions}
use Rattle.c_types_scopes.specs.Names as names
use Rattle.c_types_scopes.specs.Names.{ScopesView, scopes_view, no_scopes}
use Rattle.c_types_scopes.specs.StructTables.{TypesView, types_view, no_types}
use Rattle.c_types_scopes.specs.declared.context.Body.{Body}
use Rattle.c_types_scopes.specs.declared.context.Context.{Context}
use Rattle.c_types_scopes.specs.declared.context.StaticInitializer.{StaticInitializer}

-- the function whose body is typed: its number, its objects, and the enumerated types that their declarations name
pub record BodyView : Type 0 where
  pub number : ℕ
  pub locals : List LocalView
  pub enumerations : List (Option ℕ)

abbrev pub body_view : Body → BodyView
body_view b = record { number = b.number; locals = map local_view b.locals.items; enumerations = b.enumerations.items }

-- what typing knows: besides the data model and the structs, the names in scope, the members of structs, the values
-- of the enumerators of each enumerated type, what the typedef names, objects and functions are, what the unit
-- defines, its static objects and their initializers, its literals and constants so far, its calls, how many
-- operands of `sizeof` are open, the body at hand, and the struct that a stream points to
pub record State : Type 0 where
  pub known : Known
  pub scopes : ScopesView
  pub types : TypesView
  pub enumerations : List (List ℤ)
  pub typedefs : List DeclaredView
  pub objects : List ObjectView
  pub functions : List SignatureView
  pub definitions : DefinitionsView
  pub statics : List StaticView
  pub initializers : List StaticInitializer
  pub literals : List LiteralView
  pub constants : List TermTree
  pub calls : List Call
  pub unevaluated : ℕ
  pub body : BodyView
  pub stream : ℕ

abbrev pub state : Context → State
state cx = record {
  known = known cx;
  scopes = scopes_view cx.scopes;
  types = types_view cx.types;
  enumerations = map vec_items cx.enumerations.items;
  typedefs = map declared_view cx.typedefs.items;
  objects = map object_view cx.objects.items;
  functions = map signature_view cx.functions.items;
  definitions = definitions_view cx.definitions;
  statics = map static_view cx.statics.items;
  initializers = cx.initializers.items;
  literals = map literal_view cx.literals.items;
  constants = map term_tree cx.constants.items;
  calls = cx.calls;
  unevaluated = cx.unevaluated;
  body = body_view cx.body;
  stream = cx.stream;
}

-- before a unit's first declaration
abbrev pub first_state : Model → State
first_state m = record {
  known = record { numbers = m; structs = [] };
  scopes = no_scopes;
  types = no_types;
  enumerations = [];
  typedefs = [];
  objects = [];
  functions = [];
  definitions = no_definitions;
  statics = [];
  initializers = [];
  literals = [];
  constants = [];
  calls = [];
  unevaluated = 0;
  body = record { number = 0; locals = []; enumerations = [] };
  stream = 0;
}

-- a name that was met
abbrev pub with_name : State → List ℕ → State
with_name s text = record s { scopes = names.with_name s.scopes text }

abbrev pub is_evaluated : State → Bool
is_evaluated s = s.unevaluated == 0

-- a string literal is one of the run where it is evaluated; else it has the greatest number
abbrev pub literal_number : State → ℕ
literal_number s = cond (is_evaluated s) (length s.literals) 4294967295

abbrev pub with_literal : State → Place → List ℕ → State
with_literal s at bytes = cond (is_evaluated s) (record s { literals = s.literals ++ record { at = at; bytes = bytes } ∷ [] }) s

-- an expression of which only the value is needed
abbrev pub with_constant : State → TermTree → State
with_constant s e = record s { constants = s.constants ++ e ∷ [] }

abbrev pub call_of : State → ℕ → Place → Call
call_of s callee at = record { caller = s.body.number; callee = callee; place = at }

-- a call in the body at hand is noted where it is evaluated
abbrev pub with_call : State → ℕ → Place → State
with_call s callee at = cond (is_evaluated s) (record s { calls = s.calls ++ call_of s callee at ∷ [] }) s

-- an object of automatic storage more; its number is that of those before it
abbrev pub with_local : State → List ℕ → Place → DeclaredView → State
with_local s name at d = record s { body = record s.body { locals = s.body.locals ++ record { name = name; at = at; ctype = d.ctype } ∷ []; enumerations = s.body.enumerations ++ d.enumeration ∷ [] } }

-- an object of static storage more, all zero so far
abbrev pub with_static : State → List ℕ → Place → Ty → State
with_static s name at t = record s { statics = s.statics ++ record { name = name; at = at; ctype = t; stores = [] } ∷ [] }

-- an initializer of an object of static storage more
abbrev pub with_initializer : State → ℕ → Place → State
with_initializer s object equals = record s { initializers = s.initializers ++ record { object = object; equals = equals } ∷ [] }
