-- Initializers of objects of static storage (6.7.9p4).
use Rattle.std.specs.Prelude.{ℕ, Bool, cond, List, is_some, Ok}
use Rattle.cc_base.specs.declared.diagnostics.Place.{Place}
use Rattle.c_layout.specs.Types.{Ty}
use Rattle.c_layout.specs.DeclarationTrees.{InitializerTree}
use Rattle.c_layout.specs.CheckedUnits.{StaticView, StaticStoreView}
use Rattle.c_types_scopes.specs.Known.{Known, size_of}
use Rattle.c_types_scopes.specs.Refusals.{Ruled, type_fault}
use Rattle.c_types_scopes.specs.Answers.{after}
use Rattle.c_types_scopes.specs.States.{State, with_initializer}
use Rattle.c_types_initializers.specs.Initialized.{InitializedView}
use Rattle.c_types_initializers.specs.StaticStores.{static_stores}
use Rattle.c_types_expressions.specs.BracedLists.Initializers.{initializer_of}
use Rattle.c_types_statement_rules.specs.Objects.Changes.{changed}
use Rattle.c_types_statement_rules.specs.Objects.LocalObjects.{with_static_type}

-- whether a type is complete
abbrev pub has_size : Known → Ty → Bool
has_size k t = is_some (size_of k t)

abbrev pub stored_static : List StaticStoreView → StaticView → StaticView
stored_static stores o = record o { stores = stores }

abbrev pub with_object_stores : ℕ → List StaticStoreView → State → State
with_object_stores number stores s = record s { statics = changed (stored_static stores) number s.statics }

abbrev pub with_stores : Place → ℕ → List StaticStoreView → State → State
with_stores equals number stores s = with_initializer (with_object_stores number stores s) number equals

abbrev pub with_initial : Place → ℕ → ℕ → Ty → List StaticStoreView → State → Ruled (Unit {0} × State)
with_initial equals index number t stores s = Ok (tt, with_stores equals number stores (with_static_type index number t s))

-- an object with the type and the stores that its initializer gives, which are constant
abbrev pub store_static : Place → ℕ → ℕ → InitializedView → Ty → State → Ruled (Unit {0} × State)
store_static equals index number made t s = after (static_stores equals made s) (with_initial equals index number t)

abbrev pub judged_static : ℕ → ℕ → Place → InitializedView × Ty → State → Ruled (Unit {0} × State)
judged_static index number equals m s = cond (has_size s.known m.1) (store_static equals index number m.0 m.1 s) (type_fault equals)

-- the initializer of an object; an array whose length it gives is refused where it is too large
abbrev pub static_initializer : State → ℕ → ℕ → Place → Ty → InitializerTree → Ruled (Unit {0} × State)
static_initializer s index number equals t i = after (initializer_of s equals t i) (judged_static index number equals)
