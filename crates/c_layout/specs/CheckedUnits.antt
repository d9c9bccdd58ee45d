-- Checked units, as contracts see them: without the memory in which they stand.
use Rattle.std.specs.Prelude.{ℕ, List, map}
use Rattle.cc_base.specs.declared.diagnostics.Place.{Place}
use Rattle.c_layout.specs.Types.{Ty, view}
use Rattle.c_layout.specs.StructViews.{StructView, structs_view}
use Rattle.c_layout.specs.CheckedTrees.{TermTree, term_tree, StatementTree, statement_tree}
use Rattle.c_layout.specs.declared.data_model.Model.{Model}
use Rattle.c_layout.specs.declared.checked_tree.checked_units.LocalObject.{LocalObject}
use Rattle.c_layout.specs.declared.checked_tree.checked_units.Function.{Function}
use Rattle.c_layout.specs.declared.checked_tree.checked_units.StaticValue.{StaticValue}
use Rattle.c_layout.specs.declared.checked_tree.checked_units.StaticStore.{StaticStore}
use Rattle.c_layout.specs.declared.checked_tree.checked_units.StaticStore.TheVariants as store
use Rattle.c_layout.specs.declared.checked_tree.checked_units.StaticObject.{StaticObject}
use Rattle.c_layout.specs.declared.checked_tree.checked_units.StringLiteral.{StringLiteral}
use Rattle.c_layout.specs.declared.checked_tree.checked_units.Checked.{Checked}

-- an object of automatic storage
pub record LocalView : Type 0 where
  pub name : List ℕ
  pub at : Place
  pub ctype : Ty

-- a function: its locals, of which the first ones are its parameters, and its body
pub record FunctionView : Type 0 where
  pub name : List ℕ
  pub at : Place
  pub returns : Ty
  pub parameters : ℕ
  pub locals : List LocalView
  pub scope : List ℕ
  pub body : List StatementTree
  pub labels : ℕ

-- a store of a static initializer
pub data StaticStoreView : Type 0 where
  SetValue : (offset : ℕ) (value : StaticValue) → StaticStoreView
  SetText : (offset room : ℕ) (text : List ℕ) → StaticStoreView

-- an object of static storage and the stores over its zeros
pub record StaticView : Type 0 where
  pub name : List ℕ
  pub at : Place
  pub ctype : Ty
  pub stores : List StaticStoreView

-- a string literal, without its closing zero
pub record LiteralView : Type 0 where
  pub at : Place
  pub bytes : List ℕ

pub record UnitView : Type 0 where
  pub functions : List FunctionView
  pub constants : List TermTree
  pub objects : List StaticView
  pub structs : List StructView
  pub literals : List LiteralView
  pub entry : ℕ
  pub model : Model

abbrev pub local_view : LocalObject → LocalView
local_view l = record { name = l.name; at = l.place; ctype = view l.ctype }

abbrev pub function_view : Function → FunctionView
function_view f = record {
  name = f.name;
  at = f.place;
  returns = view f.result;
  parameters = f.parameters;
  locals = map local_view f.locals.items;
  scope = f.scope.items;
  body = map statement_tree f.body.items;
  labels = f.labels;
}

abbrev pub static_store_view : StaticStore → StaticStoreView
static_store_view (store.Value offset value) = SetValue offset value
static_store_view (store.Spell offset room text) = SetText offset room text

abbrev pub static_view : StaticObject → StaticView
static_view o = record { name = o.name; at = o.place; ctype = view o.ctype; stores = map static_store_view o.stores.items }

abbrev pub literal_view : StringLiteral → LiteralView
literal_view l = record { at = l.place; bytes = l.bytes }

-- the unit that a checked unit is
abbrev pub unit_view : Checked → UnitView
unit_view u = record {
  functions = map function_view u.functions.items;
  constants = map term_tree u.constants.items;
  objects = map static_view u.objects.items;
  structs = structs_view u.structs;
  literals = map literal_view u.literals.items;
  entry = u.entry;
  model = u.model;
}
