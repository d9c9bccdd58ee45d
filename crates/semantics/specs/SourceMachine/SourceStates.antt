-- Where a run of the source stands.
use Rattle.std.specs.Prelude.{ℕ, Bool, List, ◌∷◌, ◌++◌, length, Option, Some, None, slice_get}
use Rattle.cc_base.specs.declared.diagnostics.Place.{Place}
use Rattle.c_layout.specs.Types.{Ty}
use Rattle.c_layout.specs.CheckedUnits.{FunctionView, StaticView, UnitView}
use Rattle.c_layout.specs.declared.checked_tree.checked_terms.ObjectRef.{ObjectRef}
use Rattle.c_layout.specs.declared.checked_tree.checked_terms.ObjectRef.TheVariants.{Static, Local}
use Rattle.lower_functions.specs.Functions.Functions.{local_type}
use Rattle.memory_model.specs.Memory.Scalars.{Scalar}
use Rattle.memory_model.specs.Effects.Worlds.{World, Reply, stops, Stuck}
use Rattle.semantics.specs.SourceMachine.Items.{Item}

-- a function that waits for a call: its number, the instances that its objects name, what it still has to do
-- behind the call, the call's place, and whether its value is used
pub record Frame : Type 0 where
  pub function : ℕ
  pub names : ℕ → Option ℕ
  pub control : List Item
  pub at : Place
  pub used : Bool

-- the function that runs, the instances that its objects name, what it still has to do, the values that are
-- pending in it and in the functions that wait, the newest first, these functions, and the world
pub record State : Type 0 where
  pub function : ℕ
  pub names : ℕ → Option ℕ
  pub control : List Item
  pub values : List Scalar
  pub frames : List Frame
  pub world : World

abbrev pub with_world : State → World → State
with_world s w = record s { world = w }

abbrev pub first_do : List Item → State → State
first_do items s = record s { control = items ++ s.control }

abbrev pub pushed : Scalar → State → State
pushed v s = record s { values = v ∷ s.values }

-- ---- what is there, without which a run is stuck

abbrev pub stuck_at : {A : Type 0} → State → Reply A
stuck_at s = stops Stuck s.world

abbrev pub if_some : {A B : Type 0} → State → Option A → (A → Reply B) → Reply B
if_some s None use_it = stuck_at s
if_some s (Some x) use_it = use_it x

abbrev pub function_at : UnitView → ℕ → Option FunctionView
function_at u n = slice_get u.functions n

-- the function that runs
abbrev pub with_function : {B : Type 0} → UnitView → State → (FunctionView → Reply B) → Reply B
with_function u s use_it = if_some s (function_at u s.function) use_it

-- the instance that a local object names
abbrev pub with_local : {B : Type 0} → State → ℕ → (ℕ → Reply B) → Reply B
with_local s n use_it = if_some s (s.names n) use_it

-- ---- objects

-- the number of the object of a function's result
abbrev pub result_object : FunctionView → ℕ
result_object f = length f.locals

-- objects of static storage are the first instances
abbrev pub instance_of : (ℕ → Option ℕ) → ObjectRef → Option ℕ
instance_of names (Static n) = Some n
instance_of names (Local n) = names n

abbrev pub with_object : {B : Type 0} → State → ObjectRef → (ℕ → Reply B) → Reply B
with_object s o use_it = if_some s (instance_of s.names o) use_it

abbrev pub static_type : Option StaticView → Option Ty
static_type None = None
static_type (Some o) = Some o.ctype

abbrev pub local_of : Option FunctionView → ℕ → Option Ty
local_of None n = None
local_of (Some f) n = Some (local_type f n)

abbrev pub type_of : UnitView → State → ObjectRef → Option Ty
type_of u s (Static n) = static_type (slice_get u.objects n)
type_of u s (Local n) = local_of (function_at u s.function) n
