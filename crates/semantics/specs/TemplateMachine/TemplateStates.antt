-- Where a run of templates stands.
use Rattle.std.specs.Prelude.{ℕ, Bool, List, [], Option, Some, None, slice_get}
use Rattle.cc_base.specs.declared.diagnostics.Place.{Place}
use Rattle.c_layout.specs.CheckedUnits.{UnitView, FunctionView}
use Rattle.c_layout.specs.declared.checked_tree.checked_terms.ObjectRef.{ObjectRef}
use Rattle.c_layout.specs.declared.checked_tree.checked_terms.ObjectRef.TheVariants as object
use Rattle.memory_model.specs.Memory.Scalars.{Scalar}
use Rattle.memory_model.specs.Effects.NumberedTables.{put_at}
use Rattle.memory_model.specs.Effects.UnitStarts.{literal_instance}
use Rattle.memory_model.specs.Effects.Worlds.{World, Why, Stuck, Reply, goes, stops, Violation}
use Rattle.lower_templates.specs.Worklist.Pieces.{NameView, Local, Outcome, Static, Literal, Allocation, PieceView, TemplateView}
use Rattle.semantics.specs.SourceMachine.SourceStates.{State, result_object, instance_of, function_at}

-- a function that waits for a call: its number, its pieces behind the call, what its temporaries have, the
-- instances that its objects name, the first temporary of the call, its place, and whether its value is used
pub record Frame : Type 0 where
  pub function : ℕ
  pub rest : List PieceView
  pub temps : ℕ → Option Scalar
  pub names : ℕ → Option ℕ
  pub depth : ℕ
  pub at : Place
  pub used : Bool

-- the function that runs, the pieces that are still to be done, what its temporaries have, the instances that
-- its objects name, the functions that wait, and the world
pub record TemplateState : Type 0 where
  pub function : ℕ
  pub rest : List PieceView
  pub temps : ℕ → Option Scalar
  pub names : ℕ → Option ℕ
  pub frames : List Frame
  pub world : World

-- a unit, and the template of each of its functions
pub record Templates : Type 0 where
  pub unit : UnitView
  pub of : ℕ → TemplateView

-- ---- what is there, without which a run is stuck

abbrev pub stuck_at : {A : Type 0} → TemplateState → Reply A
stuck_at s = stops Stuck s.world

abbrev pub if_some : {A B : Type 0} → TemplateState → Option A → (A → Reply B) → Reply B
if_some s None use_it = stuck_at s
if_some s (Some x) use_it = use_it x

abbrev pub with_temp : {B : Type 0} → TemplateState → ℕ → (Scalar → Reply B) → Reply B
with_temp s t use_it = if_some s (s.temps t) use_it

-- ---- what a step leaves

abbrev pub on : TemplateState → Reply TemplateState
on s = goes s s.world

abbrev pub put : TemplateState → ℕ → Scalar → World → TemplateState
put s to v w = record s { temps = put_at s.temps to v; world = w }

abbrev pub with_world : TemplateState → World → TemplateState
with_world s w = record s { world = w }

abbrev pub going_on : TemplateState → List PieceView → TemplateState
going_on s rest = record s { rest = rest }

-- ---- objects are those of the function, as in the source

abbrev pub scene : TemplateState → State
scene s = record { function = s.function; names = s.names; control = []; values = []; frames = []; world = s.world }

-- the name of a base of the function that runs
abbrev pub with_name : {B : Type 0} → Templates → TemplateState → ℕ → (NameView → Reply B) → Reply B
with_name t s base use_it = if_some s (slice_get (t.of s.function).names base) use_it

abbrev pub outcome_of : Option FunctionView → Option ℕ
outcome_of None = None
outcome_of (Some f) = Some (result_object f)

-- the number of a local object, or of the object of the result
abbrev pub local_of : Templates → TemplateState → NameView → Option ℕ
local_of t s (Local n) = Some n
local_of t s Outcome = outcome_of (function_at t.unit s.function)
local_of t s (Static n) = None
local_of t s (Literal n) = None
local_of t s (Allocation target) = None

abbrev pub as_local : Option ℕ → Option ObjectRef
as_local None = None
as_local (Some n) = Some (object.Local n)

abbrev pub object_of : Templates → TemplateState → NameView → Option ObjectRef
object_of t s (Static n) = Some (object.Static n)
object_of t s name = as_local (local_of t s name)

abbrev pub instance_if : TemplateState → Option ObjectRef → Option ℕ
instance_if s None = None
instance_if s (Some o) = instance_of s.names o

-- the instance that a name stands for
abbrev pub instance_named : Templates → TemplateState → NameView → Option ℕ
instance_named t s (Literal n) = Some (literal_instance t.unit n)
instance_named t s name = instance_if s (object_of t s name)

abbrev pub with_instance : {B : Type 0} → Templates → TemplateState → ℕ → (ℕ → Reply B) → Reply B
with_instance t s base use_it = with_name t s base (λ name. if_some s (instance_named t s name) use_it)

-- ---- runs

-- a run with what it has violated so far: it goes on where it stands, or has stopped, with the world behind its
-- last step
pub data TemplateRun : Type 0 where
  running : (standing : TemplateState) (found : List Violation) → TemplateRun
  stopped : (why : Why) (world : World) (found : List Violation) → TemplateRun

abbrev pub world_of : TemplateRun → World
world_of (running s found) = s.world
world_of (stopped why w found) = w

abbrev pub found_in : TemplateRun → List Violation
found_in (running s found) = found
found_in (stopped why w found) = found

abbrev pub why_of : TemplateRun → Option Why
why_of (running s found) = None
why_of (stopped why w found) = Some why
