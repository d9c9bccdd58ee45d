-- Where a run of a control-flow program stands.
use Rattle.std.specs.Prelude.{ℕ, suc, List, [], ◌∷◌, Option, Some, None, slice_get}
use Rattle.c_layout.specs.declared.shapes.BaseInfo.{BaseInfo}
use Rattle.memory_model.specs.Memory.Scalars.{Scalar}
use Rattle.memory_model.specs.Effects.NumberedTables.{put_at}
use Rattle.memory_model.specs.Effects.Worlds.{World, Why, Stuck, Reply, goes, stops, Violation}
use Rattle.lower_templates.specs.Views.ProgramViews.{FlowView}

-- a block, the number of the next instruction in it, what the temporaries have, the instances that bases of
-- objects name, and the world
pub record ProgramState : Type 0 where
  pub block : ℕ
  pub at : ℕ
  pub temps : ℕ → Option Scalar
  pub bases : ℕ → Option ℕ
  pub world : World

-- a run with what it has violated so far: it goes on where it stands, or has stopped, with the world behind its
-- last step
pub data FlowRun : Type 0 where
  running : (standing : ProgramState) (found : List Violation) → FlowRun
  stopped : (why : Why) (world : World) (found : List Violation) → FlowRun

abbrev pub world_of : FlowRun → World
world_of (running s found) = s.world
world_of (stopped why w found) = w

abbrev pub found_in : FlowRun → List Violation
found_in (running s found) = found
found_in (stopped why w found) = found

abbrev pub why_of : FlowRun → Option Why
why_of (running s found) = None
why_of (stopped why w found) = Some why

-- ---- what is there, without which a run is stuck

abbrev pub stuck_at : {A : Type 0} → ProgramState → Reply A
stuck_at s = stops Stuck s.world

abbrev pub if_some : {A B : Type 0} → ProgramState → Option A → (A → Reply B) → Reply B
if_some s None use_it = stuck_at s
if_some s (Some x) use_it = use_it x

abbrev pub with_temp : {B : Type 0} → ProgramState → ℕ → (Scalar → Reply B) → Reply B
with_temp s t use_it = if_some s (s.temps t) use_it

abbrev pub with_instance : {B : Type 0} → ProgramState → ℕ → (ℕ → Reply B) → Reply B
with_instance s base use_it = if_some s (s.bases base) use_it

abbrev pub and_value : Option Scalar → Option (List Scalar) → Option (List Scalar)
and_value (Some v) (Some vs) = Some (v ∷ vs)
and_value v vs = None

abbrev pub values_of : (ℕ → Option Scalar) → List ℕ → Option (List Scalar)
values_of temps [] = Some []
values_of temps (t ∷ ts) = and_value (temps t) (values_of temps ts)

abbrev pub with_temps : {B : Type 0} → ProgramState → List ℕ → (List Scalar → Reply B) → Reply B
with_temps s ts use_it = if_some s (values_of s.temps ts) use_it

-- ---- what a step leaves

abbrev pub put : ProgramState → ℕ → Scalar → World → ProgramState
put s to v w = record s { temps = put_at s.temps to v; world = w }

-- where the value is kept
abbrev pub put_if : ProgramState → Option ℕ → Scalar → World → ProgramState
put_if s None v w = record s { world = w }
put_if s (Some to) v w = put s to v w

-- the run goes on behind the instruction
abbrev pub next : ProgramState → Reply ProgramState
next s = goes (record s { at = suc s.at }) s.world

-- ---- bases

abbrev pub size_in : Option BaseInfo → ℕ
size_in None = 0
size_in (Some b) = b.size

abbrev pub base_size : FlowView → ℕ → ℕ
base_size f b = size_in (slice_get f.bases b)
