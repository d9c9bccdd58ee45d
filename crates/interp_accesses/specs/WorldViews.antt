-- What the world of a program is to the machines, and what its steps come to.
use Rattle.std.specs.Prelude.{◌≡◌, drop, Result, Ok, Err}
use Rattle.memory_model.specs.Effects.Worlds as machine
use Rattle.memory_model.specs.Effects.Worlds.{World, Why, Reply, goes, stops}
use Rattle.interp_accesses.specs.declared.worlds.Cause.{Cause}
use Rattle.interp_accesses.specs.declared.worlds.Cause.TheVariants as cause
use Rattle.interp_accesses.specs.declared.worlds.Halt.{Halt}
use Rattle.interp_accesses.specs.declared.worlds.Halt.TheVariants as halt
use Rattle.interp_accesses.specs.declared.worlds.World7.{World7}

abbrev pub world_view : World7 → World
world_view w = record { memory = w.memory.memory; draws = drop w.taken w.draws.items; violated = w.violated.items }

abbrev pub why_view : Cause → Why
why_view cause.Ended = machine.Ended
why_view cause.Violated = machine.Violated
why_view cause.OutOfDraws = machine.OutOfDraws
why_view cause.Left = machine.Left
why_view cause.Stuck = machine.Stuck

-- a step that stops a run for a cause, in a world, unless memory ran out
abbrev pub StopsAs : Halt → Why → World → World → Type 0
StopsAs (halt.Stops why) cause expected w = (why_view why ≡ cause) × (expected ≡ w)
StopsAs halt.Memory cause expected w = Unit {0}

abbrev pub HaltsAs : {B : Type 0} → Reply B → Halt → World → Type 0
HaltsAs reply (halt.Stops why) w = reply ≡ stops (why_view why) w
HaltsAs reply halt.Memory w = Unit {0}

-- what a step comes to in the world behind it, unless memory ran out
abbrev pub ComesTo : {A B : Type 0} → (A → B) → Reply B → Result A Halt → World → Type 0
ComesTo view reply (Ok x) w = reply ≡ goes (view x) w
ComesTo view reply (Err h) w = HaltsAs reply h w

-- a value that is computed without a world, unless memory ran out
abbrev pub Computes : {A B : Type 0} → (A → B) → B → Result A Halt → Type 0
Computes view b (Ok x) = view x ≡ b
Computes view b (Err h) = h ≡ halt.Memory

-- a step that gives nothing
abbrev pub nothing_view : {A : Type 0} → A → Unit {0}
nothing_view x = tt

-- a change of the world, unless memory ran out
abbrev pub Leaves : World → Result (Unit {0}) Halt → World → Type 0
Leaves expected (Ok x) w = expected ≡ w
Leaves expected (Err h) w = h ≡ halt.Memory
