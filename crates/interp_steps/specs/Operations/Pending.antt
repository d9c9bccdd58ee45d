-- The values that are pending in a run.
use Rattle.std.specs.Prelude.{◌≡◌, List, map, reverse, Result, Ok, Err}
use Rattle.memory_model.specs.Memory.Scalars.{Scalar}
use Rattle.memory_model.specs.Effects.Worlds.{World, Reply, goes}
use Rattle.interp_memory.specs.ByteViews.{scalar_view}
use Rattle.interp_memory.specs.declared.byte_forms.Value7.{Value7}
use Rattle.interp_accesses.specs.WorldViews.{HaltsAs}
use Rattle.interp_accesses.specs.declared.worlds.Halt.{Halt}

-- the values that are pending, the newest first
abbrev pub pending : List Value7 → List Scalar
pending values = reverse (map scalar_view values)

-- an operation leaves these values, unless memory ran out
abbrev pub Operates : Reply (List Scalar) → Result (Unit {0}) Halt → List Value7 → World → Type 0
Operates reply (Ok x) values w = reply ≡ goes (pending values) w
Operates reply (Err h) values w = HaltsAs reply h w
