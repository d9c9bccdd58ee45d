-- Allocations of one content.
use Rattle.std.specs.Prelude.{ℕ, Option}
use Rattle.c_layout.specs.declared.data_model.Model.{Model}
use Rattle.memory_model.specs.Memory.Bytes.{Content}
use Rattle.memory_model.specs.Memory.Scalars.{Scalar}
use Rattle.memory_model.specs.Effects.Worlds.{World, Reply}
use Rattle.memory_model.specs.Effects.AllocationCalls.{allocate, allocated_with, untyped, asked_for}

-- an allocation of so many bytes of a content
abbrev pub filled_allocation : Model → Option ℕ → Content → ℕ → World → Reply Scalar
filled_allocation m wanted c size w = allocate m size (λ w. allocated_with (untyped c size) w) (asked_for wanted size w)
