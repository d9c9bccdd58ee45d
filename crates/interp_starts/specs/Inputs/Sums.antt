-- The sizes of instances, added up to a limit.
use Rattle.std.specs.Prelude.{◌≡◌, ◌<◌, ◌≤◌, ℕ, ◌+◌, cond, nat_lt, [], ◌∷◌, length}
use Rattle.memory_model.specs.Memory.Instances.{Memory, total_size}
use Rattle.interp_accesses.specs.declared.worlds.Halt.{Halt}
use Rattle.interp_accesses.specs.declared.worlds.Halt.TheVariants as halt
use Rattle.interp_starts.specs.declared.inputs.instance_sums.StartStop.{StartStop}
use Rattle.interp_starts.specs.declared.inputs.instance_sums.StartStop.TheVariants as stop

-- the most bytes that all instances have together
abbrev pub most_bytes : ℕ
most_bytes = 4194304

-- the sum of the sizes, from one on, up to the instance with which it passes a number
abbrev pub passing_from : ℕ → ℕ → Memory → ℕ
passing_from most sum [] = sum
passing_from most sum (i ∷ is) = cond (nat_lt most (sum + length i.bytes)) (sum + length i.bytes) (passing_from most (sum + length i.bytes) is)

-- all instances of memory together have more bytes than a number, first so many
pub record PassesAt (most count : ℕ) (memory : Memory) : Type 0 where
  pub large : most < total_size memory
  pub counted : count ≡ passing_from most 0 memory

-- memory is too large
abbrev pub IsPassed : ℕ → Memory → Type 0
IsPassed count memory = PassesAt most_bytes count memory

-- a sum that another size makes too large
pub record PassesWith (most sum size count : ℕ) : Type 0 where
  pub within : sum ≤ most
  pub passes : most < sum + size
  pub counted : count ≡ sum + size

-- a size that passes the limit is no other stop than that
abbrev pub PassesBy : ℕ → ℕ → StartStop → Type 0
PassesBy sum size (stop.Stops why) = ⊥
PassesBy sum size (stop.Large count) = PassesWith most_bytes sum size count
PassesBy sum size stop.Memory = Unit {0}

abbrev pub stop_by : Halt → StartStop
stop_by (halt.Stops why) = stop.Stops why
stop_by halt.Memory = stop.Memory
