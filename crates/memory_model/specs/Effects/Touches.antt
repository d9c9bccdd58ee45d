-- Whether memory may be accessed where a pointer points to.
use Rattle.std.specs.Prelude.{ℕ, ◌+◌, Bool, true, false, cond, ◌&&◌, nat_le, List, Option, Some, None, slice_get, slice_set}
use Rattle.cc_base.specs.declared.diagnostics.Rule.TheVariants as rule
use Rattle.memory_model.specs.Memory.Bytes.{MachinePointer, null, into, Byte}
use Rattle.memory_model.specs.Memory.Instances.{Storage, static, allocated, literal, Life, live, ended, freed, Instance, Memory, life_at}
use Rattle.memory_model.specs.Effects.Worlds.{World, Reply, goes, stopped_by}

-- a place in memory: an instance and an offset
pub record Spot : Type 0 where
  pub instance : ℕ
  pub offset : ℕ

abbrev pub storage_of : Option Instance → Storage
storage_of None = static
storage_of (Some i) = i.storage

abbrev pub storage_at : Memory → ℕ → Storage
storage_at memory i = storage_of (slice_get memory i)

abbrev pub is_literal : Storage → Bool
is_literal literal = true
is_literal _ = false

abbrev pub is_allocated : Storage → Bool
is_allocated allocated = true
is_allocated _ = false

-- the instance with other bytes
abbrev pub with_bytes : Option Instance → List Byte → Memory → ℕ → Memory
with_bytes None bytes memory i = memory
with_bytes (Some it) bytes memory i = slice_set memory i (record it { bytes = bytes })

abbrev pub set_bytes : Memory → ℕ → List Byte → Memory
set_bytes memory i bytes = with_bytes (slice_get memory i) bytes memory i

-- the bytes lie within the bounds of the pointer, and a literal is not written
abbrev pub touched_live : World → ℕ → ℕ → ℕ → ℕ → ℕ → Bool → Reply Spot
touched_live w i offset lo hi size writes =
    cond (nat_le lo offset && nat_le (offset + size) hi)
    (cond (writes && is_literal (storage_at w.memory i)) (stopped_by w rule.Strmod) (goes (record { instance = i; offset = offset }) w))
    (stopped_by w rule.Invptr)

abbrev pub touched_by : World → Life → ℕ → ℕ → ℕ → ℕ → ℕ → Bool → Reply Spot
touched_by w live i offset lo hi size writes = touched_live w i offset lo hi size writes
touched_by w ended i offset lo hi size writes = stopped_by w rule.Nullref
touched_by w freed i offset lo hi size writes = stopped_by w rule.Accfree

-- so many bytes at a pointer are read or written
abbrev pub touched : World → MachinePointer → ℕ → Bool → Reply Spot
touched w null size writes = stopped_by w rule.Nullref
touched w (into i offset lo hi) size writes = touched_by w (life_at w.memory i) i offset lo hi size writes
