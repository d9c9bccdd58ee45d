-- What instances of a program are to the machines.
use Rattle.std.specs.Prelude.{ℕ, zero, suc, Bool, cond, List, [], ◌∷◌}
use Rattle.c_layout.specs.declared.data_model.Model.{Model}
use Rattle.memory_model.specs.Memory.Bytes.{Byte}
use Rattle.memory_model.specs.Memory.Instances.{Storage, static, automatic, allocated, literal, Life, live, ended, freed, Instance, Memory}
use Rattle.interp_memory.specs.ByteViews.{bytes_view}
use Rattle.interp_memory.specs.declared.byte_forms.InstKind.{InstKind}
use Rattle.interp_memory.specs.declared.byte_forms.InstKind.TheVariants as kind
use Rattle.interp_memory.specs.declared.byte_forms.InstState.{InstState}
use Rattle.interp_memory.specs.declared.byte_forms.InstState.TheVariants as state
use Rattle.interp_memory.specs.declared.instances.Instance as held

abbrev pub storage_view : InstKind → Storage
storage_view kind.Static = static
storage_view kind.Automatic = automatic
storage_view kind.Heap = allocated
storage_view kind.Literal = literal

abbrev pub life_view : InstState → Life
life_view state.Live = live
life_view state.Ended = ended
life_view state.Freed = freed

abbrev pub instance_view : held.Instance → Instance
instance_view i = record { storage = storage_view i.kind; life = life_view i.state; bytes = bytes_view i.bytes.items }

-- a data model and the memory under it
pub record Instances : Type 0 where
  pub model : Model
  pub memory : Memory

abbrev pub remembering : Instances → Memory → Instances
remembering it memory = record it { memory = memory }

-- a byte in the place of another one; a declared object or a literal keeps its tags
abbrev pub byte_put : Bool → Byte → Byte → Byte
byte_put takes_tag new old = record { content = new.content; tag = cond takes_tag new.tag old.tag }

-- bytes with another one at a place
abbrev pub with_byte : Bool → Byte → List Byte → ℕ → List Byte
with_byte takes_tag new [] at = []
with_byte takes_tag new (b ∷ bs) zero = byte_put takes_tag new b ∷ bs
with_byte takes_tag new (b ∷ bs) (suc at) = b ∷ with_byte takes_tag new bs at
