-- When a text that is appended to another leaves a row that stands for the memory behind it.
use Rattle.std.specs.Prelude.{◌≡◌, ℕ, ◌-◌, ◌<◌, ℤ, pos, true, false, Some, List, length, slice_get}
use Rattle.cc_base.specs.Lattices.{LatticeOf}
use Rattle.cc_base.specs.IntegerDomains.{IntegersOf}
use Rattle.c_layout.specs.declared.shapes.BaseInfo.{BaseInfo}
use Rattle.c_layout.specs.declared.shapes.ZeroPart.{ZeroPart}
use Rattle.cfg.specs.declared.programs.Flow.{Flow}
use Rattle.pointer_domain.specs.declared.base_sets.Bases.{Bases}
use Rattle.value_domain.specs.declared.values.row_cells.Cell.{Cell}
use Rattle.store_objects.specs.LiveBases.{has_base, is_one_instance}
use Rattle.transfer_library_writes.specs.TextWrites.{write_text}
use Rattle.transfer_library_writes.specs.declared.text_writes.TextWrite.{TextWrite}
use Rattle.transfer_library_writes.specs.declared.text_writes.ZeroRule.TheVariants.{Append}
use Rattle.memory_model.specs.Memory.Instances.{Memory, bytes_at}
use Rattle.store_sound.specs.Concretization.FirstZeroBytes.{first_zero}
use Rattle.store_sound.specs.Concretization.SoundMemory.{IsMemoryOf}
use Rattle.store_sound.specs.Concretization.ValueMeaning.{Naming}
use Rattle.store_sound.specs.Concretization.RowMeaning.{MachineState, array_bytes, IsLiveOf, InGamma}
use Rattle.store_sound.specs.Operations.Shapes.{IsLaidOut}
use Rattle.store_sound.specs.Regions.RegionWrites.{IsRegion}
use Rattle.library_sound.specs.Texts.TextWrites.{IsTextWrite, IsWrittenText}
use Rattle.library_sound.specs.Appends.ApartTexts.{HasByte}

-- the text that was there ends at the offset, but where its end is unknown: in each array that has the byte it is the
-- first zero
pub record EndsAt (flow : Flow) (naming : Naming) (old : Memory) (i offset : ℕ) (unknown : Bases) : Type 0 where
  pub zero : (b z : ℕ) (base : BaseInfo) (part : ZeroPart) → naming i ≡ Some b → has_base unknown b ≡ false → slice_get flow.bases.items b ≡ Some base → slice_get base.shape.zeros z ≡ Some part → HasByte part offset → first_zero (array_bytes part (bytes_at old i)) ≡ Some (offset - part.offset)

module _ {I : Type 0} (l : LatticeOf I) (n : IntegersOf I) (gamma : I → ℤ → Type 0) where
  -- the row behind a write stands for the memory behind it
  abbrev pub AppendWritesStand : Type 0
  AppendWritesStand = (flow : Flow) (naming : Naming) (row : List (Cell I)) (state : MachineState) → IsLaidOut flow (length row) → InGamma l n gamma flow naming row state
      → (new : Memory) (i offset size : ℕ) → IsRegion state.memory new i offset size → IsMemoryOf flow.model flow.bases.items naming new
      → (write : TextWrite I) → IsTextWrite l n gamma write new i offset size
      → (added : I) (unknown : Bases) → write.zero ≡ Append added unknown → (t : ℕ) → IsWrittenText new i offset size t → gamma added (pos t) → EndsAt flow naming state.memory i offset unknown
      → ((b : ℕ) → naming i ≡ Some b → 0 < size → has_base write.bases b ≡ true)
      → (is_one_instance flow.bases.items write.bases ≡ true → 0 < size → (b j : ℕ) → has_base write.bases b ≡ true → IsLiveOf naming state.memory b j → j ≡ i)
      → InGamma l n gamma flow naming (write_text l n flow write row) (record { memory = new; temps = state.temps; entered = state.entered })
