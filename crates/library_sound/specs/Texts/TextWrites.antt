-- When a text that is written into the bases of a set leaves a row that stands for the memory behind it.
use Rattle.std.specs.Prelude.{◌≡◌, ℕ, ◌+◌, ◌<◌, ◌≤◌, ℤ, pos, Bool, true, Some, List, [], ◌∷◌, length}
use Rattle.cc_base.specs.Lattices.{LatticeOf}
use Rattle.cc_base.specs.IntegerDomains.{IntegersOf}
use Rattle.cfg.specs.declared.programs.Flow.{Flow}
use Rattle.value_domain.specs.Values.LabelSets.{labels_leq}
use Rattle.value_domain.specs.declared.values.row_cells.Cell.{Cell}
use Rattle.store_objects.specs.LiveBases.{has_base, is_one_instance}
use Rattle.transfer_library_writes.specs.TextWrites.{character_value, write_text}
use Rattle.transfer_library_writes.specs.declared.text_writes.TextWrite.{TextWrite}
use Rattle.transfer_library_writes.specs.declared.text_writes.ZeroRule.{ZeroRule}
use Rattle.transfer_library_writes.specs.declared.text_writes.ZeroRule.TheVariants.{Text, Append, Any}
use Rattle.memory_model.specs.Memory.Labels.{Labels}
use Rattle.memory_model.specs.Memory.Bytes.{number, Byte}
use Rattle.memory_model.specs.Memory.Instances.{Memory, byte_at}
use Rattle.memory_model.specs.Memory.Numbers.{Labelled, number_of}
use Rattle.store_sound.specs.Concretization.FirstZeroBytes.{end, character, seen_as}
use Rattle.store_sound.specs.Concretization.Matching.{number_in}
use Rattle.store_sound.specs.Concretization.SeenLabels.{as_set}
use Rattle.store_sound.specs.Concretization.SoundMemory.{IsMemoryOf}
use Rattle.store_sound.specs.Concretization.ValueMeaning.{Naming}
use Rattle.store_sound.specs.Concretization.RowMeaning.{MachineState, IsLiveOf, InGamma}
use Rattle.store_sound.specs.Operations.Shapes.{IsLaidOut}
use Rattle.store_sound.specs.Regions.RegionWrites.{IsRegion}

-- what the analysis knows of a text, or of bytes, that were written: where they can begin and lie, and the characters
pub record IsTextWrite {I : Type 0} (l : LatticeOf I) (n : IntegersOf I) (gamma : I → ℤ → Type 0) (write : TextWrite I) (new : Memory) (i offset size : ℕ) : Type 0 where
  pub window : (o : ℕ) → offset ≤ o → o < offset + size → (write.window.lo ≤ o) × (o ≤ write.window.hi)
  pub start : (write.start.lo ≤ offset) × (offset ≤ write.start.hi)
  pub one_byte : write.one_byte ≡ true → size ≤ 1
  pub numbers : (a : ℕ) (x : Byte) → offset ≤ a → a < offset + size → byte_at new i a ≡ Some x → (k : ℕ) × (la : Labels) × (x.content ≡ number k la) × (labels_leq (as_set la) write.characters.labels ≡ true)
  pub characters : (a : ℕ) (y : Labelled) (x : Byte) → offset ≤ a → a < offset + size → byte_at new i a ≡ Some x → x.content ≡ number_in y → (signed : Bool) → gamma (character_value l n write.characters signed).num (number_of signed (y ∷ []))

-- so many characters were written, and a zero behind them
pub record IsWrittenText (new : Memory) (i offset size t : ℕ) : Type 0 where
  pub long : size ≡ t + 1
  pub text : (x : ℕ) (b : Byte) → x < t → byte_at new i (offset + x) ≡ Some b → seen_as b.content ≡ character
  pub closed : (b : Byte) → byte_at new i (offset + t) ≡ Some b → seen_as b.content ≡ end

module _ {I : Type 0} (l : LatticeOf I) (n : IntegersOf I) (gamma : I → ℤ → Type 0) where
  -- the rule for first zeros holds of what was written: a text of such a length, or anything; of texts that are
  -- appended nothing is said
  abbrev pub HoldsOf : Memory → ℕ → ℕ → ℕ → ZeroRule I → Type 0
  HoldsOf new i offset size (Text length) = (t : ℕ) × IsWrittenText new i offset size t × gamma length (pos t)
  HoldsOf new i offset size (Append length unknown) = ⊥
  HoldsOf new i offset size Any = Unit {0}

  -- the row behind a write stands for the memory behind it
  abbrev pub TextWritesStand : Type 0
  TextWritesStand = (flow : Flow) (naming : Naming) (row : List (Cell I)) (state : MachineState) → IsLaidOut flow (length row) → InGamma l n gamma flow naming row state
      → (new : Memory) (i offset size : ℕ) → IsRegion state.memory new i offset size → IsMemoryOf flow.model flow.bases.items naming new
      → (write : TextWrite I) → IsTextWrite l n gamma write new i offset size → HoldsOf new i offset size write.zero
      → ((b : ℕ) → naming i ≡ Some b → 0 < size → has_base write.bases b ≡ true)
      → (is_one_instance flow.bases.items write.bases ≡ true → 0 < size → (b j : ℕ) → has_base write.bases b ≡ true → IsLiveOf naming state.memory b j → j ≡ i)
      → InGamma l n gamma flow naming (write_text l n flow write row) (record { memory = new; temps = state.temps; entered = state.entered })
