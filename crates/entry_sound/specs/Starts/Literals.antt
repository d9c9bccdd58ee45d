-- String literals at the start of a run: what the row of the entry has of one, and what its bytes are.
use Rattle.std.specs.Prelude.{◌≡◌, ◌+◌, ℕ, ℤ, true, Some, List, [], ◌∷◌, ◌++◌, length, map, slice_get}
use Rattle.cc_base.specs.Lattices.{LatticeOf}
use Rattle.cc_base.specs.IntegerDomains.{IntegersOf}
use Rattle.cc_base.specs.declared.limit_table.Limits.{Limits}
use Rattle.c_layout.specs.declared.shapes.BaseInfo.{BaseInfo}
use Rattle.c_layout.specs.declared.shapes.BaseKind.TheVariants.{Literal}
use Rattle.cfg.specs.BaseShapes.{has_room}
use Rattle.cfg.specs.WellFormed.{is_well_formed}
use Rattle.cfg.specs.declared.programs.Flow.{Flow}
use Rattle.value_domain.specs.declared.values.row_cells.Cell.{Cell}
use Rattle.store.specs.Spelling.{spell}
use Rattle.store_monotone.specs.Operations.StoreLaws.{AreBytes}
use Rattle.memory_model.specs.Memory.Labels.{no_labels}
use Rattle.memory_model.specs.Memory.Bytes.{number}
use Rattle.memory_model.specs.Memory.Instances.{Memory, live, bytes_at, life_at}
use Rattle.memory_model.specs.Effects.ObjectEffects.{characters}
use Rattle.memory_model.specs.Effects.UnitStarts.{character_byte}
use Rattle.store_sound.specs.Concretization.ValueMeaning.{Naming}
use Rattle.store_sound.specs.Concretization.SoundMemory.{IsMemoryOf}
use Rattle.store_sound.specs.Programs.Premises.{HasPremises}
use Rattle.store_sound.specs.Regions.RegionWrites.{InGammaBase}

-- an instance of a literal: its characters and a closing zero
pub record IsLiteralObject (flow : Flow) (naming : Naming) (memory : Memory) (b i : ℕ) (info : BaseInfo) (text : List ℕ) : Type 0 where
  pub among : slice_get flow.bases.items b ≡ Some info
  pub kind : info.kind ≡ Literal
  pub size : info.size ≡ length text + 1
  pub room : has_room 0 info.size (Some info) ≡ true
  pub named : naming i ≡ Some b
  pub alive : life_at memory i ≡ live
  pub small : AreBytes text
  pub bytes : bytes_at memory i ≡ map character_byte (characters text ++ number 0 no_labels ∷ [])

module _ {I : Type 0} (l : LatticeOf I) (n : IntegersOf I) (gamma : I → ℤ → Type 0) (flow : Flow) where
  -- the cells of a literal that is spelled stand for its bytes, whatever they were before
  abbrev pub LiteralsStand : Type 0
  LiteralsStand = (limits : Limits) → is_well_formed limits flow ≡ true → HasPremises flow → (naming : Naming) (memory : Memory) → IsMemoryOf flow.model flow.bases.items naming memory
      → (b i : ℕ) (info : BaseInfo) (text : List ℕ) → IsLiteralObject flow naming memory b i info text
      → (row : List (Cell I)) → length row ≡ flow.width → InGammaBase l n gamma flow naming memory b info (spell l n flow.bases.items b 0 info.size text row)
