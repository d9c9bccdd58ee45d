-- Objects of static storage at the start of a run: what the row of the entry has of one, and what its bytes are.
use Rattle.std.specs.Prelude.{◌≡◌, ◌<◌, ◌≤◌, ◌+◌, ℕ, ℤ, true, Option, Some, List, [], ◌∷◌, length, map, slice_get}
use Rattle.cc_base.specs.Lattices.{LatticeOf}
use Rattle.cc_base.specs.IntegerDomains.{IntegersOf}
use Rattle.cc_base.specs.IntegerTypes.{in_type}
use Rattle.cc_base.specs.declared.limit_table.Limits.{Limits}
use Rattle.c_layout.specs.CheckedUnits.{UnitView, static_store_view}
use Rattle.c_layout.specs.declared.leaf_lists.Class.{Class}
use Rattle.c_layout.specs.declared.shapes.BaseInfo.{BaseInfo}
use Rattle.c_layout.specs.declared.shapes.BaseKind.TheVariants.{Static}
use Rattle.c_layout.specs.declared.checked_tree.checked_units.StaticBase.{StaticBase}
use Rattle.c_layout.specs.declared.checked_tree.checked_units.StaticStore.{StaticStore}
use Rattle.c_layout.specs.declared.checked_tree.checked_units.StaticStore.TheVariants as one
use Rattle.c_layout.specs.declared.checked_tree.checked_units.StaticValue.{StaticValue}
use Rattle.c_layout.specs.declared.checked_tree.checked_units.StaticValue.TheVariants.{Number, Null, Address}
use Rattle.cfg.specs.ModelKinds.{is_int_type}
use Rattle.cfg.specs.BaseShapes.{has_room}
use Rattle.cfg.specs.WellFormed.{is_well_formed}
use Rattle.cfg.specs.declared.programs.Flow.{Flow}
use Rattle.value_domain.specs.declared.values.row_cells.Cell.{Cell}
use Rattle.store_objects.specs.ObjectLives.{clear}
use Rattle.transfer_system.specs.StartRows.{base_in, static_class, start_stores}
use Rattle.memory_model.specs.Memory.Labels.{no_labels}
use Rattle.memory_model.specs.Memory.ScalarSizes.{class_bytes}
use Rattle.memory_model.specs.Memory.Bytes.{number}
use Rattle.memory_model.specs.Memory.Instances.{Memory, live, bytes_at, life_at}
use Rattle.memory_model.specs.Memory.Tags.{tag_of, tag_at}
use Rattle.memory_model.specs.Effects.ObjectEffects.{all_of}
use Rattle.memory_model.specs.Effects.UnitStarts.{base_instance, all_stored}
use Rattle.store_sound.specs.Concretization.ValueMeaning.{Naming}
use Rattle.store_sound.specs.Concretization.SoundMemory.{IsMemoryOf, AreEntered}
use Rattle.store_sound.specs.Programs.Premises.{HasPremises}
use Rattle.store_sound.specs.Regions.RegionWrites.{InGammaBase}
use Rattle.library_sound.specs.SoundSteps.{AreShort}
use Rattle.library_sound.specs.Spelling.SpellSteps.{SpellsBytes}

module _ (u : UnitView) (flow : Flow) (naming : Naming) (memory : Memory) where
  -- an address constant: the object or literal that it names is there, with the base and the size that the program
  -- has for it; the offset lies within the bounds, and these within the object
  pub record IsTarget (object : StaticBase) (offset lo hi : ℕ) : Type 0 where
    pub base : ℕ
    pub size : ℕ
    pub is : base_in flow.initial.items object ≡ Some (base, size)
    pub named : naming (base_instance u object) ≡ Some base
    pub alive : life_at memory (base_instance u object) ≡ live
    pub long : length (bytes_at memory (base_instance u object)) ≡ size
    pub above : lo ≤ offset
    pub below : offset ≤ hi
    pub within : hi ≤ size

  -- a number is of its type
  abbrev pub IsValueOf : StaticValue → Type 0
  IsValueOf (Number k kind) = (is_int_type flow.model kind ≡ true) × (in_type kind k ≡ true)
  IsValueOf Null = Unit {0}
  IsValueOf (Address object offset lo hi) = IsTarget object offset lo hi

  -- the bytes from an offset on are those of a scalar of the class
  abbrev pub IsScalarOf : BaseInfo → Class → ℕ → Type 0
  IsScalarOf info class offset = (k : ℕ) → k < class_bytes flow.model class → tag_at flow.model info.shape.cells (offset + k) ≡ tag_of class k

  -- a value is stored over a scalar of its class that lies in the object, a text over characters
  abbrev pub IsStoreOf : ℕ → BaseInfo → StaticStore → Type 0
  IsStoreOf b info (one.Value offset v) = IsValueOf v × (IsScalarOf info (static_class v).0 offset × (offset + class_bytes flow.model (static_class v).0 ≤ info.size))
  IsStoreOf b info (one.Spell offset room text) = (has_room offset room (Some info) ≡ true) × SpellsBytes flow b offset room text

  abbrev pub AreStoresOf : ℕ → BaseInfo → List StaticStore → Type 0
  AreStoresOf b info [] = Unit {0}
  AreStoresOf b info (s ∷ ss) = IsStoreOf b info s × AreStoresOf b info ss

-- an object that is entered under the names, of static storage
pub record IsStaticObject (flow : Flow) (entered : ℕ → Option ℕ) (b i : ℕ) (info : BaseInfo) : Type 0 where
  pub among : slice_get flow.bases.items b ≡ Some info
  pub static : info.kind ≡ Static
  pub there : entered b ≡ Some i

module _ {I : Type 0} (l : LatticeOf I) (n : IntegersOf I) (gamma : I → ℤ → Type 0) (flow : Flow) where
  -- the cells of an object that is cleared and initialized stand for its bytes: all zero, and then the stores in order
  abbrev pub StaticObjectsStand : Type 0
  StaticObjectsStand = (limits : Limits) → is_well_formed limits flow ≡ true → HasPremises flow → (u : UnitView) → u.model ≡ flow.model
      → (naming : Naming) (memory : Memory) (entered : ℕ → Option ℕ) → IsMemoryOf flow.model flow.bases.items naming memory → AreEntered flow.bases.items naming memory entered → AreShort flow.model memory
      → (b i : ℕ) (info : BaseInfo) → IsStaticObject flow entered b i info → (stores : List StaticStore) → AreStoresOf u flow naming memory b info stores → bytes_at memory i ≡ all_stored u (map static_store_view stores) (all_of (number 0 no_labels) (bytes_at memory i))
      → (row after : List (Cell I)) → length row ≡ flow.width → start_stores l n flow b info.size stores (clear l n flow.bases.items b row) ≡ Some after → InGammaBase l n gamma flow naming memory b info after
