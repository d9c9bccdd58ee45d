-- Parameters of the entry at the start of a run.
use Rattle.std.specs.Prelude.{◌≡◌, ℕ, ℤ, true, Some, List, [], ◌∷◌, length, slice_get}
use Rattle.cc_base.specs.Lattices.{LatticeOf}
use Rattle.cc_base.specs.IntegerDomains.{IntegersOf}
use Rattle.cc_base.specs.declared.int_types.IntType.{IntType}
use Rattle.c_layout.specs.Leaves.{class_of}
use Rattle.c_layout.specs.declared.leaf_lists.Leaf.{Leaf}
use Rattle.c_layout.specs.declared.shapes.BaseInfo.{BaseInfo}
use Rattle.c_layout.specs.declared.shapes.BaseKind.TheVariants.{Automatic}
use Rattle.cfg.specs.ModelKinds.{is_int_type}
use Rattle.cfg.specs.declared.programs.Flow.{Flow}
use Rattle.value_domain.specs.declared.values.row_cells.Cell.{Cell}
use Rattle.transfer_system.specs.StartRows.{put_parameter}
use Rattle.memory_model.specs.Memory.Labels.{input_labels}
use Rattle.memory_model.specs.Memory.Bytes.{number, Byte}
use Rattle.memory_model.specs.Memory.Instances.{Memory, live, bytes_at, life_at}
use Rattle.store_sound.specs.Concretization.ValueMeaning.{Naming}
use Rattle.store_sound.specs.Concretization.SoundMemory.{IsMemoryOf}
use Rattle.store_sound.specs.Programs.Premises.{HasPremises}
use Rattle.store_sound.specs.Regions.RegionWrites.{InGammaBase}

-- an instance of a parameter of an integer type: one scalar, whose bytes are numbers with the labels of input
pub record IsParameterObject (flow : Flow) (naming : Naming) (memory : Memory) (b i : ℕ) (info : BaseInfo) (kind : IntType) : Type 0 where
  pub among : slice_get flow.bases.items b ≡ Some info
  pub automatic : info.kind ≡ Automatic
  pub typed : is_int_type flow.model kind ≡ true
  pub leaf : Leaf
  pub cells : info.shape.cells ≡ leaf ∷ []
  pub class : leaf.class ≡ class_of kind
  pub sign : leaf.signed ≡ kind.signed
  pub arrays : info.shape.zeros ≡ []
  pub named : naming i ≡ Some b
  pub alive : life_at memory i ≡ live
  pub input : (o : ℕ) (x : Byte) → slice_get (bytes_at memory i) o ≡ Some x → (k : ℕ) × (x.content ≡ number k (input_labels kind))

module _ {I : Type 0} (l : LatticeOf I) (n : IntegersOf I) (gamma : I → ℤ → Type 0) (flow : Flow) where
  -- any number of its type, with the labels of input
  abbrev pub ParametersStand : Type 0
  ParametersStand = HasPremises flow → (naming : Naming) (memory : Memory) → IsMemoryOf flow.model flow.bases.items naming memory
      → (b i : ℕ) (info : BaseInfo) (kind : IntType) → IsParameterObject flow naming memory b i info kind
      → (row : List (Cell I)) → length row ≡ flow.width → InGammaBase l n gamma flow naming memory b info (put_parameter l n kind (slice_get flow.bases.items b) row)
