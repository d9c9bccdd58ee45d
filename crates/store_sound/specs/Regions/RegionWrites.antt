-- When a write of some bytes of one instance, base by base, leaves a row that stands for the memory behind it.
use Rattle.std.specs.Prelude.{◌≡◌, ℕ, ◌+◌, ◌<◌, ◌≤◌, ℤ, true, cond, Some, List, length, slice_get}
use Rattle.cc_base.specs.Lattices.{LatticeOf}
use Rattle.cc_base.specs.IntegerDomains.{IntegersOf}
use Rattle.c_layout.specs.declared.leaf_lists.Leaf.{Leaf}
use Rattle.c_layout.specs.declared.shapes.BaseInfo.{BaseInfo}
use Rattle.c_layout.specs.declared.shapes.ZeroPart.{ZeroPart}
use Rattle.cfg.specs.WellFormed.{base_values}
use Rattle.cfg.specs.declared.programs.Flow.{Flow}
use Rattle.pointer_domain.specs.declared.base_sets.Bases.{Bases}
use Rattle.value_domain.specs.declared.values.row_cells.Cell.{Cell}
use Rattle.store_cells.specs.ClassNumbers.{class_at}
use Rattle.store_objects.specs.LiveBases.{has_base}
use Rattle.store_cells.specs.RowPositions.{leaf_position, class_position, zero_position, state_position, cell_at, value_at, zero_at, state_at}
use Rattle.store_cells.specs.Walks.{walk}
use Rattle.memory_model.specs.Memory.Instances.{Memory, bytes_at, byte_at, life_at}
use Rattle.store_sound.specs.Concretization.SoundMemory.{IsMemoryOf}
use Rattle.store_sound.specs.Concretization.ValueMeaning.{Naming, InGammaZero, InGammaState}
use Rattle.store_sound.specs.Concretization.RowMeaning.{MachineState, array_bytes, IsLiveOf, InGammaLeaf, InGammaClass, InGamma}
use Rattle.store_sound.specs.Operations.Shapes.{IsLaidOut}

-- memory in which some bytes of an instance, from an offset on, were written
pub record IsRegion (old new : Memory) (i offset size : ℕ) : Type 0 where
  pub lives : (j : ℕ) → life_at new j ≡ life_at old j
  pub lengths : (j : ℕ) → length (bytes_at new j) ≡ length (bytes_at old j)
  pub made : length new ≡ length old
  pub fits : offset + size ≤ length (bytes_at old i)
  pub outside : (j o : ℕ) → (j ≡ i → offset ≤ o → o < offset + size → ⊥) → byte_at new j o ≡ byte_at old j o

module _ {I : Type 0} where
  -- the operation writes from one position to below another alone
  pub record WritesWithin (lo hi : ℕ) (f : List (Cell I) → List (Cell I)) : Type 0 where
    pub long : (row : List (Cell I)) → length (f row) ≡ length row
    pub keeps : (row : List (Cell I)) (at : ℕ) → (lo ≤ at → at < hi → ⊥) → cell_at (f row) at ≡ cell_at row at

  -- each base of a set is written in turn
  abbrev pub write_base_of : Bases → (BaseInfo → ℕ → List (Cell I) → List (Cell I)) → BaseInfo → ℕ → List (Cell I) → List (Cell I)
  write_base_of set f base number row = cond (has_base set number) (f base number row) row

  abbrev pub write_bases : List BaseInfo → Bases → (BaseInfo → ℕ → List (Cell I) → List (Cell I)) → List (Cell I) → List (Cell I)
  write_bases bases set f row = walk (write_base_of set f) 0 bases row

module _ {I : Type 0} (l : LatticeOf I) (n : IntegersOf I) (gamma : I → ℤ → Type 0) (flow : Flow) (naming : Naming) where
  -- the cells of a base stand for its instances in a memory
  pub record InGammaBase (memory : Memory) (b : ℕ) (base : BaseInfo) (row : List (Cell I)) : Type 0 where
    pub leaves : (j : ℕ) (leaf : Leaf) → slice_get base.shape.cells j ≡ Some leaf → InGammaLeaf gamma flow naming memory b leaf (value_at l n row (leaf_position base j))
    pub classes : (c : ℕ) → base.shape.heap ≡ true → c < 6 → InGammaClass gamma flow naming memory b base (class_at c) (value_at l n row (class_position base c))
    pub zeros : (z i : ℕ) (part : ZeroPart) → slice_get base.shape.zeros z ≡ Some part → IsLiveOf naming memory b i → InGammaZero gamma naming memory (zero_at l n row (zero_position base z)) (array_bytes part (bytes_at memory i))
    pub states : (i : ℕ) → base.shape.heap ≡ true → naming i ≡ Some b → InGammaState gamma naming memory (state_at l n row (state_position base)) (life_at memory i) (length (bytes_at memory i))

module _ {I : Type 0} (l : LatticeOf I) (n : IntegersOf I) (gamma : I → ℤ → Type 0) where
  -- where the write of each base of the set stands for the region, and the region's base is one of them, so does all
  abbrev pub RegionWritesStand : Type 0
  RegionWritesStand = (flow : Flow) (naming : Naming) (row : List (Cell I)) (state : MachineState) → IsLaidOut flow (length row) → InGamma l n gamma flow naming row state
      → (new : Memory) (i offset size : ℕ) → IsRegion state.memory new i offset size → IsMemoryOf flow.model flow.bases.items naming new
      → (set : Bases) (f : BaseInfo → ℕ → List (Cell I) → List (Cell I)) → ((b : ℕ) (base : BaseInfo) → slice_get flow.bases.items b ≡ Some base → WritesWithin base.first (base.first + base_values base) (f base b))
      → ((b : ℕ) → naming i ≡ Some b → 0 < size → has_base set b ≡ true)
      → ((b : ℕ) (base : BaseInfo) (r : List (Cell I)) → slice_get flow.bases.items b ≡ Some base → has_base set b ≡ true → length r ≡ length row → InGammaBase l n gamma flow naming state.memory b base r → InGammaBase l n gamma flow naming new b base (f base b r))
      → InGamma l n gamma flow naming (write_bases flow.bases.items set f row) (record { memory = new; temps = state.temps; entered = state.entered })
