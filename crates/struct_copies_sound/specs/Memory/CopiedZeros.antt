-- When the first zeros of a base stand for its arrays behind a copy of bytes from one instance to another.
use Rattle.std.specs.Prelude.{◌≡◌, ◌+◌, ◌<◌, ◌≤◌, ◌^◌, ℕ, ℤ, Option, Some, List, length, slice_get}
use Rattle.cc_base.specs.Lattices.{LatticeOf}
use Rattle.cc_base.specs.IntegerDomains.{IntegersOf}
use Rattle.c_layout.specs.declared.shapes.BaseInfo.{BaseInfo}
use Rattle.c_layout.specs.declared.shapes.ZeroPart.{ZeroPart}
use Rattle.value_domain.specs.declared.values.row_cells.Cell.{Cell}
use Rattle.cfg.specs.WellFormed.{base_values}
use Rattle.store_cells.specs.RowPositions.{zero_position, zero_at}
use Rattle.store_cells.specs.declared.access_windows.Window.{Window}
use Rattle.memory_model.specs.Memory.Bytes.{Byte}
use Rattle.memory_model.specs.Memory.Instances.{Memory, bytes_at, byte_at}
use Rattle.store_sound.specs.Concretization.RowMeaning.{array_bytes, IsLiveOf}
use Rattle.store_sound.specs.Concretization.ValueMeaning.{Naming, InGammaZero}
use Rattle.store_sound.specs.Operations.Shapes.{AreLaid}
use Rattle.store_sound.specs.Regions.RegionWrites.{IsRegion}
use Rattle.store_structs.specs.CopyZeros.{Exact, copy_zeros}

-- so many bytes of an instance have the contents that those of another one had
pub record ComesFrom (old new : Memory) (i to j from size : ℕ) : Type 0 where
  pub region : IsRegion old new i to size
  pub fits : from + size ≤ length (bytes_at old j)
  pub same : (k : ℕ) (a b : Byte) → k < size → byte_at new i (to + k) ≡ Some a → byte_at old j (from + k) ≡ Some b → a.content ≡ b.content
  -- both sides are the same bytes, or have none in common
  pub apart : (x : ℕ) → j ≡ i → to ≤ x → x < to + size → from ≤ x → x < from + size → to ≡ from

module _ {I : Type 0} (l : LatticeOf I) (n : IntegersOf I) (gamma : I → ℤ → Type 0) where
  abbrev pub ZeroStands : Naming → Memory → BaseInfo → List (Cell I) → ℕ → ZeroPart → ℕ → Type 0
  ZeroStands naming memory base row z part i = InGammaZero gamma naming memory (zero_at l n row (zero_position base z)) (array_bytes part (bytes_at memory i))

  -- the copy is exact: between these offsets of the only instance of the base and of an instance of the source
  pub record IsExactly (naming : Naming) (old : Memory) (bases : List BaseInfo) (b : ℕ) (base : BaseInfo) (row : List (Cell I)) (i to j from size : ℕ) (e : Exact) : Type 0 where
    pub from_is : e.from ≡ from
    pub to_is : e.to ≡ to
    pub size_is : e.size ≡ size
    pub sole : (h : ℕ) → IsLiveOf naming old b h → h ≡ i
    pub number : ℕ
    pub among : slice_get bases number ≡ Some e.source
    pub named : number ≡ b → j ≡ i
    pub fits : e.source.first + base_values e.source ≤ length row
    pub zeros : (z : ℕ) (part : ZeroPart) → slice_get e.source.shape.zeros z ≡ Some part → ZeroStands naming old e.source row z part j

  -- where the arrays of a base have their first zeros in a row, they have them behind the copy: those that the window
  -- of the copied bytes meets take the source's where the copy is exact
  abbrev pub CopiedZerosStand : Type 0
  CopiedZerosStand = (naming : Naming) (bases : List BaseInfo) (behind : ℕ) → AreLaid bases behind → (old new : Memory) (i to j from size : ℕ) → ComesFrom old new i to j from size → ((h : ℕ) → length (bytes_at old h) ≤ 2 ^ 63)
      → (b : ℕ) (base : BaseInfo) → slice_get bases b ≡ Some base → (w : Window) → ((x : ℕ) → to ≤ x → x < to + size → (w.lo ≤ x) × (x ≤ w.hi)) → (row : List (Cell I)) → base.first + base_values base ≤ length row
      → (exact : Option Exact) → ((e : Exact) → exact ≡ Some e → IsExactly naming old bases b base row i to j from size e × (0 < size → (x : ℕ) → w.lo ≤ x → x ≤ w.hi → (to ≤ x) × (x < to + size)))
      → (z : ℕ) (part : ZeroPart) → slice_get base.shape.zeros z ≡ Some part → ((h : ℕ) → IsLiveOf naming old b h → ZeroStands naming old base row z part h)
      → (h : ℕ) → IsLiveOf naming old b h → ZeroStands naming new base (copy_zeros l n base w exact row) z part h
