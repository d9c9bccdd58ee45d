-- What the bases of a flow have to be like.
use Rattle.cfg.specs.WellFormed.{base_values}
use Rattle.std.specs.Prelude.{◌≡◌, ◌<◌, ◌≤◌, ◌+◌, ◌-◌, ◌^◌, ◌⊎◌, ℕ, Bool, true, false, ◌&&◌, ◌==◌, Some, None, List, length, slice_get, count_by}
use Rattle.cfg.specs.declared.programs.Flow.{Flow}
use Rattle.c_layout.specs.declared.data_model.Model.{Model}
use Rattle.c_layout.specs.declared.shapes.ZeroPart.{ZeroPart}
use Rattle.c_layout.specs.declared.leaf_lists.Class.TheVariants.{Char}
use Rattle.memory_model.specs.Memory.Tags.{tag_of, tag_at}
use Rattle.c_layout.specs.declared.leaf_lists.Class.{Class}
use Rattle.c_layout.specs.declared.leaf_lists.Leaf.{Leaf}
use Rattle.c_layout.specs.declared.shapes.BaseInfo.{BaseInfo}
use Rattle.store_cells.specs.ClassNumbers.{same_class}
use Rattle.store_cells.specs.declared.access_windows.Window.{Window}
use Rattle.store.specs.LeafSelection.{covered_bytes, meets_padding}
use Rattle.store_objects.specs.LiveBases.{most_bases}
use Rattle.store_sound.specs.Concretization.SoundMemory.{storage_for}
use Rattle.memory_model.specs.Effects.Touches.{is_allocated}

-- the leaves of a class at an offset
abbrev pub at_offset : Class → ℕ → Leaf → Bool
at_offset class x leaf = same_class leaf.class class && (leaf.offset == x)

pub record IsShaped (base : BaseInfo) : Type 0 where
  pub kind : is_allocated (storage_for base.kind) ≡ base.shape.heap
  pub strides : (j : ℕ) (leaf : Leaf) → slice_get base.shape.cells j ≡ Some leaf → 0 < leaf.stride
  -- the leaves of the heap stand at one place each, those of a class at places of their own
  pub single : base.shape.heap ≡ true → (j : ℕ) (leaf : Leaf) → slice_get base.shape.cells j ≡ Some leaf → leaf.count ≡ 1
  pub apart : base.shape.heap ≡ true → (class : Class) (x : ℕ) → count_by (at_offset class x) base.shape.cells ≤ 1

pub record AreShaped (bases : List BaseInfo) : Type 0 where
  pub few : length bases ≤ most_bases
  pub each : (b : ℕ) (base : BaseInfo) → slice_get bases b ≡ Some base → IsShaped base

-- the values of each base stand behind each other in a row, and in front of the temporaries
pub record AreLaid (bases : List BaseInfo) (behind : ℕ) : Type 0 where
  pub small : behind ≤ 2 ^ 64 - 1
  pub close : (b : ℕ) (base : BaseInfo) → slice_get bases b ≡ Some base → base.first + base_values base ≤ behind
  pub apart : (b c : ℕ) (base other : BaseInfo) → slice_get bases b ≡ Some base → slice_get bases c ≡ Some other → (b ≡ c → ⊥) → (base.first + base_values base ≤ other.first) ⊎ (other.first + base_values other ≤ base.first)

-- the parts of an object that are followed for their first zeros are characters; on the heap it is all of an instance
pub record HasTexts (m : Model) (base : BaseInfo) : Type 0 where
  pub texts : base.shape.heap ≡ false → (p : ℕ) (zeros : ZeroPart) → slice_get base.shape.zeros p ≡ Some zeros → (size : ℕ) × (zeros.size ≡ Some size) × ((o : ℕ) → zeros.offset ≤ o → o < zeros.offset + size → tag_at m base.shape.cells o ≡ tag_of Char 0)
  pub heaps : base.shape.heap ≡ true → (p : ℕ) (zeros : ZeroPart) → slice_get base.shape.zeros p ≡ Some zeros → (zeros.size ≡ None) × (zeros.offset ≡ 0)

-- each byte is counted for one leaf at most
abbrev pub CountsOnce : Model → BaseInfo → Type 0
CountsOnce m base = (x : ℕ) → covered_bytes m base.shape.cells x (x + 1) ≤ 1

-- where a window has an offset of an object that is that of no leaf's byte, the counts of bytes say so
abbrev pub SeesPadding : Model → List BaseInfo → Type 0
SeesPadding m bases = (b : ℕ) (base : BaseInfo) (window : Window) (offset : ℕ) → slice_get bases b ≡ Some base → base.shape.heap ≡ false → window.lo ≤ offset → offset ≤ window.hi → offset < base.size → tag_at m base.shape.cells offset ≡ None → meets_padding m base.shape.cells window base.size ≡ true

-- a flow whose rows have so many cells: each base has a shape and a place of its own, and the temporaries stand behind all
pub record IsLaidOut (flow : Flow) (size : ℕ) : Type 0 where
  pub shaped : AreShaped flow.bases.items
  pub texts : (b : ℕ) (base : BaseInfo) → slice_get flow.bases.items b ≡ Some base → HasTexts flow.model base
  pub behind : ℕ
  pub laid : AreLaid flow.bases.items behind
  pub temporaries : behind ≤ flow.width - flow.temps
  pub long : behind ≤ size
