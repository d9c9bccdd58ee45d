-- The cells of a base by name, and what one of them stands for.
use Rattle.std.proofs.Common.{◌≡◌, ℕ, ◌<◌, Bool, true, Some, List, arith, subst}
use Rattle.std.specs.Prelude.{slice_get, ℤ}
use Rattle.cc_base.specs.Lattices.{LatticeOf}
use Rattle.cc_base.specs.IntegerDomains.{IntegersOf}
use Rattle.c_layout.specs.declared.data_model.Model.{Model}
use Rattle.c_layout.specs.declared.leaf_lists.Class.{Class}
use Rattle.c_layout.specs.declared.leaf_lists.Leaf.{Leaf}
use Rattle.c_layout.specs.declared.shapes.BaseInfo.{BaseInfo}
use Rattle.cfg.specs.declared.programs.Flow.{Flow}
use Rattle.value_domain.specs.declared.values.values.Value.{Value}
use Rattle.value_domain.specs.declared.values.row_cells.Cell.{Cell}
use Rattle.store_cells.specs.ClassNumbers.{class_at}
use Rattle.store_cells.specs.RowPositions.{leaf_position, class_position, value_at}
use Rattle.memory_model.specs.Memory.Instances.{Memory}
use Rattle.store_sound.specs.Concretization.Places.{IsPlaceOf, IsLeafPlace, OwnedByLeaf, OwnedByClass, IsClassPlace}
use Rattle.store_sound.specs.Concretization.ValueMeaning.{Naming}
use Rattle.store_sound.specs.Concretization.RowMeaning.{InGammaCell}
use Rattle.store_sound.proofs.operations.Classes.{class_above}
use Rattle.store_sound.specs.Regions.RegionWrites.{InGammaBase}

-- the cell of a leaf, or a class cell
pub data CellName : Type 0 where
  leaf_cell : ℕ → Leaf → CellName
  class_cell : ℕ → CellName

module _ (m : Model) (base : BaseInfo) where
  abbrev pub IsThere : CellName → Type 0
  IsThere (leaf_cell j leaf) = slice_get base.shape.cells j ≡ Some leaf
  IsThere (class_cell d) = (base.shape.heap ≡ true) × (d < 6)

  abbrev pub position : CellName → ℕ
  position (leaf_cell j leaf) = leaf_position base j
  position (class_cell d) = class_position base d

  abbrev pub class_of : CellName → Class
  class_of (leaf_cell j leaf) = leaf.class
  class_of (class_cell d) = class_at d

  abbrev pub signed_of : CellName → Bool
  signed_of (leaf_cell j leaf) = leaf.signed
  signed_of (class_cell d) = true

  abbrev pub Place : CellName → ℕ → ℕ → Type 0
  Place (leaf_cell j leaf) size x = IsPlaceOf leaf x
  Place (class_cell d) size x = IsClassPlace m base.shape.cells (class_at d) size x

  abbrev pub Owns : CellName → ℕ → ℕ → Type 0
  Owns (leaf_cell j leaf) x k = OwnedByLeaf m leaf x k
  Owns (class_cell d) x k = OwnedByClass m base.shape.cells (class_at d) x k

-- a place is the first of the bytes that the cell owns there
pub place_owns : (m : Model) (base : BaseInfo) (c : CellName) (x size : ℕ) → Place m base c size x → Owns m base c x 0
place_owns m base (leaf_cell j leaf) x size p = record { start = x; place = p; there = omega arith; small = class_above m leaf.class }
place_owns m base (class_cell d) x size p = record { small = class_above m (class_at d); no_leaf = λ start e h. p.no_leaf (subst (IsLeafPlace base.shape.cells (class_at d)) (let f : start ≡ x = omega (arith, e) in f) h) }

module _ {I : Type 0} (l : LatticeOf I) (n : IntegersOf I) (gamma : I → ℤ → Type 0) (flow : Flow) (naming : Naming) (memory : Memory) (b : ℕ) (base : BaseInfo) where
  abbrev pub StandsName : CellName → Value I → Type 0
  StandsName c v = InGammaCell gamma flow naming memory b (class_of flow.model base c) (signed_of flow.model base c) (Place flow.model base c) (Owns flow.model base c) v

  pub name_stands : (row : List (Cell I)) → InGammaBase l n gamma flow naming memory b base row → (c : CellName) → IsThere flow.model base c → StandsName c (value_at l n row (position flow.model base c))
  name_stands row s (leaf_cell j leaf) e = s.leaves j leaf e
  name_stands row s (class_cell d) e = s.classes d e.0 e.1
