-- What the write of one leaf of a copied struct keeps of a cell, and what it makes of it.
use Rattle.std.specs.Prelude.{◌≡◌, ◌+◌, ◌<◌, ℕ, ℤ, Bool, true, Some, List, length, slice_get}
use Rattle.cc_base.specs.Lattices.{LatticeOf}
use Rattle.cc_base.specs.IntegerDomains.{IntegersOf}
use Rattle.c_layout.specs.declared.data_model.Model.{Model}
use Rattle.c_layout.specs.declared.leaf_lists.Class.{Class}
use Rattle.c_layout.specs.declared.leaf_lists.Class.TheVariants.{Char}
use Rattle.c_layout.specs.declared.leaf_lists.Leaf.{Leaf}
use Rattle.c_layout.specs.declared.shapes.BaseInfo.{BaseInfo}
use Rattle.pointer_domain.specs.declared.base_sets.Bases.{Bases}
use Rattle.value_domain.specs.declared.values.values.Value.{Value}
use Rattle.value_domain.specs.declared.values.row_cells.Cell.{Cell}
use Rattle.store_cells.specs.ByteWrites.{byte_written}
use Rattle.store_cells.specs.CellReads.{as_stored}
use Rattle.store_cells.specs.ClassNumbers.{class_number, class_at, same_class}
use Rattle.store_objects.specs.LiveBases.{has_base}
use Rattle.store_cells.specs.NearValues.{near_value}
use Rattle.store_cells.specs.RowPositions.{leaf_position, class_position, value_at}
use Rattle.memory_model.specs.Memory.Bytes.{Content}
use Rattle.memory_model.specs.Memory.Instances.{Memory}
use Rattle.store_sound.specs.Concretization.ValueMeaning.{Naming, InGammaContent}
use Rattle.store_struct_leaves.specs.CopyPlaces.{is_reached, is_touched}
use Rattle.store_struct_leaves.specs.LeafCopies.{reaches_class, is_strong, with_flag, write_all}
use Rattle.store_struct_leaves.specs.declared.leaf_copies.LeafAccess.{LeafAccess}

-- a leaf at a position of the row is written in its place
pub record IsReplacedAt (bases : List BaseInfo) (set : Bases) (access : LeafAccess) (alone : Bool) (p b j : ℕ) (base : BaseInfo) (leaf : Leaf) : Type 0 where
  pub at : slice_get bases b ≡ Some base
  pub among : slice_get base.shape.cells j ≡ Some leaf
  pub in_set : has_base set b ≡ true
  pub reached : is_reached leaf access.class access.span ≡ true
  pub strong : is_strong leaf access alone ≡ true
  pub here : leaf_position base j ≡ p

module _ {I : Type 0} (l : LatticeOf I) (n : IntegersOf I) where
  -- something that holds of the value at a position, of a row of a size, before the write and behind it
  module _ (m : Model) (bases : List BaseInfo) (set : Bases) (access : LeafAccess) (v : Value I) (alone : Bool) (P : Value I → Type 0) (p size : ℕ) where
    abbrev pub Brings : Type 0
    Brings = (row : List (Cell I)) → length row ≡ size → P (value_at l n (write_all l n m bases set access v alone row) p)

    abbrev pub NoneIsReplaced : Type 0
    NoneIsReplaced = (b j : ℕ) (base : BaseInfo) (leaf : Leaf) → IsReplacedAt bases set access alone p b j base leaf → ⊥

    pub record LeafWrites : Type 0 where
      -- it is kept where the position is not written in its place
      pub keeps : NoneIsReplaced → (row : List (Cell I)) → length row ≡ size → P (value_at l n row p) → P (value_at l n (write_all l n m bases set access v alone row) p)
      -- it comes with the value to a leaf of its class, of which that one alone may be written in its place
      pub own : (b j : ℕ) (base : BaseInfo) (leaf : Leaf) → slice_get bases b ≡ Some base → has_base set b ≡ true → slice_get base.shape.cells j ≡ Some leaf → leaf_position base j ≡ p
          → ((c i : ℕ) (other : BaseInfo) (y : Leaf) → IsReplacedAt bases set access alone p c i other y → (c ≡ b) × (i ≡ j)) → is_reached leaf access.class access.span ≡ true → P (as_stored n m v access.class leaf.signed) → Brings
      -- to the cell of its class
      pub class : NoneIsReplaced → (b : ℕ) (base : BaseInfo) → slice_get bases b ≡ Some base → has_base set b ≡ true → class_position base (class_number access.class) ≡ p → reaches_class base access ≡ true → P (as_stored n m v access.class true) → Brings
      -- and, where it is a character, to a leaf and to a class cell of another class
      pub other : NoneIsReplaced → same_class access.class Char ≡ true → (b j : ℕ) (base : BaseInfo) (leaf : Leaf) → slice_get bases b ≡ Some base → has_base set b ≡ true → slice_get base.shape.cells j ≡ Some leaf → leaf_position base j ≡ p
          → is_touched m leaf access.span ≡ true → P (with_flag (byte_written l n m leaf.class leaf.signed v.labels) v.indeterminate) → Brings
      pub byte : NoneIsReplaced → same_class access.class Char ≡ true → (b c : ℕ) (base : BaseInfo) → slice_get bases b ≡ Some base → has_base set b ≡ true → base.shape.heap ≡ true → c < 5 → class_position base (c + 1) ≡ p
          → P (with_flag (byte_written l n m (class_at (c + 1)) true v.labels) v.indeterminate) → Brings

-- what a cell stands for: a number at one of its places, or what a byte that it owns holds
pub data Fact : Type 0 where
  of_number : ℤ → Fact
  of_content : Naming → Memory → Class → Content → Fact

module _ {I : Type 0} (l : LatticeOf I) (n : IntegersOf I) (gamma : I → ℤ → Type 0) where
  abbrev pub IsTold : Fact → Value I → Type 0
  IsTold (of_number z) v = gamma v.num z
  IsTold (of_content naming memory class content) v = InGammaContent gamma naming memory v class content

  -- for values of near bounds
  abbrev pub LeafWritesStand : Type 0
  LeafWritesStand = (m : Model) (bases : List BaseInfo) (set : Bases) (access : LeafAccess) (v : Value I) (alone : Bool) → ((signed : Bool) → near_value l n (as_stored n m v access.class signed) ≡ as_stored n m v access.class signed)
      → (fact : Fact) (p size : ℕ) → p < size → LeafWrites l n m bases set access v alone (IsTold fact) p size
