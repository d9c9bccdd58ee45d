-- The calls of the store grow with the row and with their arguments, and leave own rows.
use Rattle.std.specs.Prelude.{◌≡◌, ℕ, ◌^◌, ◌<◌, ◌≤◌, pos, Bool, true, Some, List, [], ◌∷◌, length, slice_get}
use Rattle.cc_base.specs.Lattices.{LatticeOf}
use Rattle.cc_base.specs.IntegerDomains.{IntegersOf}
use Rattle.c_layout.specs.declared.data_model.Model.{Model}
use Rattle.c_layout.specs.declared.leaf_lists.Class.{Class}
use Rattle.c_layout.specs.declared.shapes.BaseInfo.{BaseInfo}
use Rattle.cfg.specs.WellFormed.{are_placed}
use Rattle.pointer_domain.specs.declared.base_sets.Bases.{Bases}
use Rattle.pointer_domain.specs.declared.pointer_sets.Pointers.{Pointers}
use Rattle.pointer_domain.specs.PointerLattice.{pointers_leq}
use Rattle.pointer_domain.specs.PointerTables.{is_any}
use Rattle.value_domain.specs.declared.values.values.Value.{Value}
use Rattle.value_domain.specs.declared.values.row_cells.Cell.{Cell}
use Rattle.value_domain.specs.Values.Values.{value_lattice}
use Rattle.store.specs.Loads.{load}
use Rattle.store.specs.Stores.{store}
use Rattle.store_objects.specs.Freeing.{free}
use Rattle.store_objects.specs.ObjectLives.{forget, clear, leave}
use Rattle.store.specs.Spelling.{spell}
use Rattle.store_objects.specs.Allocations.{renew}
use Rattle.store_objects.specs.declared.allocation.Fresh.{Fresh}
use Rattle.store_cells.specs.RowPositions.{value_count}
use Rattle.value_domain.specs.Strings.FirstZeros.{the_end}
use Rattle.domain_theorems.specs.Values.Consistency.{AreWords, is_consistent}
use Rattle.store_objects.specs.declared.allocation.Fresh.TheVariants.{Blank, Zero, Old}
use Rattle.pointer_domain.specs.BaseSets.{bases_has}
use Rattle.store_monotone.specs.Operations.TopCells.{top_value}
use Rattle.store_monotone.specs.Operations.TopRows.{top_row}
use Rattle.store_monotone.specs.Operations.RowsBelow.{RowsBelow, ReadBelow, StoresBelow}
use Rattle.store_monotone.specs.Operations.Placements.{EachFrom, IsRegular}
use Rattle.store_monotone.specs.Operations.ConsistentRows.{AreConsistent, IsLeftConsistent}
use Rattle.cc_base.specs.Rows.{row_leq}
use Rattle.value_domain.specs.Values.Cells.{cell_lattice}

-- bases that follow each other, of regular shapes
pub record IsLayout (m : Model) (bases : List BaseInfo) : Type 0 where
  pub placed : are_placed 0 bases ≡ true
  pub regular : EachFrom (λ base number. IsRegular m base) 0 bases

-- the characters of a text are bytes
abbrev pub AreBytes : List ℕ → Type 0
AreBytes [] = Unit {0}
AreBytes (c ∷ cs) = (c < 256) × AreBytes cs

-- two bases of instances of one allocation, of which the older one has a place for all that the newest has
pub record IsSite (new old : BaseInfo) : Type 0 where
  pub new_heap : new.shape.heap ≡ true
  pub old_heap : old.shape.heap ≡ true
  pub values : value_count new ≤ value_count old
  pub zeros : length new.shape.zeros ≤ length old.shape.zeros

-- the same kind of bytes for the fresh instance, of larger pointers where they are old ones
abbrev pub FreshBelow : {I : Type 0} → LatticeOf I → Fresh I → Fresh I → Type 0
FreshBelow l Blank Blank = Unit {0}
FreshBelow l Blank Zero = ⊥
FreshBelow l Blank (Old q) = ⊥
FreshBelow l Zero Blank = ⊥
FreshBelow l Zero Zero = Unit {0}
FreshBelow l Zero (Old q) = ⊥
FreshBelow l (Old p) Blank = ⊥
FreshBelow l (Old p) Zero = ⊥
FreshBelow l (Old p) (Old q) = pointers_leq l p q ≡ true

-- the set of the old pointers is of words
abbrev pub IsFreshOfWords : {I : Type 0} → Fresh I → Type 0
IsFreshOfWords Blank = Unit {0}
IsFreshOfWords Zero = Unit {0}
IsFreshOfWords (Old p) = AreWords p.bases

module _ {I : Type 0} (l : LatticeOf I) (n : IntegersOf I) (m : Model) (bases : List BaseInfo) (all : Bases) (temps : ℕ) where
  -- a larger row and larger pointers give a larger value
  abbrev pub IsLoadMonotone : Type 0
  IsLoadMonotone = (r s : List (Cell I)) → RowsBelow l (top_row n all bases temps) r s → (p q : Pointers I) → pointers_leq l p q ≡ true → (class : Class) (signed : Bool) → ReadBelow l (load l n m bases r p class signed) (load l n m bases s q class signed)

  -- a larger row, larger pointers and a larger own value leave a larger own row
  abbrev pub IsStoreMonotone : Type 0
  IsStoreMonotone = (r s : List (Cell I)) → RowsBelow l (top_row n all bases temps) r s → (p q : Pointers I) → pointers_leq l p q ≡ true → (class : Class) (signed : Bool) (v w : Value I) → (value_lattice l).leq v w ≡ true → (value_lattice l).leq w (top_value n all) ≡ true
      → StoresBelow l (top_row n all bases temps) (store l n m bases p class signed v r) (store l n m bases q class signed w s)

  -- freeing through larger pointers, which are there, leaves a larger own row
  abbrev pub IsFreeMonotone : Type 0
  IsFreeMonotone = (r s : List (Cell I)) → RowsBelow l (top_row n all bases temps) r s → (p q : Pointers I) → pointers_leq l p q ≡ true → is_any p ≡ true → RowsBelow l (top_row n all bases temps) (free l n bases p r) (free l n bases q s)

  -- an object whose bytes become indeterminate, as where it is entered, or 0
  abbrev pub IsForgetMonotone : Type 0
  IsForgetMonotone = (r s : List (Cell I)) → RowsBelow l (top_row n all bases temps) r s → (number : ℕ) → RowsBelow l (top_row n all bases temps) (forget l n bases number r) (forget l n bases number s)

  abbrev pub IsClearMonotone : Type 0
  IsClearMonotone = (r s : List (Cell I)) → RowsBelow l (top_row n all bases temps) r s → (number : ℕ) → RowsBelow l (top_row n all bases temps) (clear l n bases number r) (clear l n bases number s)

  -- an object that is left, where the pointers of the smaller row are consistent
  abbrev pub IsLeaveMonotone : Type 0
  IsLeaveMonotone = (r s : List (Cell I)) → RowsBelow l (top_row n all bases temps) r s → AreConsistent n r → (number : ℕ) → RowsBelow l (top_row n all bases temps) (leave l bases number r) (leave l bases number s)

  -- a text of bytes that is written into an array
  abbrev pub IsSpellMonotone : Type 0
  IsSpellMonotone = (r s : List (Cell I)) → RowsBelow l (top_row n all bases temps) r s → (number offset room : ℕ) (text : List ℕ) → room ≤ 2 ^ 64 → AreBytes text → RowsBelow l (top_row n all bases temps) (spell l n bases number offset room text r) (spell l n bases number offset room text s)

  -- an allocation at a site of which the own row's sets may have the older base, where the pointers of the smaller row
  -- are consistent; no size left in the smaller row makes no instance, which is below a fresh one
  abbrev pub IsRenewMonotone : Type 0
  IsRenewMonotone = (r s : List (Cell I)) → RowsBelow l (top_row n all bases temps) r s → AreConsistent n r → (newest older : ℕ) → bases_has all older ≡ true
      → ((new old : BaseInfo) → slice_get bases newest ≡ Some new → slice_get bases older ≡ Some old → IsSite new old)
      → (x y : I) → l.leq x y ≡ true → l.leq y (n.between (pos 0) the_end) ≡ true
      → (fresh more : Fresh I) → IsFreshOfWords fresh → FreshBelow l fresh more → RowsBelow l (top_row n all bases temps) (renew l n m bases newest older x fresh r) (renew l n m bases newest older y more s)

  -- a store of an own value with a consistent pointer part into an own row of such ones leaves such a row
  abbrev pub IsStoreConsistent : Type 0
  IsStoreConsistent = (r : List (Cell I)) → row_leq (cell_lattice l) r (top_row n all bases temps) ≡ true → AreConsistent n r → (p : Pointers I) (class : Class) (signed : Bool) (v : Value I) → (value_lattice l).leq v (top_value n all) ≡ true → AreWords v.pointer.bases → is_consistent n v.pointer ≡ true
      → IsLeftConsistent n (store l n m bases p class signed v r)

  -- a text of bytes that is written into an array of an own row of consistent pointer parts leaves such a row
  abbrev pub IsSpellConsistent : Type 0
  IsSpellConsistent = (r : List (Cell I)) → row_leq (cell_lattice l) r (top_row n all bases temps) ≡ true → AreConsistent n r → (number offset room : ℕ) (text : List ℕ) → AreBytes text → AreConsistent n (spell l n bases number offset room text r)

  -- an allocation at a site of which the own row's sets may have the older base, in an own row of consistent pointer parts,
  -- leaves such a row
  abbrev pub IsRenewConsistent : Type 0
  IsRenewConsistent = (r : List (Cell I)) → row_leq (cell_lattice l) r (top_row n all bases temps) ≡ true → AreConsistent n r → (newest older : ℕ) → bases_has all older ≡ true
      → ((new old : BaseInfo) → slice_get bases newest ≡ Some new → slice_get bases older ≡ Some old → IsSite new old) → (size : I) (fresh : Fresh I) → AreConsistent n (renew l n m bases newest older size fresh r)

module _ {I : Type 0} (l : LatticeOf I) (n : IntegersOf I) (bases : List BaseInfo) where
  -- what is freed, forgotten, cleared or left in a row of consistent pointer parts leaves such a row
  pub record AreLivesConsistent : Type 0 where
    pub freed : (r : List (Cell I)) (p : Pointers I) → AreConsistent n r → AreConsistent n (free l n bases p r)
    pub forgotten : (r : List (Cell I)) (number : ℕ) → AreConsistent n r → AreConsistent n (forget l n bases number r)
    pub cleared : (r : List (Cell I)) (number : ℕ) → AreConsistent n r → AreConsistent n (clear l n bases number r)
    pub left : (r : List (Cell I)) (number : ℕ) → AreConsistent n r → AreConsistent n (leave l bases number r)
