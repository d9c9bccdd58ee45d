-- The calls of the store leave rows from a floor on, and give values from it on.
use Rattle.std.specs.Prelude.{ℕ, ℤ, pos, Bool, List}
use Rattle.cc_base.specs.Lattices.{LatticeOf}
use Rattle.cc_base.specs.IntegerDomains.{IntegersOf}
use Rattle.c_layout.specs.StructViews.{StructView}
use Rattle.c_layout.specs.declared.data_model.Model.{Model}
use Rattle.c_layout.specs.declared.leaf_lists.Class.{Class}
use Rattle.c_layout.specs.declared.shapes.BaseInfo.{BaseInfo}
use Rattle.pointer_domain.specs.declared.pointer_sets.Pointers.{Pointers}
use Rattle.value_domain.specs.declared.values.values.Value.{Value}
use Rattle.value_domain.specs.declared.values.row_cells.Cell.{Cell}
use Rattle.store_objects.specs.declared.allocation.Fresh.{Fresh}
use Rattle.store.specs.Loads.{load}
use Rattle.store.specs.Stores.{store}
use Rattle.store_objects.specs.Freeing.{free}
use Rattle.store_objects.specs.ObjectLives.{forget, clear, leave}
use Rattle.store.specs.Spelling.{spell}
use Rattle.store_objects.specs.Allocations.{site_of, renew, renewed_pointer}
use Rattle.store_structs.specs.StructCopies.{copy_struct}
use Rattle.row_bounds.specs.Stores.Floors.{IsFrom, IsPointerFrom, IsValueFrom, IsReadFrom, AreFrom, KeepsFrom, LeavesFrom}

module _ {I : Type 0} (l : LatticeOf I) (n : IntegersOf I) (floor : ℤ) (m : Model) (bases : List BaseInfo) where
  -- loads and stores
  pub record AccessesKeepFloors : Type 0 where
    pub load : (row : List (Cell I)) → AreFrom n floor row → (p : Pointers I) (class : Class) (signed : Bool) → IsReadFrom n floor (load l n m bases row p class signed)
    pub store : (p : Pointers I) (class : Class) (signed : Bool) (v : Value I) → IsValueFrom n floor v → LeavesFrom n floor (store l n m bases p class signed v)
    pub copy : (structs : List StructView) (index : ℕ) (to from : Pointers I) → LeavesFrom n floor (copy_struct l n m bases structs index to from)

  -- objects that are entered, left, cleared, made of a text, freed or allocated
  pub record ObjectsKeepFloors : Type 0 where
    pub forget : (number : ℕ) → KeepsFrom n floor (forget l n bases number)
    pub clear : (number : ℕ) → KeepsFrom n floor (clear l n bases number)
    pub leave : (number : ℕ) → KeepsFrom n floor (leave l bases number)
    pub spell : (number offset room : ℕ) (text : List ℕ) → KeepsFrom n floor (spell l n bases number offset room text)
    pub free : (p : Pointers I) → KeepsFrom n floor (free l n bases p)
    pub renew : (newest older : ℕ) (size : I) (fresh : Fresh I) → KeepsFrom n floor (renew l n m bases newest older size fresh)
    pub renewed : (newest older : ℕ) (size : I) → IsFrom (pos 0) (n.bounds size) → IsPointerFrom n floor (renewed_pointer l n bases (site_of newest older) size)
