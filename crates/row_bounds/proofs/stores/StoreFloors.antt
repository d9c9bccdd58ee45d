-- The calls of the store keep floors.
use Rattle.std.specs.Prelude.{◌≤ℤ◌, ℤ, List}
use Rattle.cc_base.specs.Lattices.{LatticeOf, OrderLaws}
use Rattle.cc_base.specs.IntegerDomains.{IntegersOf, BoundLaws, RangeLaws}
use Rattle.c_layout.specs.declared.data_model.Model.{Model}
use Rattle.c_layout.specs.declared.shapes.BaseInfo.{BaseInfo}
use Rattle.row_bounds.specs.Stores.Floors.{least_number}
use Rattle.row_bounds.specs.Stores.StoreFloors.{AccessesKeepFloors, ObjectsKeepFloors}
use Rattle.row_bounds.proofs.stores.Ranges.{FloorLaws}
use Rattle.row_bounds.proofs.stores.Stores.{store_keeps}
use Rattle.row_bounds.proofs.stores.Loads.{load_from}
use Rattle.row_bounds.proofs.stores.StructCopies.{struct_keeps}
use Rattle.row_bounds.proofs.stores.Objects.{forget_keeps, clear_keeps, leave_keeps, spell_keeps, free_keeps}
use Rattle.row_bounds.proofs.stores.Allocations.{renew_keeps, renewed_from}

module _ {I : Type 0} {l : LatticeOf I} {n : IntegersOf I} {stands : I → ℤ → Type 0} (o : OrderLaws l) (b : BoundLaws l n stands) (f : RangeLaws l n) (floor : ℤ) (low : floor ≤ℤ least_number) (m : Model) (bases : List BaseInfo) where
  laws : FloorLaws l n stands floor
  laws = record { order = o; bounds = b; ranges = f; low = low }

  pub accesses_keep : AccessesKeepFloors l n floor m bases
  accesses_keep = record {
    load = λ row h p class signed. load_from laws m row h bases p class signed;
    store = λ p class signed v h. store_keeps laws m bases p class signed v h;
    copy = λ structs index to from. struct_keeps laws m bases structs index to from;
  }

  pub objects_keep : ObjectsKeepFloors l n floor m bases
  objects_keep = record {
    forget = λ number. forget_keeps laws bases number;
    clear = λ number. clear_keeps laws bases number;
    leave = λ number. leave_keeps laws bases number;
    spell = λ number offset room text. spell_keeps laws bases number offset room text;
    free = λ p. free_keeps laws bases p;
    renew = λ newest older size fresh. renew_keeps laws m bases newest older size fresh;
    renewed = λ newest older size h. renewed_from laws bases newest older size h;
  }
