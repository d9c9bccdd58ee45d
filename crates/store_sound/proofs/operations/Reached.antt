-- A load of a class other than char reaches a cell of the class at each place.
use Rattle.std.proofs.Common.{◌≡◌, ℕ, ◌≤◌, Bool, true, false, Option, Some, None, List, arith, refl, inl, inr, ◌⊎◌}
use Rattle.std.specs.Prelude.{slice_get, count_by}
use Rattle.std.proofs.lemmas.Bool.{and_from}
use Rattle.cc_base.specs.Lattices.{LatticeOf, OrderLaws}
use Rattle.cc_base.specs.IntegerDomains.{IntegersOf}
use Rattle.c_layout.specs.declared.data_model.Model.{Model}
use Rattle.c_layout.specs.declared.leaf_lists.Class.TheVariants.{Char}
use Rattle.c_layout.specs.declared.shapes.BaseInfo.{BaseInfo}
use Rattle.pointer_domain.specs.declared.base_sets.Bases.{Bases}
use Rattle.value_domain.specs.Values.Values.{value_lattice}
use Rattle.value_domain.specs.declared.values.values.Value.{Value}
use Rattle.value_domain.specs.declared.values.row_cells.Cell.{Cell}
use Rattle.store_cells.specs.declared.cell_reads.Access.{Access}
use Rattle.store_cells.specs.CellReads.{as_read}
use Rattle.store_cells.specs.ClassNumbers.{same_class, class_number}
use Rattle.store_cells.specs.RowPositions.{leaf_position, class_position, value_at}
use Rattle.store.specs.LeafSelection.{is_selected, has_stray}
use Rattle.store_objects.specs.LiveBases.{is_live_in}
use Rattle.store.specs.Loads.{read_leaf, load_leaves, load_class_cell, load_own, load_base, load_bases, read_base, read_base_if}
use Rattle.store_sound.specs.Concretization.Places.{IsLeafPlace}
use Rattle.store_sound.specs.Operations.Gives.{Gives}
use Rattle.store_sound.specs.Operations.Shapes.{IsShaped, at_offset}
use Rattle.store_sound.proofs.operations.Walks.{walk_meets}
use Rattle.store_sound.proofs.operations.Found.{given_left, given_by_right, if_keeps, if_gives}
use Rattle.store_sound.proofs.operations.Classes.{is_same_class}
use Rattle.store_sound.proofs.operations.Selected.{place_selected, is_stray}

module _ {I : Type 0} {l : LatticeOf I} (o : OrderLaws l) (n : IntegersOf I) {P : Value I → Type 0} (up : (x y : Value I) → (value_lattice l).leq x y ≡ true → P x → P y) (m : Model) (row : List (Cell I)) (access : Access) (offset : ℕ) (from : access.window.lo ≤ offset) (to : offset ≤ access.window.hi) where
  module _ (base : BaseInfo) (shaped : IsShaped base) where
    pub leaves_give : (place : IsLeafPlace base.shape.cells access.class offset) → P (as_read n m (value_at l n row (leaf_position base place.at)) access.class place.leaf.signed access.signed) → Gives P (load_leaves l n m base row access)
    unfolding load_leaves
    leaves_give place h =
        let s : is_selected place.leaf access.class access.window ≡ true = and_from _ _ (is_same_class _ _ place.same) (place_selected place.leaf access.window offset place.place (shaped.strides place.at place.leaf place.among) from to) in
        walk_meets (Gives P) (read_leaf l n m base row access)
        (λ leaf at found g. if_keeps o up _ found _ g)
        0 base.shape.cells None place.at place.at place.leaf place.among (omega arith)
        (λ found. if_gives o up _ found _ s h)

    pub class_gives : base.shape.heap ≡ true → (IsLeafPlace base.shape.cells access.class offset → ⊥) → count_by (at_offset access.class offset) base.shape.cells ≡ 0 → P (as_read n m (value_at l n row (class_position base (class_number access.class))) access.class true access.signed) → Gives P (load_class_cell l n m base row access)
    unfolding load_class_cell
    class_gives heap no_place none h =
        let s : has_stray base.shape.cells access.class access.window ≡ true = is_stray base.shape.cells access.class (shaped.apart heap access.class) access.window offset (shaped.single heap) from to none in
        rw (heap, s) (record { value = _; is = refl; good = h })

    pub own_gives : Gives P (load_leaves l n m base row access) ⊎ Gives P (load_class_cell l n m base row access) → Gives P (load_own l n m base row access)
    unfolding load_own
    own_gives (inl g) = given_left o up _ _ g
    own_gives (inr g) = given_by_right o up _ _ g

    pub base_gives : same_class access.class Char ≡ false → Gives P (load_own l n m base row access) → Gives P (load_base l n m base row access)
    unfolding load_base
    base_gives e g = rw e g

  keeps_found : (wanted : Bool) (base : BaseInfo) (found : Option (Value I)) → Gives P found → Gives P (read_base_if l n m row wanted access base found)
  keeps_found true base found g = given_left o up _ _ g
  keeps_found false base found g = g

  gives_found : (wanted : Bool) (base : BaseInfo) (found : Option (Value I)) → wanted ≡ true → Gives P (load_base l n m base row access) → Gives P (read_base_if l n m row wanted access base found)
  gives_found true base found e g = given_by_right o up _ _ g
  gives_found false base found e g = cc

  pub bases_give : (bases : List BaseInfo) (set : Bases) (b : ℕ) (base : BaseInfo) → slice_get bases b ≡ Some base → is_live_in l n row set base b ≡ true → Gives P (load_base l n m base row access) → Gives P (load_bases l n m bases row set access)
  unfolding load_bases
  bases_give bases set b base e alive g =
      walk_meets (Gives P) (read_base l n m row set access)
      (λ other at found h. keeps_found _ other found h)
      0 bases None b b base e (omega arith)
      (λ found. gives_found _ base found alive g)
