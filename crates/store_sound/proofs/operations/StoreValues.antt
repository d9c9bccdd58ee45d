-- The values behind a store of a class other than char.
use Rattle.std.proofs.Common.{◌≡◌, ℕ, ◌<◌, Bool, true, false, cond, ◌&&◌, Some, List, length, arith, subst, sym, refl, ap, ◌∙◌}
use Rattle.std.specs.Prelude.{slice_get, set}
use Rattle.cc_base.specs.Lattices.{LatticeOf}
use Rattle.cc_base.specs.IntegerDomains.{IntegersOf}
use Rattle.c_layout.specs.declared.data_model.Model.{Model}
use Rattle.c_layout.specs.declared.leaf_lists.Class.TheVariants.{Char}
use Rattle.c_layout.specs.declared.leaf_lists.Leaf.{Leaf}
use Rattle.c_layout.specs.declared.shapes.BaseInfo.{BaseInfo}
use Rattle.pointer_domain.specs.declared.base_sets.Bases.{Bases}
use Rattle.value_domain.specs.Values.Values.{value_lattice}
use Rattle.value_domain.specs.declared.values.values.Value as values
use Rattle.value_domain.specs.declared.values.row_cells.Cell.{Cell}
use Rattle.value_domain.specs.declared.values.row_cells.Cell.TheVariants.{Value}
use Rattle.store.specs.declared.stores.Write.{Write}
use Rattle.store_cells.specs.ClassNumbers.{same_class, class_number}
use Rattle.store_cells.specs.NearValues.{near_value}
use Rattle.store_cells.specs.RowPositions.{leaf_position, class_position, cell_at, value_in, value_at, zero_at, state_at, join_value, write_value}
use Rattle.store.specs.LeafSelection.{is_selected}
use Rattle.store_objects.specs.LiveBases.{has_base}
use Rattle.store.specs.Loads.{reaches_class}
use Rattle.store.specs.Stores.{cell_value, is_strong, store_leaf_at, store_leaf, store_class_cell, store_all}
use Rattle.store_sound.specs.Operations.Shapes.{AreLaid}
use Rattle.store_sound.proofs.operations.Only.{cell_put}
use Rattle.store_sound.proofs.operations.StoreRows.{leaf_after, class_after}

module _ {I : Type 0} (l : LatticeOf I) (n : IntegersOf I) where
  pub same_value : (row after : List (Cell I)) (p : ℕ) → cell_at after p ≡ cell_at row p → value_at l n after p ≡ value_at l n row p
  unfolding value_at
  same_value row after p e = ap (λ c. near_value l n (value_in l c)) e

  pub same_zero : (row after : List (Cell I)) (p : ℕ) → cell_at after p ≡ cell_at row p → zero_at l n after p ≡ zero_at l n row p
  unfolding zero_at
  same_zero row after p e = rw e refl

  pub same_state : (row after : List (Cell I)) (p : ℕ) → cell_at after p ≡ cell_at row p → state_at l n after p ≡ state_at l n row p
  unfolding state_at
  same_state row after p e = rw e refl

module _ {I : Type 0} (l : LatticeOf I) (n : IntegersOf I) (m : Model) where
  put_is : (row : List (Cell I)) (p : ℕ) (v : values.Value I) → p < length row → value_at l n (set row p (Value v)) p ≡ near_value l n v
  unfolding value_at
  put_is row p v h = ap (λ c. near_value l n (value_in l c)) (cell_put row p (Value v) h)

  -- a value written at a position, in its place or joined
  abbrev pub written : values.Value I → values.Value I → Bool → values.Value I
  written old v strong = near_value l n (cond strong v ((value_lattice l).join old v))

  write_is : (row : List (Cell I)) (p : ℕ) (v : values.Value I) (strong : Bool) → p < length row → value_at l n (write_value l n row p v strong) p ≡ written (value_at l n row p) v strong
  unfolding write_value join_value
  write_is row p v true h = put_is row p v h
  write_is row p v false h = put_is row p ((value_lattice l).join (value_at l n row p) v) h

  pub join_is : (row : List (Cell I)) (p : ℕ) (v : values.Value I) → p < length row → value_at l n (join_value l n row p v) p ≡ written (value_at l n row p) v false
  unfolding join_value
  join_is row p v h = put_is row p ((value_lattice l).join (value_at l n row p) v) h

  pub cond_value : (b : Bool) (x y : List (Cell I)) (p : ℕ) → value_at l n (cond b x y) p ≡ cond b (value_at l n x p) (value_at l n y p)
  cond_value true x y p = refl
  cond_value false x y p = refl

  both : (a b : Bool) (x y : values.Value I) → cond a (cond b x y) y ≡ cond (a && b) x y
  both true b x y = refl
  both false b x y = refl

  pub leaf_put : (row : List (Cell I)) (p : ℕ) (write : Write I) (leaf : Leaf) → p < length row → value_at l n (store_leaf_at l n m write leaf p row) p ≡ cond (is_selected leaf write.access.class write.access.window) (written (value_at l n row p) (cell_value n m write leaf.signed) (is_strong leaf write)) (value_at l n row p)
  unfolding store_leaf_at
  leaf_put row p write leaf h = cond_value (is_selected leaf write.access.class write.access.window) _ row p
      ∙ ap (λ v. cond (is_selected leaf write.access.class write.access.window) v (value_at l n row p)) (write_is row p (cell_value n m write leaf.signed) (is_strong leaf write) h)

  pub class_put : (row : List (Cell I)) (p : ℕ) (write : Write I) (base : BaseInfo) → p ≡ class_position base (class_number write.access.class) → p < length row → value_at l n (store_class_cell l n m base write row) p ≡ cond (reaches_class base write.access) (written (value_at l n row p) (cell_value n m write true) false) (value_at l n row p)
  unfolding store_class_cell
  class_put row p write base e h = subst (λ z. value_at l n (store_class_cell l n m base write row) z ≡ cond (reaches_class base write.access) (written (value_at l n row z) (cell_value n m write true) false) (value_at l n row z)) (sym e)
      (cond_value (reaches_class base write.access) _ row _ ∙ ap (λ v. cond (reaches_class base write.access) v (value_at l n row (class_position base (class_number write.access.class)))) (join_is row (class_position base (class_number write.access.class)) (cell_value n m write true) (subst (λ z. z < length row) e h)))

  module _ (bases : List BaseInfo) (behind : ℕ) (laid : AreLaid bases behind) (set : Bases) (write : Write I) (small : class_number write.access.class < 6) (wide : same_class write.access.class Char ≡ false) (row : List (Cell I)) where
    pub leaf_value : (b : ℕ) (base : BaseInfo) (j : ℕ) (leaf : Leaf) → slice_get bases b ≡ Some base → slice_get base.shape.cells j ≡ Some leaf → leaf_position base j < length row → value_at l n (store_all l n m bases set write row) (leaf_position base j) ≡ cond (has_base set b && is_selected leaf write.access.class write.access.window) (written (value_at l n row (leaf_position base j)) (cell_value n m write leaf.signed) (is_strong leaf write)) (value_at l n row (leaf_position base j))
    leaf_value b base j leaf e f h =
        let p : ℕ = leaf_position base j in
        let t = leaf_after l n m bases behind laid set write small wide b base j leaf e f row in
        let v : value_at l n t.before p ≡ value_at l n row p = same_value l n row t.before p t.same in
        let g = t.long in
        same_value l n (cond (has_base set b) (store_leaf l n m base write leaf j t.before) t.before) _ p t.turn
        ∙ (cond_value (has_base set b) _ t.before p
        ∙ (ap (λ x. cond (has_base set b) x (value_at l n t.before p)) (leaf_put t.before p write leaf (omega arith))
        ∙ (both (has_base set b) (is_selected leaf write.access.class write.access.window) (written (value_at l n t.before p) (cell_value n m write leaf.signed) (is_strong leaf write)) (value_at l n t.before p)
        ∙ ap (λ x. cond (has_base set b && is_selected leaf write.access.class write.access.window) (written x (cell_value n m write leaf.signed) (is_strong leaf write)) x) v)))

    pub class_value : (b : ℕ) (base : BaseInfo) → slice_get bases b ≡ Some base → base.shape.heap ≡ true → class_position base (class_number write.access.class) < length row → value_at l n (store_all l n m bases set write row) (class_position base (class_number write.access.class)) ≡ cond (has_base set b && reaches_class base write.access) (written (value_at l n row (class_position base (class_number write.access.class))) (cell_value n m write true) false) (value_at l n row (class_position base (class_number write.access.class)))
    class_value b base e heap h =
        let p : ℕ = class_position base (class_number write.access.class) in
        let t = class_after l n m bases behind laid set write small wide b base e heap row in
        let v : value_at l n t.before p ≡ value_at l n row p = same_value l n row t.before p t.same in
        let g = t.long in
        same_value l n (cond (has_base set b) (store_class_cell l n m base write t.before) t.before) _ p t.turn
        ∙ (cond_value (has_base set b) _ t.before p
        ∙ (ap (λ x. cond (has_base set b) x (value_at l n t.before p)) (class_put t.before p write base refl (omega arith))
        ∙ (both (has_base set b) (reaches_class base write.access) (written (value_at l n t.before p) (cell_value n m write true) false) (value_at l n t.before p)
        ∙ ap (λ x. cond (has_base set b && reaches_class base write.access) (written x (cell_value n m write true) false) x) v)))
