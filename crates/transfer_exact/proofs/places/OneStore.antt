-- A store through pointers into one base at one offset sets the cell of the leaf there.
use Rattle.std.proofs.Common.{◌≡◌, ℕ, ◌+◌, ◌-◌, ◌<◌, ◌≤◌, Bool, true, false, not, Option, Some, None, List, length, arith, refl, ap, ◌∙◌}
use Rattle.std.specs.Prelude.{slice_get, pos, ◌==◌}
use Rattle.std.proofs.lemmas.Bool.{and_from, eq-eqb, or_left, or_right, ne_eqb}
use Rattle.std.proofs.lemmas.Option.{slice_get_within}
use Rattle.cc_base.specs.Lattices.{LatticeOf}
use Rattle.cc_base.specs.IntegerDomains.{IntegersOf}
use Rattle.cc_base.specs.declared.integer_operators.Rel.TheVariants.{Eq}
use Rattle.cc_base.specs.declared.integer_operators.Tri.{Tri}
use Rattle.c_layout.specs.declared.data_model.Model.{Model}
use Rattle.c_layout.specs.declared.leaf_lists.Class.TheVariants.{Char}
use Rattle.c_layout.specs.declared.leaf_lists.Leaf.{Leaf}
use Rattle.c_layout.specs.declared.shapes.BaseInfo.{BaseInfo}
use Rattle.cfg.specs.WellFormed.{base_cells, base_values}
use Rattle.pointer_domain.specs.declared.pointer_sets.Pointers.{Pointers}
use Rattle.value_domain.specs.declared.values.values.Value as values
use Rattle.value_domain.specs.declared.values.row_cells.Cell.{Cell}
use Rattle.value_domain.specs.declared.values.row_cells.Cell.TheVariants.{Value, First}
use Rattle.store_cells.specs.declared.access_windows.Window.{Window}
use Rattle.store_cells.specs.declared.cell_reads.Access.{Access}
use Rattle.store_cells.specs.declared.first_zero_writes.ZeroTarget.{ZeroTarget}
use Rattle.store.specs.declared.stores.Write.{Write}
use Rattle.store_cells.specs.ScalarTypes.{class_bytes}
use Rattle.store_cells.specs.ClassNumbers.{same_class}
use Rattle.store_cells.specs.RowPositions.{leaf_position, zero_position, zero_at, cell_at, put_value, write_value}
use Rattle.store_cells.specs.AccessWindows.{window_of, window_between}
use Rattle.store_cells.specs.CellReads.{as_stored}
use Rattle.store_cells.specs.FirstZeroWrites.{zero_target, put_at, put_target, put_part, put_character}
use Rattle.store.specs.LeafSelection.{is_selected, selected_count}
use Rattle.store_objects.specs.LiveBases.{most_bases, only_base, is_literal_kind, writable_of}
use Rattle.store.specs.Stores.{has_place_or, has_place, has_own_place, any_place, is_nothing, stored_value, cell_value, store_leaf_at, store_leaf, store_leaves, store_class_cell, store_other_leaf_at, store_other_leaf, store_other_leaves, store_other_bytes, store_own, store_character, store_wider, store_base, store_if, store_to, store_all, write_to, can_store, store_access, reached_of, store}
use Rattle.memory_model.specs.Effects.Touches.{is_allocated}
use Rattle.store_sound.specs.Concretization.SoundMemory.{storage_for}
use Rattle.store_sound.proofs.operations.Classes.{same_class_is, count_none}
use Rattle.store_sound.proofs.operations.Only.{Only, only_same, only_put, only_more, only_walk}
use Rattle.store_sound.proofs.operations.StoreRows.{Fits, zero_is}
use Rattle.store_sound.proofs.operations.Walks.{walk_meets}
use Rattle.struct_copies_sound.specs.Leaves.StructLeaves.{IsStruct}
use Rattle.transfer_exact.proofs.places.OneTurn.{walk_idle, walk_once}
use Rattle.transfer_exact.proofs.places.OneBase.{has_own, has_no_other, live_is, writable_is}
use Rattle.transfer_exact.proofs.places.OneInstance.{one_instance}
use Rattle.transfer_exact.proofs.places.OneLeaf.{own_selected, other_unselected, none_other}

-- ---- first zeros stand apart

module _ {I : Type 0} (l : LatticeOf I) (n : IntegersOf I) where
  target_only : (p : ℕ) (target : Option ZeroTarget) (is_zero : Tri) (alone : Bool) → Only p (p + 1) (λ row. put_target l n row p target is_zero alone)
  unfolding put_target
  target_only p None is_zero alone = only_same p (p + 1)
  target_only p (Some target) is_zero alone = only_put p (p + 1) p (λ row. First (put_at l n (zero_at l n row p) target is_zero alone)) (omega arith) (omega arith)

  put_only : (base : BaseInfo) (w : Window) (is_zero : Tri) (alone : Bool) → Fits base → Only (base.first + base_cells base) ((base.first + base_cells base) + length base.shape.zeros) (put_character l n base w is_zero alone)
  unfolding put_character
  put_only base w is_zero alone f = only_walk (put_part l n base w is_zero alone) _ _ 0 base.shape.zeros (λ j a part e d.
      let s = slice_get_within base.shape.zeros j part e in
      let p = zero_is base a f (omega (arith, s, d)) in
      only_more _ _ (λ row. put_target l n row (zero_position base a) (zero_target part w) is_zero alone) (omega (arith, p)) (omega (arith, p, s, d)) (target_only (zero_position base a) (zero_target part w) is_zero alone))

module _ {I : Type 0} (l : LatticeOf I) (n : IntegersOf I) (m : Model) (bases : List BaseInfo) (row : List (Cell I)) (b : ℕ) (base : BaseInfo) (at : slice_get bases b ≡ Some base) (small : b < most_bases) (object : base.shape.heap ≡ false) (fits : Fits base) (kind : is_allocated (storage_for base.kind) ≡ false) (writable : is_literal_kind base.kind ≡ false)
    (h : IsStruct m base.shape.cells base.size) (single : (j : ℕ) (leaf : Leaf) → slice_get base.shape.cells j ≡ Some leaf → leaf.count ≡ 1)
    (j : ℕ) (leaf : Leaf) (among : slice_get base.shape.cells j ≡ Some leaf) (v : values.Value I) where
  -- what the cell becomes
  abbrev pub stored : values.Value I
  stored = as_stored n m (stored_value leaf.class v) leaf.class leaf.signed

  abbrev pub stored_row : List (Cell I)
  stored_row = put_value row (leaf_position base j) stored

  pub record SetsCell (found : Option (List (Cell I))) : Type 0 where
    pub after : List (Cell I)
    pub is : found ≡ Some after
    pub keeps : (x : ℕ) → (base.first + base_cells base ≤ x → x < base.first + base_values base → ⊥) → cell_at after x ≡ cell_at stored_row x

  -- whatever the sign of the access: the cell is of the leaf's
  module _ (signed : Bool) where
    abbrev access : Access
    access = record { class = leaf.class; signed = signed; window = window_between leaf.offset leaf.offset }

    abbrev write : Write I
    write = write_to bases (only_base b) access v

    own_set : (t : List (Cell I)) → store_leaf_at l n m write leaf (leaf_position base j) t ≡ put_value t (leaf_position base j) stored
    unfolding store_leaf_at write_value
    own_set t =
        let own = own_selected m base.shape.cells base.size h single j leaf among in
        let alone = one_instance bases b base at small kind in
        let here = eq-eqb leaf.offset leaf.offset refl in
        let one = eq-eqb leaf.count 1 (single j leaf among) in
        rw (own, alone, here, one) refl

    leaves_are : store_leaves l n m base write row ≡ stored_row
    unfolding store_leaves store_leaf_at
    leaves_are =
        walk_once (store_leaf l n m base write) 0 base.shape.cells row j j leaf among (omega arith) (λ i d other e f g t. let u = other_unselected m base.shape.cells base.size h single j leaf among i other e g in rw u refl)
        ∙ own_set row

    own_is : store_own l n m base write row ≡ stored_row
    unfolding store_own store_class_cell
    own_is = let e = leaves_are in rw (e, object) refl

    others_are : leaf.class ≡ Char → (t : List (Cell I)) → store_other_bytes l n m base write t ≡ t
    unfolding store_other_bytes store_other_leaves store_other_leaf_at
    others_are char t =
        let e = walk_idle (store_other_leaf l n m base write) 0 base.shape.cells t (λ i d other e f. let u = none_other m base.shape.cells base.size h single j leaf among char i other e in rw u refl) in
        rw (object, e) refl

    base_sets : (c : Bool) → same_class leaf.class Char ≡ c → (x : ℕ) → (base.first + base_cells base ≤ x → x < base.first + base_values base → ⊥) → cell_at (store_base l n m base write row) x ≡ cell_at stored_row x
    unfolding store_base store_character store_wider
    base_sets false e x far = let own = own_is in rw (e, own, object) refl
    base_sets true e x far =
        let own = own_is in
        let same = others_are (same_class_is leaf.class Char e) stored_row in
        let tri : Tri = n.compare Eq (cell_value n m write write.access.signed).num (n.one (pos 0)) in
        rw (e, own, same) ((put_only l n base write.access.window tri write.alone fits).keeps stored_row x (λ f g. far f (omega (arith, g))))

    all_are : store_all l n m bases (only_base b) write row ≡ store_base l n m base write row
    unfolding store_all store_if
    all_are =
        walk_once (store_to l n m (only_base b) write) 0 bases row b b base at (omega arith) (λ i d other e f g t. let u = has_no_other b d (λ k. g (omega (arith, f, k))) in rw u refl)
        ∙ (let own = has_own b small in rw own refl)

    some_place : any_place m bases (only_base b) access ≡ true
    unfolding any_place has_place has_own_place
    some_place =
        let own = own_selected m base.shape.cells base.size h single j leaf among in
        let some : (selected_count base.shape.cells leaf.class access.window == 0) ≡ false = ne_eqb (selected_count base.shape.cells leaf.class access.window) 0 (λ (z : selected_count base.shape.cells leaf.class access.window ≡ 0). count_none (λ x. is_selected x leaf.class access.window) base.shape.cells j leaf among own z) in
        let place : has_place m base access ≡ true = or_left _ _ (or_left _ _ (ap not some)) in
        walk_meets (λ z. z ≡ true) (has_place_or m (only_base b) access) (λ k i s g. or_left _ _ g) 0 bases false b b base at (omega arith) (λ t. or_right _ _ (and_from _ _ (has_own b small) place))

    reached_are : reached_of l n bases row (only_base b) ≡ only_base b
    reached_are = ap (writable_of bases) (live_is bases b base at small l n row object) ∙ (writable_is bases b base at small ∙ rw writable refl)

    pub store_sets : (p : Pointers I) → p.bases ≡ only_base b → window_of n p (class_bytes m leaf.class) ≡ Some (window_between leaf.offset leaf.offset) → is_nothing n leaf.class v ≡ false → SetsCell (store l n m bases p leaf.class signed v row)
    unfolding store store_access can_store
    store_sets p sole window something =
        let r = reached_are in
        let s = some_place in
        record {
          after = store_all l n m bases (only_base b) write row;
          is = rw (window, sole, r, something, s) refl;
          keeps = λ x far. ap (λ z. cell_at z x) all_are ∙ base_sets (same_class leaf.class Char) refl x far;
        }
