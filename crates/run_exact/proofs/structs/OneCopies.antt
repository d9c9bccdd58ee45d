-- One leaf of a struct: read from the one leaf at its offset in one object, and written to the one in another.
use Rattle.std.proofs.Common.{◌≡◌, ℕ, ◌<◌, Bool, true, false, cond, not, Some, None, List, arith, refl, ap, ◌∙◌}
use Rattle.std.specs.Prelude.{slice_get, ◌==◌}
use Rattle.std.proofs.lemmas.Bool.{and_from, eq-eqb, ne_eqb, or_left, or_right}
use Rattle.cc_base.specs.Lattices.{LatticeOf}
use Rattle.cc_base.specs.IntegerDomains.{IntegersOf}
use Rattle.c_layout.specs.declared.data_model.Model.{Model}
use Rattle.c_layout.specs.declared.leaf_lists.Class.TheVariants.{Char}
use Rattle.c_layout.specs.declared.leaf_lists.Leaf.{Leaf}
use Rattle.c_layout.specs.declared.shapes.BaseInfo.{BaseInfo}
use Rattle.value_domain.specs.declared.values.values.Value as values
use Rattle.value_domain.specs.declared.values.row_cells.Cell.{Cell}
use Rattle.value_domain.specs.Values.LabelSets.{all_labels}
use Rattle.store_cells.specs.CellReads.{whole_range, as_read, as_stored}
use Rattle.store_cells.specs.ClassNumbers.{same_class, is_pointer}
use Rattle.store_objects.specs.LiveBases.{most_bases, only_base}
use Rattle.store_cells.specs.NearValues.{near_value}
use Rattle.store_cells.specs.ScalarTypes.{kind_of}
use Rattle.store_cells.specs.Walks.{walk}
use Rattle.store_cells.specs.RowPositions.{leaf_position, value_at, put_value, write_value}
use Rattle.store_sound.proofs.operations.Classes.{same_class_is, count_none}
use Rattle.store_sound.proofs.operations.Walks.{walk_meets}
use Rattle.store_struct_leaves.specs.CopyPlaces.{is_reached, is_touched, reached_count}
use Rattle.store_struct_leaves.specs.LeafCopies.{reaches_class, has_own_place, has_place, has_place_or, any_place, is_strong, own_leaf, read_own_leaf, read_class_cell, read_own, other_leaf, read_other_leaf, read_class_bytes, read_padding, read_bytes, read_others, read_base, read_base_if, read_from, read_leaf, write_leaf_at, write_own_leaf, write_class_cell, write_leaves, write_own, write_other_at, write_other_leaf, write_class_bytes, write_bytes, write_other_leaves, write_others, write_base, write_base_if, write_to, write_all, write_leaf}
use Rattle.store_struct_leaves.specs.declared.copy_places.Span.{Span}
use Rattle.store_struct_leaves.specs.declared.leaf_copies.LeafAccess.{LeafAccess}
use Rattle.struct_copies_sound.specs.Leaves.StructLeaves.{IsStruct}
use Rattle.transfer_exact.proofs.places.OneTurn.{walk_idle, walk_once}
use Rattle.transfer_exact.proofs.places.OneBase.{has_own, has_no_other}
use Rattle.transfer_exact.proofs.places.OneLoad.{signs_agree}
use Rattle.run_exact.proofs.structs.OneSpans.{IsOneWindow, own_reached, other_unreached, none_touched, no_span_padding}

same_sign_read : {I : Type 0} (n : IntegersOf I) (m : Model) (v : values.Value I) (leaf : Leaf) → as_read n m v leaf.class leaf.signed leaf.signed ≡ v
same_sign_read n m v leaf = let e = signs_agree (is_pointer leaf.class) leaf.signed in rw e refl

module _ {I : Type 0} (l : LatticeOf I) (n : IntegersOf I) (m : Model) (bases : List BaseInfo) (b : ℕ) (base : BaseInfo) (at : slice_get bases b ≡ Some base) (small : b < most_bases) (object : base.shape.heap ≡ false)
    (h : IsStruct m base.shape.cells base.size) (single : (j : ℕ) (leaf : Leaf) → slice_get base.shape.cells j ≡ Some leaf → leaf.count ≡ 1)
    (j : ℕ) (own : Leaf) (among : slice_get base.shape.cells j ≡ Some own) (s : Span) (w : IsOneWindow s own.offset own.offset) where
  abbrev access : LeafAccess
  access = record { class = own.class; signed = own.signed; span = s }

  reached : is_reached own own.class s ≡ true
  reached = own_reached m base.shape.cells base.size h single j own among s w

  unreached : (i : ℕ) (other : Leaf) → slice_get base.shape.cells i ≡ Some other → (i ≡ j → ⊥) → is_reached other own.class s ≡ false
  unreached = other_unreached m base.shape.cells base.size h single j own among s w

  untouched : own.class ≡ Char → (i : ℕ) (other : Leaf) → slice_get base.shape.cells i ≡ Some other → is_touched m other s ≡ false
  untouched = none_touched m base.shape.cells base.size h single j own among s w

  -- ---- reading

  module _ (row : List (Cell I)) where
    abbrev cell : values.Value I
    cell = value_at l n row (leaf_position base j)

    own_read : read_own l n m base row access ≡ Some cell
    unfolding read_own read_class_cell reaches_class own_leaf
    own_read =
        let r = reached in
        let start : read_class_cell l n m base row access ≡ None = rw object refl in
        rw start (walk_once (read_own_leaf l n m base row access) 0 base.shape.cells None j j own among (omega arith) (λ i d other e f g t. let u = unreached i other e g in rw u refl)
        ∙ (rw r (ap Some (same_sign_read n m cell own))))

    bytes_none : own.class ≡ Char → read_bytes l n m base row access ≡ None
    unfolding read_bytes read_padding
    bytes_none char =
        ap (λ z. cond z (read_class_bytes l n m base row access) (read_padding l n m base access)) object
        ∙ ap (λ z. cond z (Some (whole_range l n (kind_of m Char own.signed) all_labels true)) None) (no_span_padding m base.shape.cells base.size h single j own among s w char base refl)

    others_none : own.class ≡ Char → read_others l n m base row access ≡ None
    unfolding read_others other_leaf
    others_none char =
        ap (walk (read_other_leaf l n m base row access) 0 base.shape.cells) (bytes_none char)
        ∙ walk_idle (read_other_leaf l n m base row access) 0 base.shape.cells None (λ i d other e f. let u = untouched char i other e in rw u refl)

    base_read : (c : Bool) → same_class own.class Char ≡ c → read_base l n m base row access ≡ Some cell
    unfolding read_base
    base_read false e = rw e own_read
    base_read true e =
        let a = own_read in
        let none = others_none (same_class_is own.class Char e) in
        rw (e, a, none) refl

    pub reads_cell : read_leaf l n m bases (only_base b) row access ≡ Some cell
    unfolding read_leaf read_base_if
    reads_cell =
        walk_once (read_from l n m row (only_base b) access) 0 bases None b b base at (omega arith) (λ i d other e f g t. let u = has_no_other b d (λ k. g (omega (arith, f, k))) in rw u refl)
        ∙ (let has = has_own b small in rw has (base_read (same_class own.class Char) refl))

  -- ---- writing

  module _ (v : values.Value I) (row : List (Cell I)) where
    abbrev set_row : List (Cell I)
    set_row = put_value row (leaf_position base j) (as_stored n m v own.class own.signed)

    strong : is_strong own access true ≡ true
    strong =
        let lower = w.lower in
        let upper = w.upper in
        let once = w.once in
        let lo : s.first.lo ≡ s.first.hi = omega (arith, lower, upper) in
        and_from _ _ (and_from _ _ (eq-eqb s.count 1 once) (eq-eqb s.first.lo s.first.hi lo)) (eq-eqb own.count 1 (single j own among))

    leaf_set : (t : List (Cell I)) → write_own_leaf l n m base access v true own j t ≡ put_value t (leaf_position base j) (as_stored n m v own.class own.signed)
    unfolding write_leaf_at write_value
    leaf_set t = let r = reached in let g = strong in rw (r, g) refl

    own_set : write_own l n m base access v true row ≡ set_row
    unfolding write_own write_leaves write_class_cell reaches_class write_leaf_at
    own_set =
        let start : write_class_cell l n m base access v row ≡ row = rw object refl in
        rw start (walk_once (write_own_leaf l n m base access v true) 0 base.shape.cells row j j own among (omega arith) (λ i d other e f g t. let u = unreached i other e g in rw u refl)
        ∙ leaf_set row)

    others_stay : own.class ≡ Char → (t : List (Cell I)) → write_others l n m base access v t ≡ t
    unfolding write_others write_other_leaves write_bytes write_other_at
    others_stay char t =
        ap (λ z. walk (write_other_leaf l n m base access v) 0 base.shape.cells (cond z (write_class_bytes l n m base v t) t)) object
        ∙ walk_idle (write_other_leaf l n m base access v) 0 base.shape.cells t (λ i d other e f. let u = untouched char i other e in rw u refl)

    base_set : (c : Bool) → same_class own.class Char ≡ c → write_base l n m base access v true row ≡ set_row
    unfolding write_base
    base_set false e = rw e own_set
    base_set true e =
        let a = own_set in
        let g = others_stay (same_class_is own.class Char e) set_row in
        rw (e, a) g

    all_set : write_all l n m bases (only_base b) access v true row ≡ set_row
    unfolding write_all write_base_if
    all_set =
        walk_once (write_to l n m (only_base b) access v true) 0 bases row b b base at (omega arith) (λ i d other e f g t. let u = has_no_other b d (λ k. g (omega (arith, f, k))) in rw u refl)
        ∙ (let has = has_own b small in rw has (base_set (same_class own.class Char) refl))

  some_place : any_place m bases (only_base b) access ≡ true
  unfolding any_place has_place has_own_place reached_count
  some_place =
      let r = reached in
      let some : (reached_count base.shape.cells own.class s == 0) ≡ false = ne_eqb (reached_count base.shape.cells own.class s) 0 (λ (z : reached_count base.shape.cells own.class s ≡ 0). count_none (λ x. is_reached x own.class s) base.shape.cells j own among r z) in
      let place : has_place m base access ≡ true = or_left _ _ (or_left _ _ (ap not some)) in
      walk_meets (λ z. z ≡ true) (has_place_or m (only_base b) access) (λ k i s g. or_left _ _ g) 0 bases false b b base at (omega arith) (λ t. or_right _ _ (and_from _ _ (has_own b small) place))

  pub sets_cell : (v : values.Value I) (row : List (Cell I)) → write_leaf l n m bases (only_base b) access v true row ≡ Some (put_value row (leaf_position base j) (as_stored n m (near_value l n v) own.class own.signed))
  unfolding write_leaf
  sets_cell v row = let p = some_place in rw p (ap Some (all_set (near_value l n v) row))
