-- What a reallocation makes of the cells of the newest base of its site: what the cells of the old pointer's bases
-- give, over a row that is the same outside of the base.
use Rattle.std.proofs.Common.{◌≡◌, ℕ, ◌+◌, ◌<◌, ◌≤◌, Bool, true, false, Some, List, length, arith, ap, ◌∙◌}
use Rattle.std.specs.Prelude.{slice_get, ℤ}
use Rattle.std.proofs.lemmas.Option.{slice_get_within}
use Rattle.cc_base.specs.Lattices.{LatticeOf}
use Rattle.cc_base.specs.IntegerDomains.{IntegersOf}
use Rattle.c_layout.specs.declared.data_model.Model.{Model}
use Rattle.c_layout.specs.declared.leaf_lists.Class.{Class}
use Rattle.c_layout.specs.declared.leaf_lists.Leaf.{Leaf}
use Rattle.c_layout.specs.declared.shapes.BaseInfo.{BaseInfo}
use Rattle.cfg.specs.WellFormed.{base_values}
use Rattle.value_domain.specs.declared.values.values.Value as values
use Rattle.value_domain.specs.declared.values.row_cells.Cell.{Cell}
use Rattle.value_domain.specs.declared.values.row_cells.Cell.TheVariants.{Value, First, State}
use Rattle.store_objects.specs.declared.allocation.Fresh.{Fresh}
use Rattle.store_objects.specs.Allocations.{fresh_value, fresh_cell, fresh_leaf, fresh_leaves, fresh_class, fresh_classes, fresh_values, fresh_zero, make_instance, make_of, make_fresh}
use Rattle.store_cells.specs.ClassNumbers.{class_at}
use Rattle.store_cells.specs.NearValues.{near_number, near_value}
use Rattle.store_cells.specs.FirstZeroWrites.{set_zeros}
use Rattle.store_cells.specs.RowPositions.{leaf_position, class_position, zero_position, state_position, value_in, zero_in, state_in, cell_at, value_at, zero_at, state_at, near_state, put_state}
use Rattle.store_cells.specs.Walks.{walk, turns}
use Rattle.store_sound.proofs.operations.Only.{only_more, only_leaves, cell_put}
use Rattle.store_sound.proofs.operations.StoreRows.{leaf_is}
use Rattle.store_sound.proofs.operations.StoreValues.{same_value, same_zero}
use Rattle.memory_calls_sound.proofs.allocations.FreshRows.{IsHeapBase, cell_only, leaf_only, leaves_only, classes_only, values_only, zeros_only, state_only, zeros_are, size_is, zero_there, state_there, class_there}
use Rattle.memory_calls_sound.proofs.reallocations.FreshTurns.{walk_over, turns_over}

module _ {I : Type 0} (l : LatticeOf I) (n : IntegersOf I) (m : Model) (bases : List BaseInfo) (base : BaseInfo) (is : IsHeapBase base) (fresh : Fresh I) (row : List (Cell I)) where
  -- the value of a class over some row that is the same outside of the base
  pub record IsGiven (class : Class) (signed : Bool) (v : values.Value I) : Type 0 where
    pub over : List (Cell I)
    pub outside : (at : ℕ) → (base.first ≤ at → at < base.first + base_values base → ⊥) → cell_at over at ≡ cell_at row at
    pub is_value : v ≡ near_value l n (fresh_value l n m bases fresh (record { class = class; signed = signed }) over)

  module _ (size : I) (p : ℤ × ℤ) (some : n.bounds size ≡ Some p) (long : base.first + base_values base ≤ length row) where
    abbrev made : List (Cell I)
    made = put_state (set_zeros base (fresh_zero l n fresh p.0) (fresh_values l n m bases base fresh row)) (state_position base) (record { size = size; live = true; freed = false })

    made_is : make_fresh l n m bases base size fresh row ≡ made
    unfolding make_fresh make_instance
    made_is = ap (λ z. make_of l n m bases base size fresh z row) some

    value_stays : (x : ℕ) → x < base.first + (length base.shape.cells + 6) → value_at l n (make_fresh l n m bases base size fresh row) x ≡ value_at l n (fresh_values l n m bases base fresh row) x
    value_stays x h =
        let values : List (Cell I) = fresh_values l n m bases base fresh row in
        let zeros : List (Cell I) = set_zeros base (fresh_zero l n fresh p.0) values in
        ap (λ z. value_at l n z x) made_is
        ∙ (same_value l n zeros made x ((state_only l n m bases base is (record { size = size; live = true; freed = false })).keeps zeros x (λ f g. omega (arith, h, f)))
        ∙ same_value l n values zeros x ((zeros_only l n m bases base is (fresh_zero l n fresh p.0)).keeps values x (λ f g. omega (arith, h, f))))

    cell_is : (class : Class) (signed : Bool) (x : ℕ) (r : List (Cell I)) → x < length r → value_at l n (fresh_cell l n m bases fresh (record { class = class; signed = signed }) x r) x ≡ near_value l n (fresh_value l n m bases fresh (record { class = class; signed = signed }) r)
    unfolding fresh_cell value_at
    cell_is class signed x r h = ap (λ z. near_value l n (value_in l z)) (cell_put r x (Value (fresh_value l n m bases fresh (record { class = class; signed = signed }) r)) h)

    pub old_leaf_is : (j : ℕ) (leaf : Leaf) → slice_get base.shape.cells j ≡ Some leaf → IsGiven leaf.class leaf.signed (value_at l n (make_fresh l n m bases base size fresh row) (leaf_position base j))
    unfolding fresh_values fresh_leaves
    old_leaf_is j leaf e =
        let t = slice_get_within base.shape.cells j leaf e in
        let x = leaf_is base j is.fits t in
        let leaves : List (Cell I) = walk (fresh_leaf l n m bases base fresh) 0 base.shape.cells row in
        let size_of = size_is l n m bases base is in
        let r = walk_over (fresh_leaf l n m bases base fresh) base.first (base.first + base_values base) (leaf_position base j) 0 base.shape.cells j j leaf e (omega arith)
        (λ i b other f d.
        let u = slice_get_within base.shape.cells i other f in
        let same : b ≡ i = omega (arith, d) in
        let y = leaf_is base b is.fits (omega (arith, u, same)) in
        only_more base.first (base.first + base_values base) (fresh_leaf l n m bases base fresh other b) (omega (arith, y)) (omega (arith, y, u, same, size_of)) (leaf_only l n m bases base is fresh b other))
        (λ i b other f d ne.
        let u = slice_get_within base.shape.cells i other f in
        let same : b ≡ i = omega (arith, d) in
        let y = leaf_is base b is.fits (omega (arith, u, same)) in
        only_leaves (leaf_position base j) (fresh_leaf l n m bases base fresh other b) (leaf_only l n m bases base is fresh b other) (λ v w. ne (omega (arith, same, x, y, v, w))))
        row in
        let before_long = r.long in
        record {
          over = r.before;
          outside = r.outside;
          is_value = value_stays (leaf_position base j) (omega (arith, x, t))
              ∙ (same_value l n leaves (fresh_classes l n m bases base fresh leaves) (leaf_position base j) ((classes_only l n m bases base is fresh).keeps leaves (leaf_position base j) (λ f g. omega (arith, x, t, f)))
              ∙ (same_value l n (fresh_leaf l n m bases base fresh leaf j r.before) leaves (leaf_position base j) r.turn
              ∙ cell_is leaf.class leaf.signed (leaf_position base j) r.before (omega (arith, x, t, before_long, long, size_of))));
        }

    pub old_class_is : (c : ℕ) → c < 6 → IsGiven (class_at c) true (value_at l n (make_fresh l n m bases base size fresh row) (class_position base c))
    unfolding fresh_values fresh_classes
    old_class_is c h =
        let x = class_there l n m bases base is c h in
        let leaves : List (Cell I) = fresh_leaves l n m bases base fresh row in
        let all : List (Cell I) = turns (fresh_class l n m bases base fresh) 6 leaves in
        let size_of = size_is l n m bases base is in
        let leaves_long = (leaves_only l n m bases base is fresh).long row in
        let r = turns_over (fresh_class l n m bases base fresh) base.first (base.first + base_values base) (class_position base c) 6 c h
        (λ k small.
        let y = class_there l n m bases base is k small in
        only_more base.first (base.first + base_values base) (fresh_class l n m bases base fresh k) (omega (arith, y)) (omega (arith, y, small, size_of)) (cell_only l n m bases base is fresh (class_at k) true (class_position base k)))
        (λ k small ne.
        let y = class_there l n m bases base is k small in
        only_leaves (class_position base c) (fresh_class l n m bases base fresh k) (cell_only l n m bases base is fresh (class_at k) true (class_position base k)) (λ v w. ne (omega (arith, x, y, v, w))))
        leaves in
        let before_long = r.long in
        record {
          over = r.before;
          outside = λ at none. r.outside at none ∙ (leaves_only l n m bases base is fresh).keeps row at (λ f g. none f (omega (arith, g, size_of)));
          is_value = value_stays (class_position base c) (omega (arith, x, h))
              ∙ (same_value l n (fresh_class l n m bases base fresh c r.before) all (class_position base c) r.turn
              ∙ cell_is (class_at c) true (class_position base c) r.before (omega (arith, x, h, before_long, leaves_long, long, size_of)));
        }

    pub old_zero_is : zero_at l n (make_fresh l n m bases base size fresh row) (zero_position base 0) ≡ record { at = near_number l n (fresh_zero l n fresh p.0).at }
    unfolding zero_at
    old_zero_is =
        let x = zero_there l n m bases base is in
        let size_of = size_is l n m bases base is in
        let values : List (Cell I) = fresh_values l n m bases base fresh row in
        let zeros : List (Cell I) = set_zeros base (fresh_zero l n fresh p.0) values in
        let values_long = (values_only l n m bases base is fresh).long row in
        ap (λ z. zero_at l n z (zero_position base 0)) made_is
        ∙ (same_zero l n zeros made (zero_position base 0) ((state_only l n m bases base is (record { size = size; live = true; freed = false })).keeps zeros (zero_position base 0) (λ f g. omega (arith, x, f)))
        ∙ (ap (λ z. zero_at l n z (zero_position base 0)) (zeros_are l n m bases base is (fresh_zero l n fresh p.0) values)
        ∙ ap (λ z. record { at = near_number l n (zero_in l z).at }) (cell_put values (zero_position base 0) (First (fresh_zero l n fresh p.0)) (omega (arith, x, values_long, long, size_of)))))

    pub old_state_is : state_at l n (make_fresh l n m bases base size fresh row) (state_position base) ≡ near_state l n (record { size = size; live = true; freed = false })
    unfolding state_at
    old_state_is =
        let x = state_there l n m bases base is in
        let size_of = size_is l n m bases base is in
        let values : List (Cell I) = fresh_values l n m bases base fresh row in
        let zeros : List (Cell I) = set_zeros base (fresh_zero l n fresh p.0) values in
        let values_long = (values_only l n m bases base is fresh).long row in
        let zeros_long = (zeros_only l n m bases base is (fresh_zero l n fresh p.0)).long values in
        ap (λ z. state_at l n z (state_position base)) made_is
        ∙ ap (λ z. near_state l n (state_in l z)) (cell_put zeros (state_position base) (State (record { size = size; live = true; freed = false })) (omega (arith, x, values_long, zeros_long, long, size_of)))
