-- Allocations leave consistent rows.
use Rattle.std.specs.Prelude.{◌≡◌, ℕ, ◌<◌, ℤ, Bool, true, false, cond, ◌&&◌, Option, Some, None, List, [], ◌∷◌, length, map, slice_get, refl}
use Rattle.std.proofs.Common.{arith}
use Rattle.cc_base.specs.Lattices.{LatticeOf, OrderLaws}
use Rattle.cc_base.specs.NumberRanges.{Range}
use Rattle.cc_base.specs.IntegerDomains.{IntegersOf, BoundLaws, RangeLaws}
use Rattle.cc_base.specs.IntegerLaws.{MonotoneLaws}
use Rattle.c_layout.specs.declared.data_model.Model.{Model}
use Rattle.c_layout.specs.declared.leaf_lists.Class.{Class}
use Rattle.c_layout.specs.declared.shapes.BaseInfo.{BaseInfo}
use Rattle.pointer_domain.specs.BaseSets.{bases_has}
use Rattle.pointer_domain.specs.PointerLattice.{pointer_order}
use Rattle.pointer_domain.specs.declared.base_sets.Bases.{Bases}
use Rattle.value_domain.specs.Strings.FirstZeros.{zero_lattice}
use Rattle.value_domain.specs.declared.values.values.Value as values
use Rattle.value_domain.specs.declared.values.row_cells.Cell.{Cell}
use Rattle.value_domain.specs.declared.values.row_cells.Cell.TheVariants.{Nothing, Value, First, State, Mixed}
use Rattle.value_domain.specs.Values.AllocStates.{state_lattice}
use Rattle.value_domain.specs.Values.Values.{value_lattice}
use Rattle.value_domain.specs.Values.ValueTables.{blank_value}
use Rattle.store_objects.specs.declared.allocation.Fresh.{Fresh}
use Rattle.store_objects.specs.declared.allocation.Fresh.TheVariants.{Blank, Zero, Old}
use Rattle.store_cells.specs.ClassNumbers.{class_number, class_at, same_class, is_pointer}
use Rattle.store_objects.specs.LiveBases.{has_base}
use Rattle.store_objects.specs.Freeing.{free_base, free_bases}
use Rattle.store_cells.specs.FirstZeroWrites.{set_zeros}
use Rattle.store_objects.specs.ObjectLives.{set_values}
use Rattle.store_cells.specs.RowPositions.{cell_at, leaf_position, class_position, zero_position, state_position, value_count, value_at, zero_at, state_at, join_zero}
use Rattle.store_cells.specs.ScalarTypes.{kind_of}
use Rattle.store_objects.specs.Allocations.{site_of, renamed_cell, renamed_fresh, join_cell, join_values, join_part, join_zeros, join_state, join_base, in_target, class_cell, joined_if, class_leaf, class_values, old_more, old_value, fresh_value, fresh_cell, fresh_leaf, fresh_leaves, fresh_class, fresh_classes, fresh_values, fresh_zero, make_instance, make_nothing, make_of, make_fresh, free_old, replaced, renew_site, renew_found, renew}
use Rattle.store_monotone.specs.Operations.TopCells.{top_value}
use Rattle.store_monotone.specs.Operations.Placements.{EachFrom, IsPlaced}
use Rattle.store_monotone.specs.Operations.ConsistentRows.{IsConsistentCell, AreConsistent}
use Rattle.store_monotone.specs.Operations.StoreLaws.{IsSite, FreshBelow}
use Rattle.store_monotone.proofs.operations.PairedSteps.{walk_pair, turns_pair, numbers_below, any_each}
use Rattle.store_monotone.proofs.operations.NearCells.{value_at_top}
use Rattle.store_monotone.proofs.operations.OwnValues.{each_get, value_placed}
use Rattle.store_monotone.proofs.operations.ObjectLives.{AreGreatest}
use Rattle.store_monotone.proofs.operations.OldBytes.{fresh_own}
use Rattle.store_monotone.proofs.operations.Loads.{class_small}
use Rattle.store_monotone.proofs.operations.Allocations.{renamed_row, base_joined}
use Rattle.store_monotone.proofs.operations.Consistent.{IsEven, even_join, even_bare, set_keeps}
use Rattle.store_monotone.proofs.operations.ConsistentPointers.{renamed_pointer_even}
use Rattle.store_monotone.proofs.operations.ConsistentStores.{IsKept, pair_of, at_even, either_even, row_reflexive, put_kept, joined_kept}
use Rattle.store_monotone.proofs.operations.ConsistentLives.{freed_at, zeros_even, values_even, zero_even}

module _ {I : Type 0} {l : LatticeOf I} {n : IntegersOf I} {stands : I → ℤ → Type 0} (o : OrderLaws l) (b : BoundLaws l n stands) where
  -- ---- names

  cell_renamed : (newest older : ℕ) (c : Cell I) → IsConsistentCell n c → IsConsistentCell n (renamed_cell (site_of newest older) c)
  cell_renamed newest older Nothing h = tt
  cell_renamed newest older (Value v) h = renamed_pointer_even o b newest older v.pointer h
  cell_renamed newest older (First f) h = tt
  cell_renamed newest older (State s) h = tt
  cell_renamed newest older Mixed h = tt

  row_renamed : (newest older : ℕ) (row : List (Cell I)) → AreConsistent n row → AreConsistent n (map (renamed_cell (site_of newest older)) row)
  row_renamed newest older [] h = tt
  row_renamed newest older (c ∷ cs) h = (cell_renamed newest older c h.0, row_renamed newest older cs h.1)

  fresh_same : (fresh : Fresh I) → FreshBelow l fresh fresh
  fresh_same Blank = tt
  fresh_same Zero = tt
  fresh_same (Old p) = (pointer_order o).reflexive p

  -- ---- the old instances, perhaps freed

  old_freed : (bases : List BaseInfo) (fresh : Fresh I) (row : List (Cell I)) → AreConsistent n row → AreConsistent n (free_old l n bases fresh row)
  unfolding free_old free_bases
  old_freed bases Blank row h = h
  old_freed bases Zero row h = h
  old_freed bases (Old p) row h = walk_pair (λ base number. Unit {0}) (λ x y. AreConsistent n x) (free_base l n p.bases false) (free_base l n p.bases false)
      (λ base number x y e j. freed_at o b (has_base p.bases number && base.shape.heap) false base x j) 0 bases row row (any_each 0 bases) h

  -- ---- no instance

  nothing_even : (new : BaseInfo) (row : List (Cell I)) → AreConsistent n row → AreConsistent n (make_nothing l new row)
  unfolding make_nothing
  nothing_even new row h = set_keeps n (set_zeros new ((zero_lattice l).least) (set_values new ((value_lattice l).least) row)) (state_position new) (State ((state_lattice l).least))
      (zeros_even o b new ((zero_lattice l).least) (set_values new ((value_lattice l).least) row) (values_even o b new ((value_lattice l).least) (even_bare o b false false) row h)) tt

  module _ (all : Bases) (top : List (Cell I)) where
    -- ---- the newest base becomes part of the older one

    module _ (new old : BaseInfo) (p : IsPlaced n all top new) (q : IsPlaced n all top old) (place : IsSite new old) where
      values_joined : (row : List (Cell I)) → IsKept o b all top row → IsKept o b all top (join_values l n new old row)
      unfolding join_values join_cell
      values_joined row k = turns_pair (λ x y. IsKept o b all top x) (join_cell l n new old) (join_cell l n new old) (value_count new)
          (λ at x y h j.
          let c = place.values in
          let t = value_placed n all top new p at h in
          joined_kept o b all top (leaf_position old at) (value_placed n all top old q at (omega arith)) (value_at l n x (leaf_position new at)) (at_even o b all top (leaf_position new at) t x j)
          (value_at_top o b all top x x (leaf_position new at) (row_reflexive o b x) j.own t) x j)
          (value_count new) row row (omega arith) k

      zeros_joined : (row : List (Cell I)) → AreConsistent n row → AreConsistent n (join_zeros l n new old row)
      unfolding join_zeros join_part join_zero
      zeros_joined row h = turns_pair (λ x y. AreConsistent n x) (join_part l n new old) (join_part l n new old) (length new.shape.zeros)
          (λ at x y e j. set_keeps n x (zero_position old at) (First ((zero_lattice l).join (zero_at l n x (zero_position old at)) (zero_at l n x (zero_position new at)))) j tt)
          (length new.shape.zeros) row row (omega arith) h

      both_joined : (row : List (Cell I)) → IsKept o b all top row → IsKept o b all top (join_base l n new old row)
      unfolding join_base join_state
      both_joined row k =
          let zeros = join_zeros l n new old (join_values l n new old row) in
          record {
            own = (base_joined o b all top new old p q place row row (pair_of o b all top row k)).large;
            even = set_keeps n zeros (state_position old) (State ((state_lattice l).join (state_at l n zeros (state_position old)) (state_at l n zeros (state_position new)))) (zeros_joined (join_values l n new old row) (values_joined row k).even) tt;
          }

    -- ---- the bytes of the old instances

    module _ (m : Model) (row : List (Cell I)) (k : IsKept o b all top row) (class : Class) (signed : Bool) where
      in_even : (v : values.Value I) → IsEven n v.pointer → IsEven n (in_target n m v (record { class = class; signed = signed })).pointer
      in_even v h = either_even o b (is_pointer class) v (n.convert v.num (kind_of m class signed)) h

      if_even : (t : Bool) (v w : values.Value I) → IsEven n v.pointer → IsEven n w.pointer → IsEven n (joined_if l t v w).pointer
      if_even true v w h j = even_join o b v.pointer w.pointer h j
      if_even false v w h j = h

      cell_even : (base : BaseInfo) → IsPlaced n all top base → IsEven n (class_cell l n m row (record { class = class; signed = signed }) base).pointer
      unfolding class_cell
      cell_even base p = by_heap base.shape.heap refl
        where
          by_heap : (heap : Bool) → base.shape.heap ≡ heap → IsEven n (cond heap (in_target n m (value_at l n row (class_position base (class_number class))) (record { class = class; signed = signed })) ((value_lattice l).least)).pointer
          by_heap true e = in_even (value_at l n row (class_position base (class_number class))) (at_even o b all top (class_position base (class_number class)) (p.class (class_number class) e (class_small class)) row k)
          by_heap false e = even_bare o b false false

      class_even : (base : BaseInfo) → IsPlaced n all top base → IsEven n (class_values l n m row (record { class = class; signed = signed }) base).pointer
      unfolding class_values
      class_even base p = walk_pair (λ leaf at. at < length base.shape.cells) (λ (x y : values.Value I). IsEven n x.pointer) (class_leaf l n m row (record { class = class; signed = signed }) base) (class_leaf l n m row (record { class = class; signed = signed }) base)
          (λ leaf at x y e j. if_even (same_class leaf.class class) x (in_target n m (value_at l n row (leaf_position base at)) (record { class = class; signed = signed })) j
          (in_even (value_at l n row (leaf_position base at)) (at_even o b all top (leaf_position base at) (p.leaf at e) row k)))
          0 base.shape.cells (class_cell l n m row (record { class = class; signed = signed }) base) (class_cell l n m row (record { class = class; signed = signed }) base)
          (numbers_below (length base.shape.cells) 0 base.shape.cells (omega arith)) (cell_even base p)

      module _ (bases : List BaseInfo) (each : EachFrom (λ base number. IsPlaced n all top base) 0 bases) where
        old_even : (set : Bases) → IsEven n (old_value l n m bases row set (record { class = class; signed = signed })).pointer
        unfolding old_value
        old_even set = walk_pair (λ base number. IsPlaced n all top base) (λ (x y : values.Value I). IsEven n x.pointer) (old_more l n m row set (record { class = class; signed = signed })) (old_more l n m row set (record { class = class; signed = signed }))
            (λ base number x y p j. if_even (has_base set number) x (class_values l n m row (record { class = class; signed = signed }) base) j (class_even base p))
            0 bases ((value_lattice l).least) ((value_lattice l).least) each (even_bare o b false false)

        fresh_even : (fresh : Fresh I) → IsEven n (fresh_value l n m bases fresh (record { class = class; signed = signed }) row).pointer
        unfolding fresh_value
        fresh_even Blank = even_bare o b false false
        fresh_even Zero = zero_even o b class
        fresh_even (Old p) = even_join o b (blank_value l).pointer (old_value l n m bases row p.bases (record { class = class; signed = signed })).pointer (even_bare o b false false) (old_even p.bases)

    -- ---- the fresh instance

    module _ (f : RangeLaws l n) (g : MonotoneLaws l n) (m : Model) (bases : List BaseInfo) (each : EachFrom (λ base number. IsPlaced n all top base) 0 bases) (fresh : Fresh I) (new : BaseInfo) (p : IsPlaced n all top new) (heap : new.shape.heap ≡ true) where
      cell_fresh : (class : Class) (signed : Bool) (i : ℕ) → cell_at top i ≡ Value (top_value n all) → (row : List (Cell I)) → IsKept o b all top row → IsKept o b all top (fresh_cell l n m bases fresh (record { class = class; signed = signed }) i row)
      unfolding fresh_cell
      cell_fresh class signed i e row k = put_kept o b all top i e (fresh_value l n m bases fresh (record { class = class; signed = signed }) row) (fresh_even m row k class signed bases each fresh)
          (fresh_own o b all f g m top row row (pair_of o b all top row k) class signed bases each fresh fresh (fresh_same fresh)).large row k

      values_fresh : (row : List (Cell I)) → IsKept o b all top row → IsKept o b all top (fresh_values l n m bases new fresh row)
      unfolding fresh_values fresh_classes fresh_leaves
      values_fresh row k =
          let leaves = walk_pair (λ leaf at. at < length new.shape.cells) (λ x y. IsKept o b all top x) (fresh_leaf l n m bases new fresh) (fresh_leaf l n m bases new fresh)
          (λ leaf at x y e j. cell_fresh leaf.class leaf.signed (leaf_position new at) (p.leaf at e) x j)
          0 new.shape.cells row row (numbers_below (length new.shape.cells) 0 new.shape.cells (omega arith)) k in
          turns_pair (λ x y. IsKept o b all top x) (fresh_class l n m bases new fresh) (fresh_class l n m bases new fresh) 6
          (λ at x y e j. cell_fresh (class_at at) true (class_position new at) (p.class at heap e) x j)
          6 (fresh_leaves l n m bases new fresh row) (fresh_leaves l n m bases new fresh row) (omega arith) leaves

      made_even : (size : I) (range : Range) (row : List (Cell I)) → IsKept o b all top row → AreConsistent n (make_of l n m bases new size fresh range row)
      unfolding make_instance
      made_even size None row k = nothing_even new row k.even
      made_even size (Some r) row k = set_keeps n (set_zeros new (fresh_zero l n fresh r.0) (fresh_values l n m bases new fresh row)) (state_position new) (State (record { size = size; live = true; freed = false }))
          (zeros_even o b new (fresh_zero l n fresh r.0) (fresh_values l n m bases new fresh row) (values_fresh row k).even) tt

      replaced_even : (size : I) (row : List (Cell I)) → IsKept o b all top row → AreConsistent n (replaced l n m bases new size fresh row)
      unfolding replaced make_fresh
      replaced_even size row k = old_freed bases fresh (make_fresh l n m bases new size fresh row) (made_even size (n.bounds size) row k)

    -- ---- the call

    module _ (f : RangeLaws l n) (g : MonotoneLaws l n) (m : Model) (bases : List BaseInfo) (each : EachFrom (λ base number. IsPlaced n all top base) 0 bases) (greatest : AreGreatest n all top) (newest older : ℕ) (has : bases_has all older ≡ true) where
      pub renew_even : ((new old : BaseInfo) → slice_get bases newest ≡ Some new → slice_get bases older ≡ Some old → IsSite new old) → (size : I) (fresh : Fresh I) (row : List (Cell I)) → IsKept o b all top row → AreConsistent n (renew l n m bases newest older size fresh row)
      unfolding renew renew_site
      renew_even places size fresh row k = by_found (slice_get bases newest) (slice_get bases older) refl refl
        where
          by_found : (new old : Option BaseInfo) → slice_get bases newest ≡ new → slice_get bases older ≡ old → AreConsistent n (renew_found l n m bases (site_of newest older) size fresh new old row)
          by_found None old u v = k.even
          by_found (Some new) None u v = k.even
          by_found (Some new) (Some old) u v =
              let place = places new old u v in
              let p = each_get (λ base number. IsPlaced n all top base) 0 newest bases new each u in
              let q = each_get (λ base number. IsPlaced n all top base) 0 older bases old each v in
              let named : IsKept o b all top (map (renamed_cell (site_of newest older)) row) = record {
                own = (renamed_row o b all newest older has top row row greatest k.even (pair_of o b all top row k)).large;
                even = row_renamed newest older row k.even;
              } in
              replaced_even f g m bases each (renamed_fresh (site_of newest older) fresh) new p place.new_heap size (join_base l n new old (map (renamed_cell (site_of newest older)) row))
              (both_joined new old p q place (map (renamed_cell (site_of newest older)) row) named)
