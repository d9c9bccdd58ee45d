-- Allocations leave rows from a floor on, and give pointers from it on.
use Rattle.std.specs.Prelude.{ℕ, ◌&&◌, ℤ, pos, Bool, true, false, Option, Some, None, is_some, List, length, slice_get}
use Rattle.std.proofs.Common.{arith}
use Rattle.std.proofs.lemmas.Int.{ints}
use Rattle.std.proofs.lemmas.Bool.{cond_both}
use Rattle.cc_base.specs.Lattices.{LatticeOf}
use Rattle.cc_base.specs.NumberRanges.{Range}
use Rattle.cc_base.specs.IntegerDomains.{IntegersOf}
use Rattle.c_layout.specs.declared.data_model.Model.{Model}
use Rattle.c_layout.specs.declared.leaf_lists.Class.{Class}
use Rattle.c_layout.specs.declared.shapes.BaseInfo.{BaseInfo}
use Rattle.pointer_domain.specs.declared.base_sets.Bases.{Bases}
use Rattle.pointer_domain.specs.declared.pointer_sets.Pointers.{Pointers}
use Rattle.pointer_domain.specs.BaseSets.{no_base, bases_has, bases_with, bases_without}
use Rattle.pointer_domain.specs.PointerTables as pointers
use Rattle.value_domain.specs.declared.values.values.Value as values
use Rattle.value_domain.specs.declared.values.row_cells.Cell.{Cell}
use Rattle.value_domain.specs.declared.values.row_cells.Cell.TheVariants.{Nothing, Value, First, State, Mixed}
use Rattle.value_domain.specs.Values.Values.{value_lattice}
use Rattle.value_domain.specs.Values.ValueTables.{blank_value}
use Rattle.store_objects.specs.declared.allocation.Fresh.{Fresh}
use Rattle.store_objects.specs.declared.allocation.Fresh.TheVariants.{Blank, Zero, Old}
use Rattle.store_objects.specs.Allocations.{is_named, site_of, renamed, renamed_cell, join_cell, join_values, join_part, join_zeros, join_state, join_base, in_target, class_cell, joined_if, class_leaf, class_values, old_more, old_value, fresh_value, fresh_cell, fresh_leaf, fresh_leaves, fresh_class, fresh_classes, fresh_values, make_instance, make_nothing, make_of, make_fresh, free_old, replaced, renew_site, renew_found, renew, is_fresh, fresh_pointer, renewed_pointer}
use Rattle.store_cells.specs.ByteWrites.{null_pointer}
use Rattle.store_cells.specs.ClassNumbers.{class_number, class_at, same_class}
use Rattle.store_objects.specs.LiveBases.{has_base}
use Rattle.store_cells.specs.RowPositions.{leaf_position, class_position, value_count, value_at, join_zero}
use Rattle.row_bounds.specs.Stores.Floors.{IsFrom, IsPointerFrom, IsValueFrom, IsCellFrom, AreFrom, KeepsFrom}
use Rattle.row_bounds.proofs.stores.Ranges.{FloorLaws, one_from, low_from}
use Rattle.row_bounds.proofs.stores.Values.{no_pointer_from, least_value_from, join_value_from, stored_from, zero_value_from, at_from}
use Rattle.row_bounds.proofs.stores.Rows.{walk_keeps, set_from, row_walk, row_turns, row_map, zeros_set, join_keeps}
use Rattle.row_bounds.proofs.stores.Objects.{values_set, free_bases_keep}

module _ {I : Type 0} {l : LatticeOf I} {n : IntegersOf I} {stands : I → ℤ → Type 0} {floor : ℤ} (k : FloorLaws l n stands floor) where
  abbrev PointerFrom : Pointers I → Type 0
  PointerFrom p = IsPointerFrom n floor p

  abbrev ValueFrom : values.Value I → Type 0
  ValueFrom v = IsValueFrom n floor v

  -- ---- the newest base becomes part of the older one

  renamed_from : (newest older : ℕ) (p : Pointers I) → IsPointerFrom n floor p → IsPointerFrom n floor (renamed (site_of newest older) p)
  renamed_from newest older p h = cond_both (is_named (site_of newest older)) (pointers.renamed p newest older) p PointerFrom
      (λ e. cond_both (bases_has p.bases newest) (record p { bases = bases_with (bases_without p.bases newest) older }) p PointerFrom (λ f. h) (λ f. h)) (λ e. h)

  cell_renamed : (newest older : ℕ) (c : Cell I) → IsCellFrom n floor c → IsCellFrom n floor (renamed_cell (site_of newest older) c)
  cell_renamed newest older Nothing h = tt
  cell_renamed newest older (Value v) h = (h.0, renamed_from newest older v.pointer h.1)
  cell_renamed newest older (First f) h = tt
  cell_renamed newest older (State s) h = tt
  cell_renamed newest older Mixed h = tt

  values_joined : (new old : BaseInfo) → KeepsFrom n floor (join_values l n new old)
  unfolding join_values join_cell
  values_joined new old row j = row_turns n floor (join_cell l n new old) (λ at x q. join_keeps k (leaf_position old at) (value_at l n x (leaf_position new at)) (at_from k x (leaf_position new at) q) x q) (value_count new) row j

  zeros_joined : (new old : BaseInfo) → KeepsFrom n floor (join_zeros l n new old)
  unfolding join_zeros join_part join_zero
  zeros_joined new old row j = row_turns n floor (join_part l n new old) (λ at x q. set_from n floor x _ (First _) tt q) (length new.shape.zeros) row j

  base_joined : (new old : BaseInfo) → KeepsFrom n floor (join_base l n new old)
  unfolding join_base join_state
  base_joined new old row j = set_from n floor _ _ (State _) tt (zeros_joined new old _ (values_joined new old row j))

  -- ---- the bytes of the fresh instance

  module _ (m : Model) (row : List (Cell I)) (j : AreFrom n floor row) (class : Class) (signed : Bool) where
    in_from : (v : values.Value I) → IsValueFrom n floor v → IsValueFrom n floor (in_target n m v (record { class = class; signed = signed }))
    in_from v h = stored_from k m v class signed h

    if_from : (wanted : Bool) (v w : values.Value I) → IsValueFrom n floor v → IsValueFrom n floor w → IsValueFrom n floor (joined_if l wanted v w)
    if_from true v w h q = join_value_from k v w h q
    if_from false v w h q = h

    cell_from : (base : BaseInfo) → IsValueFrom n floor (class_cell l n m row (record { class = class; signed = signed }) base)
    unfolding class_cell
    cell_from base = cond_both base.shape.heap (in_target n m (value_at l n row (class_position base (class_number class))) (record { class = class; signed = signed })) ((value_lattice l).least) ValueFrom
        (λ e. in_from (value_at l n row (class_position base (class_number class))) (at_from k row (class_position base (class_number class)) j)) (λ e. least_value_from k)

    class_from : (base : BaseInfo) → IsValueFrom n floor (class_values l n m row (record { class = class; signed = signed }) base)
    unfolding class_values
    class_from base = walk_keeps ValueFrom (class_leaf l n m row (record { class = class; signed = signed }) base)
        (λ leaf at x q. if_from (same_class leaf.class class) x (in_target n m (value_at l n row (leaf_position base at)) (record { class = class; signed = signed })) q (in_from (value_at l n row (leaf_position base at)) (at_from k row (leaf_position base at) j)))
        0 base.shape.cells (class_cell l n m row (record { class = class; signed = signed }) base) (cell_from base)

    old_from : (bases : List BaseInfo) (set : Bases) → IsValueFrom n floor (old_value l n m bases row set (record { class = class; signed = signed }))
    unfolding old_value
    old_from bases set = walk_keeps ValueFrom (old_more l n m row set (record { class = class; signed = signed })) (λ base number x q. if_from (has_base set number) x (class_values l n m row (record { class = class; signed = signed }) base) q (class_from base)) 0 bases ((value_lattice l).least) (least_value_from k)

    fresh_from : (bases : List BaseInfo) (fresh : Fresh I) → IsValueFrom n floor (fresh_value l n m bases fresh (record { class = class; signed = signed }) row)
    unfolding fresh_value
    fresh_from bases Blank = least_value_from k
    fresh_from bases Zero = zero_value_from k class
    fresh_from bases (Old p) = join_value_from k (blank_value l) (old_value l n m bases row p.bases (record { class = class; signed = signed })) (least_value_from k) (old_from bases p.bases)

  values_fresh : (m : Model) (bases : List BaseInfo) (new : BaseInfo) (fresh : Fresh I) → KeepsFrom n floor (fresh_values l n m bases new fresh)
  unfolding fresh_values fresh_classes fresh_leaves fresh_cell
  values_fresh m bases new fresh row j = row_turns n floor (fresh_class l n m bases new fresh) (λ at x q. set_from n floor x _ (Value _) (fresh_from m x q (class_at at) true bases fresh) q) 6 _
      (row_walk n floor (fresh_leaf l n m bases new fresh) (λ leaf at x q. set_from n floor x _ (Value _) (fresh_from m x q leaf.class leaf.signed bases fresh) q) 0 new.shape.cells row j)

  made_from : (m : Model) (bases : List BaseInfo) (new : BaseInfo) (size : I) (fresh : Fresh I) (r : Range) → KeepsFrom n floor (make_of l n m bases new size fresh r)
  unfolding make_nothing make_instance
  made_from m bases new size fresh None row j = set_from n floor _ _ (State _) tt (zeros_set n floor new _ _ (values_set k new _ (least_value_from k) row j))
  made_from m bases new size fresh (Some p) row j = set_from n floor _ _ (State _) tt (zeros_set n floor new _ _ (values_fresh m bases new fresh row j))

  old_freed : (bases : List BaseInfo) (fresh : Fresh I) → KeepsFrom n floor (free_old l n bases fresh)
  unfolding free_old
  old_freed bases Blank row j = j
  old_freed bases Zero row j = j
  old_freed bases (Old p) row j = free_bases_keep k bases p.bases false row j

  found_from : (m : Model) (bases : List BaseInfo) (newest older : ℕ) (size : I) (fresh : Fresh I) (new old : Option BaseInfo) → KeepsFrom n floor (renew_found l n m bases (site_of newest older) size fresh new old)
  unfolding renew_site replaced make_fresh
  found_from m bases newest older size fresh None old row j = j
  found_from m bases newest older size fresh (Some new) None row j = j
  found_from m bases newest older size fresh (Some new) (Some old) row j = old_freed bases _ _ (made_from m bases new size _ (n.bounds size) _ (base_joined new old _ (row_map n floor (renamed_cell (site_of newest older)) (cell_renamed newest older) row j)))

  pub renew_keeps : (m : Model) (bases : List BaseInfo) (newest older : ℕ) (size : I) (fresh : Fresh I) → KeepsFrom n floor (renew l n m bases newest older size fresh)
  unfolding renew
  renew_keeps m bases newest older size fresh row j = found_from m bases newest older size fresh (slice_get bases newest) (slice_get bases older) row j

  -- ---- the pointer to it

  fresh_pointer_from : (newest older : ℕ) (size : I) → IsFrom (pos 0) (n.bounds size) → IsPointerFrom n floor (fresh_pointer l n (site_of newest older) size)
  unfolding fresh_pointer
  fresh_pointer_from newest older size h = cond_both (is_fresh n (site_of newest older) size) (record { bases = bases_with no_base newest; lo = n.one (pos 0); rel = n.one (pos 0); len = size; part = false; null = true; ended = false }) (null_pointer l) PointerFrom
      (λ e. (one_from k (pos 0) (pos 0) (omega (arith, ints)), low_from k (pos 0) (omega (arith, ints)), h)) (λ e. no_pointer_from k)

  pub renewed_from : (bases : List BaseInfo) (newest older : ℕ) (size : I) → IsFrom (pos 0) (n.bounds size) → IsPointerFrom n floor (renewed_pointer l n bases (site_of newest older) size)
  unfolding renewed_pointer
  renewed_from bases newest older size h = cond_both (is_some (slice_get bases newest) && is_some (slice_get bases older)) (fresh_pointer l n (site_of newest older) size) (null_pointer l) PointerFrom (λ e. fresh_pointer_from newest older size h) (λ e. no_pointer_from k)
