-- What begins, ends or frees an object keeps the length of a row.
use Rattle.std.specs.Prelude.{◌≡◌, ℕ, ℤ, Bool, true, false, not, ◌&&◌, Option, Some, None, List, length, map, set, slice_get}
use Rattle.std.proofs.Common.{◌∙◌, refl}
use Rattle.std.proofs.lemmas.List.{length-set, length-map}
use Rattle.cc_base.specs.Lattices.{LatticeOf}
use Rattle.cc_base.specs.IntegerDomains.{IntegersOf}
use Rattle.cc_base.specs.NumberRanges.{Range}
use Rattle.c_layout.specs.declared.data_model.Model.{Model}
use Rattle.c_layout.specs.declared.shapes.BaseInfo.{BaseInfo}
use Rattle.pointer_domain.specs.declared.base_sets.Bases.{Bases}
use Rattle.pointer_domain.specs.declared.pointer_sets.Pointers.{Pointers}
use Rattle.value_domain.specs.Strings.FirstZeros.{zero_lattice}
use Rattle.value_domain.specs.declared.values.values.Value as values
use Rattle.value_domain.specs.declared.values.row_cells.Cell.{Cell}
use Rattle.value_domain.specs.declared.values.row_cells.Cell.TheVariants.{Value, State}
use Rattle.value_domain.specs.Values.Values.{value_lattice}
use Rattle.value_domain.specs.Values.AllocStates.{state_lattice}
use Rattle.value_domain.specs.Values.ValueTables.{blank_value}
use Rattle.store_objects.specs.declared.allocation.Fresh.{Fresh}
use Rattle.store_objects.specs.declared.allocation.Fresh.TheVariants.{Blank, Zero, Old}
use Rattle.store_objects.specs.declared.allocation.Site.{Site}
use Rattle.store_objects.specs.declared.allocation.Target.{Target}
use Rattle.store_cells.specs.RowPositions.{leaf_position, class_position, zero_position, state_position, value_count, value_at, zero_at, state_at, put_state}
use Rattle.store_cells.specs.FirstZeroWrites.{set_zeros, no_zero, zero_first}
use Rattle.store_objects.specs.LiveBases.{is_one_instance}
use Rattle.store_objects.specs.ObjectLives.{set_cell, set_values, blank_object, at_base, forget, zero_value, clear_leaf, clear_leaves, clear_object, clear, ended_cell, leave_object, leave}
use Rattle.store_objects.specs.Freeing.{is_heap_in, freed_state, free_base_if, free_base, free_bases, free}
use Rattle.store_objects.specs.Allocations.{renamed_cell, renamed_fresh, join_cell, join_values, join_part, join_zeros, join_state, join_base, leaf_target, class_target, fresh_value, fresh_cell, fresh_leaf, fresh_leaves, fresh_class, fresh_classes, fresh_values, fresh_zero, make_instance, make_nothing, make_of, make_fresh, free_old, replaced, renew_site, renew_found, site_of, renew}
use Rattle.store_cells.specs.RowLengths.{walk_keeps, turns_keep, cond_keeps, join_value_keeps, join_zero_keeps, set_zeros_keeps}

pub base_keeps : {I : Type 0} (f : BaseInfo → List (Cell I) → List (Cell I)) → ((base : BaseInfo) (row : List (Cell I)) → length (f base row) ≡ length row) → (base : Option BaseInfo) (row : List (Cell I)) → length (at_base f base row) ≡ length row
base_keeps f h None row = refl
base_keeps f h (Some base) row = h base row

module _ {I : Type 0} (l : LatticeOf I) (n : IntegersOf I) where
  -- ---- the life of objects

  pub set_values_keeps : (base : BaseInfo) (v : values.Value I) (row : List (Cell I)) → length (set_values base v row) ≡ length row
  unfolding set_values
  set_values_keeps base v row = turns_keep (set_cell base v) (λ at r. length-set r (leaf_position base at) (Value v)) (value_count base) row

  blank_object_keeps : (base : BaseInfo) (row : List (Cell I)) → length (blank_object l n base row) ≡ length row
  unfolding blank_object
  blank_object_keeps base row = set_zeros_keeps l n base (no_zero n) (set_values base (blank_value l) row) ∙ set_values_keeps base (blank_value l) row

  pub forget_keeps : (bases : List BaseInfo) (number : ℕ) (row : List (Cell I)) → length (forget l n bases number row) ≡ length row
  unfolding forget
  forget_keeps bases number row = base_keeps (blank_object l n) (λ base r. blank_object_keeps base r) (slice_get bases number) row

  clear_leaves_keeps : (base : BaseInfo) (row : List (Cell I)) → length (clear_leaves l n base row) ≡ length row
  unfolding clear_leaves
  clear_leaves_keeps base row = walk_keeps (clear_leaf l n base) (λ leaf at r. length-set r (leaf_position base at) (Value (zero_value l n leaf.class))) 0 base.shape.cells row

  clear_object_keeps : (base : BaseInfo) (row : List (Cell I)) → length (clear_object l n base row) ≡ length row
  unfolding clear_object
  clear_object_keeps base row = set_zeros_keeps l n base (zero_first n) (clear_leaves l n base row) ∙ clear_leaves_keeps base row

  pub clear_keeps : (bases : List BaseInfo) (number : ℕ) (row : List (Cell I)) → length (clear l n bases number row) ≡ length row
  unfolding clear
  clear_keeps bases number row = base_keeps (clear_object l n) (λ base r. clear_object_keeps base r) (slice_get bases number) row

  leave_object_keeps : (number : ℕ) (base : BaseInfo) (row : List (Cell I)) → length (leave_object l number base row) ≡ length row
  unfolding leave_object
  leave_object_keeps number base row =
      let ended = map (ended_cell l number) row in
      let gone = set_values base ((value_lattice l).least) ended in
      set_zeros_keeps l n base ((zero_lattice l).least) gone ∙ (set_values_keeps base ((value_lattice l).least) ended ∙ length-map row (ended_cell l number))

  pub leave_keeps : (bases : List BaseInfo) (number : ℕ) (row : List (Cell I)) → length (leave l bases number row) ≡ length row
  unfolding leave
  leave_keeps bases number row = base_keeps (leave_object l number) (λ base r. leave_object_keeps number base r) (slice_get bases number) row

  -- ---- allocation and release

  free_base_keeps : (set : Bases) (surely : Bool) (base : BaseInfo) (number : ℕ) (row : List (Cell I)) → length (free_base l n set surely base number row) ≡ length row
  unfolding free_base_if
  free_base_keeps set surely base number row =
      let freed = freed_state surely (state_at l n row (state_position base)) in
      cond_keeps (is_heap_in set base number) (put_state row (state_position base) freed) row row (length-set row (state_position base) (State freed)) refl

  pub free_bases_keeps : (bases : List BaseInfo) (set : Bases) (surely : Bool) (row : List (Cell I)) → length (free_bases l n bases set surely row) ≡ length row
  unfolding free_bases
  free_bases_keeps bases set surely row = walk_keeps (free_base l n set surely) (λ base number r. free_base_keeps set surely base number r) 0 bases row

  pub free_keeps : (bases : List BaseInfo) (p : Pointers I) (row : List (Cell I)) → length (free l n bases p row) ≡ length row
  unfolding free
  free_keeps bases p row = free_bases_keeps bases p.bases (is_one_instance bases p.bases && not p.null) row

  join_cell_keeps : (new old : BaseInfo) (at : ℕ) (row : List (Cell I)) → length (join_cell l n new old at row) ≡ length row
  unfolding join_cell
  join_cell_keeps new old at row = join_value_keeps l n row (leaf_position old at) (value_at l n row (leaf_position new at))

  join_values_keeps : (new old : BaseInfo) (row : List (Cell I)) → length (join_values l n new old row) ≡ length row
  unfolding join_values
  join_values_keeps new old row = turns_keep (join_cell l n new old) (λ at r. join_cell_keeps new old at r) (value_count new) row

  join_part_keeps : (new old : BaseInfo) (at : ℕ) (row : List (Cell I)) → length (join_part l n new old at row) ≡ length row
  unfolding join_part
  join_part_keeps new old at row = join_zero_keeps l n row (zero_position old at) (zero_at l n row (zero_position new at))

  join_zeros_keeps : (new old : BaseInfo) (row : List (Cell I)) → length (join_zeros l n new old row) ≡ length row
  unfolding join_zeros
  join_zeros_keeps new old row = turns_keep (join_part l n new old) (λ at r. join_part_keeps new old at r) (length new.shape.zeros) row

  join_state_keeps : (new old : BaseInfo) (row : List (Cell I)) → length (join_state l n new old row) ≡ length row
  unfolding join_state
  join_state_keeps new old row = length-set row (state_position old) (State ((state_lattice l).join (state_at l n row (state_position old)) (state_at l n row (state_position new))))

  join_base_keeps : (new old : BaseInfo) (row : List (Cell I)) → length (join_base l n new old row) ≡ length row
  unfolding join_base
  join_base_keeps new old row =
      let joined = join_values l n new old row in
      join_state_keeps new old (join_zeros l n new old joined) ∙ (join_zeros_keeps new old joined ∙ join_values_keeps new old row)

  fresh_cell_keeps : (m : Model) (bases : List BaseInfo) (fresh : Fresh I) (target : Target) (position : ℕ) (row : List (Cell I)) → length (fresh_cell l n m bases fresh target position row) ≡ length row
  unfolding fresh_cell
  fresh_cell_keeps m bases fresh target position row = length-set row position (Value (fresh_value l n m bases fresh target row))

  fresh_leaves_keeps : (m : Model) (bases : List BaseInfo) (new : BaseInfo) (fresh : Fresh I) (row : List (Cell I)) → length (fresh_leaves l n m bases new fresh row) ≡ length row
  unfolding fresh_leaves
  fresh_leaves_keeps m bases new fresh row = walk_keeps (fresh_leaf l n m bases new fresh) (λ leaf at r. fresh_cell_keeps m bases fresh (leaf_target leaf) (leaf_position new at) r) 0 new.shape.cells row

  fresh_classes_keeps : (m : Model) (bases : List BaseInfo) (new : BaseInfo) (fresh : Fresh I) (row : List (Cell I)) → length (fresh_classes l n m bases new fresh row) ≡ length row
  unfolding fresh_classes
  fresh_classes_keeps m bases new fresh row = turns_keep (fresh_class l n m bases new fresh) (λ at r. fresh_cell_keeps m bases fresh (class_target at) (class_position new at) r) 6 row

  fresh_values_keeps : (m : Model) (bases : List BaseInfo) (new : BaseInfo) (fresh : Fresh I) (row : List (Cell I)) → length (fresh_values l n m bases new fresh row) ≡ length row
  unfolding fresh_values
  fresh_values_keeps m bases new fresh row = fresh_classes_keeps m bases new fresh (fresh_leaves l n m bases new fresh row) ∙ fresh_leaves_keeps m bases new fresh row

  make_instance_keeps : (m : Model) (bases : List BaseInfo) (new : BaseInfo) (size : I) (fresh : Fresh I) (least : ℤ) (row : List (Cell I)) → length (make_instance l n m bases new size fresh least row) ≡ length row
  unfolding make_instance
  make_instance_keeps m bases new size fresh least row =
      let made = fresh_values l n m bases new fresh row in
      let zeroed = set_zeros new (fresh_zero l n fresh least) made in
      length-set zeroed (state_position new) (State (record { size = size; live = true; freed = false }))
      ∙ (set_zeros_keeps l n new (fresh_zero l n fresh least) made ∙ fresh_values_keeps m bases new fresh row)

  make_nothing_keeps : (new : BaseInfo) (row : List (Cell I)) → length (make_nothing l new row) ≡ length row
  unfolding make_nothing
  make_nothing_keeps new row =
      let none = set_values new ((value_lattice l).least) row in
      length-set (set_zeros new ((zero_lattice l).least) none) (state_position new) (State ((state_lattice l).least))
      ∙ (set_zeros_keeps l n new ((zero_lattice l).least) none ∙ set_values_keeps new ((value_lattice l).least) row)

  make_of_keeps : (m : Model) (bases : List BaseInfo) (new : BaseInfo) (size : I) (fresh : Fresh I) (range : Range) (row : List (Cell I)) → length (make_of l n m bases new size fresh range row) ≡ length row
  make_of_keeps m bases new size fresh None row = make_nothing_keeps new row
  make_of_keeps m bases new size fresh (Some p) row = make_instance_keeps m bases new size fresh p.0 row

  make_fresh_keeps : (m : Model) (bases : List BaseInfo) (new : BaseInfo) (size : I) (fresh : Fresh I) (row : List (Cell I)) → length (make_fresh l n m bases new size fresh row) ≡ length row
  unfolding make_fresh
  make_fresh_keeps m bases new size fresh row = make_of_keeps m bases new size fresh (n.bounds size) row

  free_old_keeps : (bases : List BaseInfo) (fresh : Fresh I) (row : List (Cell I)) → length (free_old l n bases fresh row) ≡ length row
  unfolding free_old
  free_old_keeps bases Blank row = refl
  free_old_keeps bases Zero row = refl
  free_old_keeps bases (Old p) row = free_bases_keeps bases p.bases false row

  replaced_keeps : (m : Model) (bases : List BaseInfo) (new : BaseInfo) (size : I) (fresh : Fresh I) (row : List (Cell I)) → length (replaced l n m bases new size fresh row) ≡ length row
  unfolding replaced
  replaced_keeps m bases new size fresh row = free_old_keeps bases fresh (make_fresh l n m bases new size fresh row) ∙ make_fresh_keeps m bases new size fresh row

  renew_site_keeps : (m : Model) (bases : List BaseInfo) (site : Site) (size : I) (fresh : Fresh I) (new old : BaseInfo) (row : List (Cell I)) → length (renew_site l n m bases site size fresh new old row) ≡ length row
  unfolding renew_site
  renew_site_keeps m bases site size fresh new old row =
      let named = map (renamed_cell site) row in
      replaced_keeps m bases new size (renamed_fresh site fresh) (join_base l n new old named) ∙ (join_base_keeps new old named ∙ length-map row (renamed_cell site))

  renew_found_keeps : (m : Model) (bases : List BaseInfo) (site : Site) (size : I) (fresh : Fresh I) (new old : Option BaseInfo) (row : List (Cell I)) → length (renew_found l n m bases site size fresh new old row) ≡ length row
  renew_found_keeps m bases site size fresh None old row = refl
  renew_found_keeps m bases site size fresh (Some new) None row = refl
  renew_found_keeps m bases site size fresh (Some new) (Some old) row = renew_site_keeps m bases site size fresh new old row

  pub renew_keeps : (m : Model) (bases : List BaseInfo) (newest older : ℕ) (size : I) (fresh : Fresh I) (row : List (Cell I)) → length (renew l n m bases newest older size fresh row) ≡ length row
  unfolding renew
  renew_keeps m bases newest older size fresh row = renew_found_keeps m bases (site_of newest older) size fresh (slice_get bases newest) (slice_get bases older) row
