-- The row of the entry is from a floor on.
use Rattle.std.specs.Prelude.{◌≡◌, ℕ, zero, suc, ◌+◌, ◌≤◌, ◌&&◌, ℤ, pos, ◌-ℤ◌, nat_le, Bool, true, false, cond, Option, Some, None, List, [], ◌∷◌, map, slice_get, refl}
use Rattle.std.specs.List.{list_all}
use Rattle.std.proofs.Common.{arith}
use Rattle.std.proofs.lemmas.Int.{ints}
use Rattle.std.proofs.lemmas.Bool.{and_parts, leb-true}
use Rattle.cc_base.specs.Lattices.{LatticeOf}
use Rattle.cc_base.specs.IntegerTypes.{is_size}
use Rattle.cc_base.specs.IntegerDomains.{IntegersOf}
use Rattle.cc_base.specs.declared.int_types.IntType.{IntType}
use Rattle.c_layout.specs.declared.checked_tree.checked_units.StaticBase.{StaticBase}
use Rattle.c_layout.specs.declared.checked_tree.checked_units.StaticStore.{StaticStore}
use Rattle.c_layout.specs.declared.checked_tree.checked_units.StaticStore.TheVariants as one
use Rattle.c_layout.specs.declared.checked_tree.checked_units.StaticValue.{StaticValue}
use Rattle.c_layout.specs.declared.checked_tree.checked_units.StaticValue.TheVariants.{Number, Null, Address}
use Rattle.c_layout.specs.declared.leaf_lists.Class.TheVariants as class
use Rattle.c_layout.specs.declared.shapes.BaseInfo.{BaseInfo}
use Rattle.cfg.specs.declared.programs.Flow.{Flow}
use Rattle.cfg.specs.declared.programs.InitialObject.{InitialObject}
use Rattle.cfg.specs.declared.programs.InitialValue.{InitialValue}
use Rattle.cfg.specs.declared.programs.InitialValue.TheVariants as initial
use Rattle.cfg.specs.StaticStarts.{number_of, fits_target, fits_value, value_class, has_place_in, fits_store, fits_start, has_size_of, is_started, object_count, are_numbered, are_started}
use Rattle.pointer_domain.specs.PointerLattice.{no_pointer}
use Rattle.value_domain.specs.declared.values.values.Value as values
use Rattle.value_domain.specs.declared.values.row_cells.Cell.{Cell}
use Rattle.value_domain.specs.declared.values.row_cells.Cell.TheVariants.{Value, State}
use Rattle.value_domain.specs.Values.LabelSets.{no_labels, input_labels}
use Rattle.value_domain.specs.Values.ValueTables.{number_value, pointer_value}
use Rattle.store_cells.specs.ByteWrites.{null_pointer}
use Rattle.store_cells.specs.CellReads.{as_stored, whole_range}
use Rattle.store_cells.specs.ClassNumbers.{is_pointer}
use Rattle.store_cells.specs.NearValues.{near_value}
use Rattle.store_cells.specs.RowPositions.{leaf_position, put_value}
use Rattle.store_cells.specs.ScalarTypes.{kind_of}
use Rattle.store_cells.specs.Walks.{walk}
use Rattle.transfer_system.specs.Scalars.{class_of_rank, class_of_kind}
use Rattle.transfer_system.specs.StartRows.{base_in, static_class, no_value, empty_state, empty_base, empty_base_at, empty_bases, empty_row, pointer_into, static_pointer, static_value, store_static, start_store, store_behind, store_at, start_stores, start_value, start_object, object_behind, object_at, start_objects, put_parameter, start_parameter, parameter_at, start_parameters, started, start_row}
use Rattle.row_bounds.specs.Stores.Floors.{IsPointerFrom, IsValueFrom, AreFrom, IsLeftFrom, KeepsFrom, LeavesFrom}
use Rattle.row_bounds.proofs.stores.Ranges.{FloorLaws, one_from, convert_from}
use Rattle.row_bounds.proofs.stores.Values.{class_size, no_pointer_from, near_pointer_from, least_value_from, near_value_from, pointer_from, stored_from, whole_range_from}
use Rattle.row_bounds.proofs.stores.Rows.{set_from, if_from, row_walk, zeros_set}
use Rattle.row_bounds.proofs.stores.Stores.{typed_store_keeps}
use Rattle.row_bounds.proofs.stores.Objects.{clear_keeps, spell_keeps}

-- no rank is that of a pointer
rank_number : (rank : ℕ) → is_pointer (class_of_rank rank) ≡ false
rank_number zero = refl
rank_number (suc zero) = refl
rank_number (suc (suc zero)) = refl
rank_number (suc (suc (suc zero))) = refl
rank_number (suc (suc (suc (suc zero)))) = refl
rank_number (suc (suc (suc (suc (suc rank))))) = refl

module _ {I : Type 0} {l : LatticeOf I} {n : IntegersOf I} {stands : I → ℤ → Type 0} {floor : ℤ} (k : FloorLaws l n stands floor) (flow : Flow) where
  -- ---- the row in which nothing is

  nothing_from : (row : List (Cell I)) → AreFrom n floor (map (no_value l) row)
  nothing_from [] = tt
  nothing_from (c ∷ cs) = (least_value_from k, nothing_from cs)

  base_kept : (base : BaseInfo) → KeepsFrom n floor (empty_base l base)
  unfolding empty_base empty_state
  base_kept base row j =
      let zeros = zeros_set n floor base _ row j in
      if_from n floor base.shape.heap _ _ (set_from n floor _ _ (State _) tt zeros) zeros

  empty_from : (row : List (Cell I)) → AreFrom n floor (empty_row l flow row)
  unfolding empty_row empty_bases
  empty_from row = row_walk n floor (empty_base_at l) (λ base at x q. base_kept base x q) 0 flow.bases.items (map (no_value l) row) (nothing_from row)

  -- ---- static initializers

  -- an address lies within its bounds
  target_lies : (based : Bool) (object : StaticBase) (at lo hi : ℕ) (found : Option InitialObject) → fits_target based object at lo hi found ≡ true → (lo ≤ at) × (at ≤ hi)
  target_lies based object at lo hi None h = absurd (cc)
  target_lies based object at lo hi (Some x) h =
      let a = and_parts _ (nat_le lo at && (nat_le at hi && nat_le hi x.size)) h in
      let c = and_parts (nat_le lo at) (nat_le at hi && nat_le hi x.size) a.1 in
      let d = and_parts (nat_le at hi) (nat_le hi x.size) c.1 in
      (leb-true lo at c.0, leb-true at hi d.0)

  into_from : (base size offset lo hi : ℕ) → lo ≤ offset → offset ≤ hi → IsPointerFrom n floor (pointer_into n base size offset lo hi)
  into_from base size offset lo hi h j =
      let v = k.low in
      (one_from k (pos 0) (pos lo) (omega (arith, ints)), one_from k floor (pos offset -ℤ pos lo) (omega (arith, ints)), one_from k (pos 0) (pos hi -ℤ pos lo) (omega (arith, ints)))

  address_from : (found : Option (ℕ × ℕ)) (offset lo hi : ℕ) → lo ≤ offset → offset ≤ hi → IsPointerFrom n floor (static_pointer l n found offset lo hi)
  address_from None offset lo hi h j = no_pointer_from k
  address_from (Some p) offset lo hi h j = into_from p.0 p.1 offset lo hi h j

  -- what is stored of a number is of the type of the cell
  typed_number : (kind : IntType) (v : values.Value I) → IsPointerFrom n floor v.pointer → (to : Bool) → IsValueFrom n floor (as_stored n flow.model v (class_of_kind kind) to)
  typed_number kind v h to = by_class (is_pointer (class_of_kind kind)) (rank_number kind.rank)
    where
      by_class : (t : Bool) → t ≡ false → IsValueFrom n floor (cond t v (record v { num = n.convert v.num (kind_of flow.model (class_of_kind kind) to) }))
      by_class true e = absurd (cc)
      by_class false e = (convert_from k v.num (kind_of flow.model (class_of_kind kind) to) (class_size flow.model (class_of_kind kind)), h)

  typed_value : (based : Bool) (v : StaticValue) → fits_value flow.model flow.initial.items (object_count flow.initial.items) based v ≡ true → (to : Bool) → IsValueFrom n floor (as_stored n flow.model (near_value l n (static_value l n flow.initial.items v)) (static_class v).0 to)
  typed_value based (Number number kind) h to = typed_number kind (near_value l n (number_value l (n.one number) no_labels)) (near_pointer_from k (no_pointer l) (no_pointer_from k)) to
  typed_value based Null h to = stored_from k flow.model (near_value l n (pointer_value l (null_pointer l))) class.Pointer to (near_value_from k (pointer_value l (null_pointer l)) (pointer_from k (null_pointer l) (no_pointer_from k)))
  typed_value based (Address object offset lo hi) h to =
      let p = target_lies based object offset lo hi (slice_get flow.initial.items (number_of (object_count flow.initial.items) object)) h in
      let q = static_pointer l n (base_in flow.initial.items object) offset lo hi in
      stored_from k flow.model (near_value l n (pointer_value l q)) class.Pointer to (near_value_from k (pointer_value l q) (pointer_from k q (address_from (base_in flow.initial.items object) offset lo hi p.0 p.1)))

  abbrev fits : Option ℕ → StaticStore → Bool
  fits base s = fits_store flow.model flow.bases.items flow.initial.items (object_count flow.initial.items) base s

  store_kept : (base size : ℕ) (s : StaticStore) → fits (Some base) s ≡ true → LeavesFrom n floor (start_store l n flow base size s)
  unfolding start_store store_static
  store_kept base size (one.Value offset v) h row j =
      let p = and_parts (fits_value flow.model flow.initial.items (object_count flow.initial.items) true v) (has_place_in flow.bases.items (Some base) (value_class v) offset) h in
      typed_store_keeps k flow.model flow.bases.items _ (static_class v).0 (static_class v).1 (near_value l n (static_value l n flow.initial.items v)) (typed_value true v p.0) row j
  store_kept base size (one.Spell offset room text) h row j = spell_keeps k flow.bases.items base offset room text row j

  behind_kept : (base size : ℕ) (s : StaticStore) → fits (Some base) s ≡ true → (x : Option (List (Cell I))) → IsLeftFrom n floor x → IsLeftFrom n floor (store_behind l n flow base size s x)
  behind_kept base size s h None j = tt
  behind_kept base size s h (Some row) j = store_kept base size s h row j

  stores_kept : (base size at : ℕ) (stores : List StaticStore) → list_all (fits (Some base)) stores ≡ true → (x : Option (List (Cell I))) → IsLeftFrom n floor x → IsLeftFrom n floor (walk (store_at l n flow base size) at stores x)
  stores_kept base size at [] h x j = j
  stores_kept base size at (s ∷ stores) h x j =
      let p = and_parts (fits (Some base) s) (list_all (fits (Some base)) stores) h in
      stores_kept base size (at + 1) stores p.1 (store_behind l n flow base size s x) (behind_kept base size s p.0 x j)

  value_kept : (base size : ℕ) (v : InitialValue) → fits_start flow.model flow.bases.items flow.initial.items (object_count flow.initial.items) (Some base) size v ≡ true → LeavesFrom n floor (start_value l n flow base size v)
  unfolding start_value start_stores
  value_kept base size (initial.Stores stores) h row j = stores_kept base size 0 stores.items h (Some _) (clear_keeps k flow.bases.items base row j)
  value_kept base size (initial.Literal text) h row j = spell_keeps k flow.bases.items base 0 size text row j

  object_kept : (base : Option ℕ) (size : ℕ) (v : InitialValue) → fits_start flow.model flow.bases.items flow.initial.items (object_count flow.initial.items) base size v ≡ true → LeavesFrom n floor (start_object l n flow base size v)
  unfolding start_object
  object_kept None size v h row j = j
  object_kept (Some base) size v h row j = value_kept base size v h row j

  reached_kept : (x : InitialObject) → is_started flow.model flow.bases.items flow.initial.items (object_count flow.initial.items) x ≡ true → (state : Option (List (Cell I))) → IsLeftFrom n floor state → IsLeftFrom n floor (object_behind l n flow x state)
  reached_kept x h None j = tt
  reached_kept x h (Some row) j =
      object_kept x.base x.size x.value (and_parts (has_size_of flow.bases.items x.base x.size) (fits_start flow.model flow.bases.items flow.initial.items (object_count flow.initial.items) x.base x.size x.value) h).1 row j

  objects_kept : (at : ℕ) (objects : List InitialObject) → list_all (is_started flow.model flow.bases.items flow.initial.items (object_count flow.initial.items)) objects ≡ true → (state : Option (List (Cell I))) → IsLeftFrom n floor state → IsLeftFrom n floor (walk (object_at l n flow) at objects state)
  objects_kept at [] h state j = j
  objects_kept at (x ∷ objects) h state j =
      let p = and_parts (is_started flow.model flow.bases.items flow.initial.items (object_count flow.initial.items) x) (list_all (is_started flow.model flow.bases.items flow.initial.items (object_count flow.initial.items)) objects) h in
      objects_kept (at + 1) objects p.1 (object_behind l n flow x state) (reached_kept x p.0 state j)

  -- ---- parameters

  put_kept : (kind : IntType) (found : Option BaseInfo) → KeepsFrom n floor (put_parameter l n kind found)
  put_kept kind None row j = j
  put_kept kind (Some base) row j = by_size (is_size kind.bytes) refl
    where
      by_size : (t : Bool) → is_size kind.bytes ≡ t → AreFrom n floor (cond t (put_value row (leaf_position base 0) (whole_range l n kind (input_labels kind) false)) row)
      by_size true s = set_from n floor row (leaf_position base 0) (Value (whole_range l n kind (input_labels kind) false)) (whole_range_from k kind (input_labels kind) false s) j
      by_size false s = j

  parameters_kept : KeepsFrom n floor (start_parameters l n flow)
  unfolding start_parameters start_parameter
  parameters_kept row j = row_walk n floor (parameter_at l n flow) (λ p at x q. put_kept p.kind (slice_get flow.bases.items p.base) x q) 0 flow.parameters.items row j

  started_kept : (x : Option (List (Cell I))) → IsLeftFrom n floor x → IsLeftFrom n floor (started l n flow x)
  started_kept None j = tt
  started_kept (Some row) j = parameters_kept row j

  -- ---- the row of the entry

  pub start_from : are_started flow.model flow.bases.items flow.initial.items ≡ true → (row : List (Cell I)) → IsLeftFrom n floor (start_row l n flow row)
  unfolding start_row start_objects
  start_from h row =
      let p = and_parts (are_numbered 0 0 flow.initial.items) (list_all (is_started flow.model flow.bases.items flow.initial.items (object_count flow.initial.items)) flow.initial.items) h in
      started_kept _ (objects_kept 0 flow.initial.items p.1 (Some (empty_row l flow row)) (empty_from row))
