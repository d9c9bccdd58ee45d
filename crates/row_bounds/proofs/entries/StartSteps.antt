-- What a program begins with leaves rows of the program: objects that are cleared, stores of initializers and texts.
use Rattle.std.specs.Prelude.{◌≡◌, ℕ, ◌+◌, ◌≤◌, ◌-◌, ◌^◌, ◌==◌, ℤ, Bool, true, nat_le, Option, Some, None, List, [], ◌∷◌, length, slice_get, refl}
use Rattle.std.specs.List.{list_all}
use Rattle.std.proofs.Common.{arith}
use Rattle.std.proofs.lemmas.Bool.{and_parts, leb-true, ltb-true}
use Rattle.cc_base.specs.Lattices.{LatticeOf, OrderLaws}
use Rattle.cc_base.specs.IntegerDomains.{IntegersOf, BoundLaws, RangeLaws}
use Rattle.cc_base.specs.IntegerLaws.{MonotoneLaws}
use Rattle.c_layout.specs.declared.checked_tree.checked_units.StaticStore.{StaticStore}
use Rattle.c_layout.specs.declared.checked_tree.checked_units.StaticStore.TheVariants as one
use Rattle.c_layout.specs.declared.leaf_lists.Class.{Class}
use Rattle.c_layout.specs.declared.shapes.BaseInfo.{BaseInfo}
use Rattle.cfg.specs.BaseShapes.{is_extent, ends_by, is_room_or_apart, has_room}
use Rattle.cfg.specs.StaticStarts.{fits_value, value_class, has_place_in, has_room_in, fits_store, fits_start, has_size_of, is_started, object_count}
use Rattle.cfg.specs.WellFormed.{is_initial_object}
use Rattle.cfg.specs.declared.programs.Flow.{Flow}
use Rattle.cfg.specs.declared.programs.InitialObject.{InitialObject}
use Rattle.cfg.specs.declared.programs.InitialValue.{InitialValue}
use Rattle.cfg.specs.declared.programs.InitialValue.TheVariants as initial
use Rattle.pointer_domain.specs.declared.base_sets.Bases.{Bases}
use Rattle.pointer_domain.specs.declared.pointer_sets.Pointers.{Pointers}
use Rattle.pointer_domain.specs.PointerLattice.{pointer_order}
use Rattle.value_domain.specs.declared.values.row_cells.Cell.{Cell}
use Rattle.value_domain.specs.declared.values.values.Value.{Value}
use Rattle.store_cells.specs.NearValues.{near_pointer, near_value}
use Rattle.store_objects.specs.ObjectLives.{clear}
use Rattle.store.specs.Spelling.{spell}
use Rattle.store.specs.Stores.{store}
use Rattle.store_cells.specs.Walks.{walk}
use Rattle.store_monotone.specs.Operations.Placements.{EachFrom}
use Rattle.store_monotone.specs.Operations.StoreLaws.{AreBytes}
use Rattle.store_monotone.specs.Operations.TopRows.{top_row}
use Rattle.store_monotone.proofs.operations.ConsistentLives.{clear_even}
use Rattle.store_monotone.proofs.operations.OwnValues.{each_get}
use Rattle.store_monotone.proofs.operations.Together.{clears, stores, stores_consistent}
use Rattle.transfer_system.specs.StartRows.{static_class, pointer_into, static_value, store_static, start_store, store_behind, store_at, start_stores, start_value, start_object, object_behind, object_at, start_objects}
use Rattle.system_monotone.specs.LaidOut.{IsLaidOut}
use Rattle.system_monotone.specs.RisingRows.{LeftRise, ValuesRise}
use Rattle.system_monotone.specs.StepLaws.{FlowRows}
use Rattle.system_monotone.proofs.OwnBases.{words_less}
use Rattle.system_monotone.proofs.PointerSteps.{extents}
use Rattle.system_monotone.proofs.RisingCells.{own_bases}
use Rattle.system_monotone.proofs.Results.{value_small}
use Rattle.system_monotone.specs.FilledRows.{AreFilled, IsLeftFilled}
use Rattle.system_monotone.proofs.FilledSteps.{store_fills, clear_fills, spell_fills}
use Rattle.system_monotone.proofs.MemorySteps.{left_of, row_near}
use Rattle.system_monotone.proofs.Operations.{spell_rises}
use Rattle.transfer_system.specs.System.RegularPrograms.{is_byte}
use Rattle.transfer_system.specs.System.RegularPrograms.{spells_bytes, begins_with_bytes}
use Rattle.row_bounds.proofs.entries.StaticValues.{static_own}

are_bytes : (text : List ℕ) → list_all is_byte text ≡ true → AreBytes text
are_bytes [] h = tt
are_bytes (c ∷ text) h =
    let p = and_parts (is_byte c) (list_all is_byte text) h in
    (ltb-true c 256 p.0, are_bytes text p.1)

-- the room of a text lies in its base
room_short : (bases : List BaseInfo) → EachFrom (λ (base : BaseInfo) number. is_extent base.size ≡ true) 0 bases
    → (base at room : ℕ) (found : Option BaseInfo) → slice_get bases base ≡ found → has_room at room found ≡ true
    → room ≤ 2 ^ 64
room_short bases each base at room None e h = absurd (cc)
room_short bases each base at room (Some info) e h =
    let a = and_parts (ends_by at room info.size) (list_all (is_room_or_apart at room) info.shape.zeros) h in
    let c = and_parts (nat_le at info.size) (nat_le room (info.size - at)) a.0 in
    let d = leb-true room (info.size - at) c.1 in
    let f = leb-true info.size (2 ^ 30)
    (each_get (λ (base : BaseInfo) number. is_extent base.size ≡ true) 0 base bases info each e) in
    omega arith

module _ {I : Type 0} {l : LatticeOf I} {n : IntegersOf I} {stands : I → ℤ → Type 0} (o : OrderLaws l)
    (b : BoundLaws l n stands) (g : MonotoneLaws l n) (f : RangeLaws l n) (all : Bases) (flow : Flow)
    (k : IsLaidOut all flow) where
  abbrev Top : List (Cell I)
  Top = top_row n all flow.bases.items flow.temps

  -- a row of the program's cells with consistent pointer parts, and something in each cell
  pub record IsKept (row : List (Cell I)) : Type 0 where
    pub rows : FlowRows l n all flow row row
    pub filled : AreFilled row

  abbrev pub IsLeftKept : Option (List (Cell I)) → Type 0
  IsLeftKept None = Unit {0}
  IsLeftKept (Some row) = IsKept row

  left_kept : (x : Option (List (Cell I))) → LeftRise l n Top x x → IsLeftFilled x → IsLeftKept x
  left_kept None h j = tt
  left_kept (Some row) h j = record { rows = h; filled = j }

  clear_kept : (base : ℕ) (row : List (Cell I)) → IsKept row → IsKept (clear l n flow.bases.items base row)
  clear_kept base row h = record {
    rows = record {
      below = clears o b flow.model flow.bases.items k.layout all flow.temps
          (row_near o b g f all flow k) row row h.rows.below base;
      even =
          clear_even o b flow.bases.items base row h.rows.even;
    };
    filled = clear_fills l n flow.bases.items base row h.filled;
  }

  spell_kept : (base at room : ℕ) (text : List ℕ) → has_room_in flow.bases.items (Some base) at room ≡ true
      → list_all is_byte text ≡ true → (row : List (Cell I)) → IsKept row
      → IsKept (spell l n flow.bases.items base at room text row)
  spell_kept base at room text h t row j = record {
    rows = spell_rises o b g f all flow k base at room text
        (room_short flow.bases.items (extents 0 0 flow.bases.items k.layout.placed) base at room
        (slice_get flow.bases.items base) refl h) (are_bytes text t) row row j.rows;
    filled = spell_fills l n flow.bases.items base at room text row j.filled;
  }

  stored_kept : (p : Pointers I) (class : Class) (signed : Bool) (v : Value I) → ValuesRise l n all v v
      → (row : List (Cell I)) → IsKept row → IsLeftKept (store l n flow.model flow.bases.items p class signed v row)
  stored_kept p class signed v h row j =
      let s = store l n flow.model flow.bases.items p class signed v row in
      left_kept s (left_of l n Top s s
      (stores o b flow.model flow.bases.items k.layout all flow.temps
      (row_near o b g f all flow k) f g row row j.rows.below p p
      ((pointer_order o).reflexive p) class signed v v h.below h.own)
      (stores_consistent o b flow.model flow.bases.items k.layout all flow.temps
      (row_near o b g f all flow k) f row j.rows.below.large j.rows.even p class signed v (value_small o b all h)
      (words_less v.pointer.bases all (own_bases o b all k.words Top v v h) k.words) h.even))
      (store_fills l n flow.model flow.bases.items p class signed v row j.filled)

  module _ (few : length flow.bases.items ≤ 1016)
      (objects : list_all (is_initial_object flow.bases.items) flow.initial.items ≡ true) where
    abbrev fits : Option ℕ → StaticStore → Bool
    fits base s = fits_store flow.model flow.bases.items flow.initial.items (object_count flow.initial.items) base s

    -- ---- initializers

    store_kept : (base size : ℕ) (s : StaticStore) → fits (Some base) s ≡ true → spells_bytes s ≡ true
        → (row : List (Cell I)) → IsKept row → IsLeftKept (start_store l n flow base size s row)
    unfolding start_store store_static
    store_kept base size (one.Value at v) h t row j =
        let p = and_parts (fits_value flow.model flow.initial.items (object_count flow.initial.items) true v)
        (has_place_in flow.bases.items (Some base) (value_class v) at) h in
        stored_kept (near_pointer l n (pointer_into n base size at 0 size)) (static_class v).0 (static_class v).1
        (near_value l n (static_value l n flow.initial.items v))
        (static_own o b all flow k few objects true v p.0) row j
    store_kept base size (one.Spell at room text) h t row j = spell_kept base at room text h t row j

    behind_kept : (base size : ℕ) (s : StaticStore) → fits (Some base) s ≡ true → spells_bytes s ≡ true
        → (x : Option (List (Cell I))) → IsLeftKept x → IsLeftKept (store_behind l n flow base size s x)
    behind_kept base size s h t None j = tt
    behind_kept base size s h t (Some row) j = store_kept base size s h t row j

    stores_kept : (base size at : ℕ) (ss : List StaticStore) → list_all (fits (Some base)) ss ≡ true
        → list_all spells_bytes ss ≡ true → (x : Option (List (Cell I))) → IsLeftKept x
        → IsLeftKept (walk (store_at l n flow base size) at ss x)
    stores_kept base size at [] h t x j = j
    stores_kept base size at (s ∷ ss) h t x j =
        let p = and_parts (fits (Some base) s) (list_all (fits (Some base)) ss) h in
        let q = and_parts (spells_bytes s) (list_all spells_bytes ss) t in
        stores_kept base size (at + 1) ss p.1 q.1 (store_behind l n flow base size s x)
        (behind_kept base size s p.0 q.0 x j)

    value_kept : (base size : ℕ) (v : InitialValue)
        → fits_start flow.model flow.bases.items flow.initial.items (object_count flow.initial.items)
        (Some base) size v ≡ true → begins_with_bytes v ≡ true → (row : List (Cell I)) → IsKept row → IsLeftKept
        (start_value l n flow base size v row)
    unfolding start_value start_stores
    value_kept base size (initial.Stores ss) h t row j = stores_kept base size 0 ss.items h t (Some _)
        (clear_kept base row j)
    value_kept base size (initial.Literal text) h t row j = spell_kept base 0 size text
        (and_parts (length text + 1 == size) (has_room_in flow.bases.items (Some base) 0 size) h).1 t row j

    object_kept : (base : Option ℕ) (size : ℕ) (v : InitialValue)
        → fits_start flow.model flow.bases.items flow.initial.items
        (object_count flow.initial.items) base size v ≡ true → begins_with_bytes v ≡ true → (row : List
        (Cell I)) → IsKept row → IsLeftKept (start_object l n flow base size v row)
    unfolding start_object
    object_kept None size v h t row j = j
    object_kept (Some base) size v h t row j = value_kept base size v h t row j

    abbrev starts : InitialObject → Bool
    starts x = is_started flow.model flow.bases.items flow.initial.items (object_count flow.initial.items) x

    reached_kept : (x : InitialObject) → starts x ≡ true → begins_with_bytes x.value ≡ true
        → (state : Option (List (Cell I))) → IsLeftKept state → IsLeftKept (object_behind l n flow x state)
    reached_kept x h t None j = tt
    reached_kept x h t (Some row) j =
        object_kept x.base x.size x.value
        (and_parts (has_size_of flow.bases.items x.base x.size)
        (fits_start flow.model flow.bases.items flow.initial.items
        (object_count flow.initial.items) x.base x.size x.value) h).1 t row j

    all_kept : (at : ℕ) (xs : List InitialObject) → list_all starts xs ≡ true
        → list_all (λ x. begins_with_bytes x.value) xs ≡ true → (state : Option (List (Cell I))) → IsLeftKept state
        → IsLeftKept (walk (object_at l n flow) at xs state)
    all_kept at [] h t state j = j
    all_kept at (x ∷ xs) h t state j =
        let p = and_parts (starts x) (list_all starts xs) h in
        let q = and_parts (begins_with_bytes x.value) (list_all (λ x. begins_with_bytes x.value) xs) t in
        all_kept (at + 1) xs p.1 q.1 (object_behind l n flow x state) (reached_kept x p.0 q.0 state j)

    pub objects_kept : list_all starts flow.initial.items ≡ true
        → list_all (λ x. begins_with_bytes x.value) flow.initial.items ≡ true → (row : List (Cell I)) → IsKept row
        → IsLeftKept (start_objects l n flow flow.initial.items row)
    unfolding start_objects
    objects_kept h t row j = all_kept 0 flow.initial.items h t (Some row) j
