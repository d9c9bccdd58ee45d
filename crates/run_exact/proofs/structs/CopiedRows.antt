-- What a copy of a struct makes of a row, where each side is one place of one object.
use Rattle.std.proofs.Common.{◌≡◌, ℕ, suc, ◌+◌, ◌-◌, ◌<◌, ◌≤◌, ◌^◌, false, Some, List, length, arith, subst, sym, refl, ap, ◌∙◌, inl, inr}
use Rattle.std.specs.Prelude.{slice_get}
use Rattle.std.specs.Option.{unwrap_or}
use Rattle.std.proofs.lemmas.Bool.{cases_eq, cases_lt}
use Rattle.std.proofs.lemmas.List.{length-set}
use Rattle.std.proofs.lemmas.Option.{same_Some, slice_get_within}
use Rattle.cc_base.specs.Lattices.{LatticeOf}
use Rattle.cc_base.specs.IntegerDomains.{IntegersOf}
use Rattle.c_layout.specs.Leaves.{leaves_of}
use Rattle.c_layout.specs.StructViews.{StructView, structs_view}
use Rattle.c_layout.specs.Types.{Struct}
use Rattle.c_layout.specs.declared.leaf_lists.Leaf.{Leaf}
use Rattle.c_layout.specs.declared.shapes.BaseInfo.{BaseInfo}
use Rattle.cfg.specs.declared.programs.Flow.{Flow}
use Rattle.value_domain.specs.declared.values.values.Value as values
use Rattle.value_domain.specs.declared.values.row_cells.Cell.{Cell}
use Rattle.value_domain.specs.declared.values.row_cells.Cell.TheVariants.{Nothing, Value}
use Rattle.store_cells.specs.AccessWindows.{window_between}
use Rattle.store_cells.specs.CellReads.{as_stored}
use Rattle.store_objects.specs.LiveBases.{most_bases, only_base, is_one_instance}
use Rattle.store_cells.specs.NearValues.{near_value}
use Rattle.store_cells.specs.RowPositions.{leaf_position, cell_at, value_at, put_value}
use Rattle.memory_model.specs.Effects.Touches.{is_allocated}
use Rattle.store_sound.specs.Concretization.SoundMemory.{storage_for}
use Rattle.store_sound.specs.Operations.Gives.{Gives}
use Rattle.store_sound.proofs.operations.Classes.{class_above}
use Rattle.store_sound.proofs.operations.Only.{cell_put}
use Rattle.store_sound.proofs.operations.Slices.{get_set_other}
use Rattle.store_sound.proofs.operations.StoreRows.{Fits, leaf_is}
use Rattle.store_sound.proofs.operations.StoreValues.{same_value}
use Rattle.store_sound.specs.Programs.Premises.{HasPremises}
use Rattle.store_struct_leaves.specs.CopyPlaces.{span_of_leaf}
use Rattle.store_struct_leaves.specs.LeafCopies.{read_leaf, write_leaf}
use Rattle.store_structs.specs.StructCopies.{Route, route_for, read_source, write_target, copy_read, copy_leaves, copy_all}
use Rattle.struct_copies_sound.specs.Structs.StructTables.{IsListed}
use Rattle.struct_copies_sound.proofs.structs.FewLeaves.{no_more_than_bytes}
use Rattle.struct_copies_sound.proofs.batches.Batches.{batch_gives, done, batches_give}
use Rattle.transfer_exact.specs.Values.SingleRows.{IsPlainProgram}
use Rattle.transfer_exact.proofs.places.OneInstance.{one_instance}
use Rattle.transfer_exact.proofs.places.OneLeaf.{owned}
use Rattle.transfer_exact.specs.Accesses.TypedAccesses.{HasObjects}
use Rattle.transfer_exact.specs.Spelling.TypedCopies.{HasOwnLeaf, IsAtStruct}
use Rattle.run_exact.proofs.structs.OneSpans.{IsOneWindow, leaf_window}
use Rattle.run_exact.proofs.structs.OneCopies.{reads_cell, sets_cell}

-- an object in which the struct stands at an offset
pub record IsSide (flow : Flow) (index : ℕ) (view : StructView) (b : ℕ) (base : BaseInfo) (start : ℕ) : Type 0 where
  pub at : slice_get flow.bases.items b ≡ Some base
  pub few : b < most_bases
  pub there : IsAtStruct flow index view base start
  pub near : start + view.size < 2 ^ 63

module _ (flow : Flow) (p : HasPremises flow) (objects : HasObjects flow) (plain : IsPlainProgram flow) (index : ℕ) (view : StructView) (listed : IsListed flow.model (structs_view flow.structs) index view) where
  abbrev pub leaves : List Leaf
  leaves = leaves_of (structs_view flow.structs) flow.model.pointer (Struct index)

  pub base_fits : (b : ℕ) (base : BaseInfo) → slice_get flow.bases.items b ≡ Some base → Fits base
  base_fits b base e = let k = p.laid.laid.close b base e in let s = p.laid.laid.small in omega (arith, k, s)

  pub inside : (number : ℕ) (leaf : Leaf) → slice_get leaves number ≡ Some leaf → leaf.offset < view.size
  inside number leaf e = listed.struct.inside number leaf.offset 0 leaf e (record { start = leaf.offset; place = record { turn = 0; few = (listed.struct.plain number leaf e).some; there = omega arith }; there = omega arith; small = class_above flow.model leaf.class })

  -- leaves at one offset are one
  one_leaf : (a c : ℕ) (x y : Leaf) → slice_get leaves a ≡ Some x → slice_get leaves c ≡ Some y → x.offset ≡ y.offset → a ≡ c
  one_leaf a c x y e f same = listed.struct.one a c x.offset 0 0 x y e f
      (record { start = x.offset; place = record { turn = 0; few = (listed.struct.plain a x e).some; there = omega arith }; there = omega arith; small = class_above flow.model x.class })
      (record { start = y.offset; place = record { turn = 0; few = (listed.struct.plain c y f).some; there = omega arith }; there = omega (arith, same); small = class_above flow.model y.class })

  module _ (b : ℕ) (base : BaseInfo) (start : ℕ) (t : IsSide flow index view b base start) where
    pub own : (number : ℕ) (leaf : Leaf) → slice_get leaves number ≡ Some leaf → HasOwnLeaf flow index view base start leaf
    own number leaf e = t.there.leaves number leaf e

    -- where the cell of a leaf of the struct is
    unfoldable pub place : (number : ℕ) (leaf : Leaf) → slice_get leaves number ≡ Some leaf → ℕ
    place number leaf e = leaf_position base (own number leaf e).number

    pub place_is : (number : ℕ) (leaf : Leaf) (e : slice_get leaves number ≡ Some leaf) → (place number leaf e ≡ base.first + (own number leaf e).number) × ((own number leaf e).number < length base.shape.cells)
    unfolding place
    place_is number leaf e =
        let x = own number leaf e in
        let w = slice_get_within base.shape.cells x.number x.own x.among in
        (leaf_is base x.number (base_fits b base t.at) w, w)

    -- it does not depend on how the leaf is found
    own_same : (k m : ℕ) (x y : Leaf) (e : slice_get leaves k ≡ Some x) (f : slice_get leaves m ≡ Some y) → k ≡ m → ((own k x e).number ≡ (own m y f).number) × ((own k x e).own ≡ (own m y f).own)
    own_same k m x y e f same =
        let i = own k x e in
        let j = own m y f in
        let leaf : x ≡ y = same_Some x y (sym e ∙ (ap (slice_get leaves) same ∙ f)) in
        let offset : x.offset ≡ y.offset = ap (λ z. z.offset) leaf in
        let g = i.same.there in
        let h = j.same.there in
        let struct = objects b base t.at in
        let single : (q : ℕ) (z : Leaf) → slice_get base.shape.cells q ≡ Some z → z.count ≡ 1 = λ q z w. plain.apart b q base z t.at w in
        let number : i.number ≡ j.number = struct.one i.number j.number i.own.offset 0 0 i.own j.own i.among j.among
        (owned flow.model base.shape.cells base.size struct single i.number i.own.offset 0 i.own i.among (omega arith) (class_above flow.model i.own.class))
        (owned flow.model base.shape.cells base.size struct single j.number i.own.offset 0 j.own j.among (omega (arith, g, h, offset)) (class_above flow.model j.own.class)) in
        (number, same_Some i.own j.own (sym i.among ∙ (ap (slice_get base.shape.cells) number ∙ j.among)))

    pub place_same : (k m : ℕ) (x y : Leaf) (e : slice_get leaves k ≡ Some x) (f : slice_get leaves m ≡ Some y) → k ≡ m → place k x e ≡ place m y f
    unfolding place
    place_same k m x y e f same = ap (leaf_position base) (own_same k m x y e f same).0

    window : (number : ℕ) (leaf : Leaf) (e : slice_get leaves number ≡ Some leaf) → IsOneWindow (span_of_leaf leaf (window_between start start)) (own number leaf e).own.offset (own number leaf e).own.offset
    window number leaf e =
        let x = own number leaf e in
        let near = t.near in
        let i = inside number leaf e in
        subst (λ z. IsOneWindow (span_of_leaf leaf (window_between start start)) z z) (sym x.same.there) (leaf_window leaf start x.same.alone (omega (arith, near, i)))

    module _ {I : Type 0} (l : LatticeOf I) (n : IntegersOf I) where
      pub read_is : (number : ℕ) (leaf : Leaf) (e : slice_get leaves number ≡ Some leaf) (row : List (Cell I)) → read_leaf l n flow.model flow.bases.items (only_base b) row (record { class = leaf.class; signed = leaf.signed; span = span_of_leaf leaf (window_between start start) }) ≡ Some (value_at l n row (place number leaf e))
      unfolding place
      read_is number leaf e row =
          let x = own number leaf e in
          let class = sym x.same.class in
          let signed = sym x.same.signed in
          (λ i. read_leaf l n flow.model flow.bases.items (only_base b) row (record { class = class i; signed = signed i; span = span_of_leaf leaf (window_between start start) }))
          ∙ reads_cell l n flow.model flow.bases.items b base t.at t.few (plain.no_heap b base t.at) (objects b base t.at) (λ j y f. plain.apart b j base y t.at f) x.number x.own x.among (span_of_leaf leaf (window_between start start)) (window number leaf e) row

      -- what the cell becomes
      unfoldable pub stored : (number : ℕ) (leaf : Leaf) → slice_get leaves number ≡ Some leaf → values.Value I → values.Value I
      stored number leaf e v = as_stored n flow.model (near_value l n v) (own number leaf e).own.class (own number leaf e).own.signed

      stored_same : (k m : ℕ) (x y : Leaf) (e : slice_get leaves k ≡ Some x) (f : slice_get leaves m ≡ Some y) → k ≡ m → (v : values.Value I) → stored k x e v ≡ stored m y f v
      unfolding stored
      stored_same k m x y e f same v = ap (λ z. as_stored n flow.model (near_value l n v) z.class z.signed) (own_same k m x y e f same).1

      pub write_is : (number : ℕ) (leaf : Leaf) (e : slice_get leaves number ≡ Some leaf) (v : values.Value I) (row : List (Cell I)) → write_leaf l n flow.model flow.bases.items (only_base b) (record { class = leaf.class; signed = leaf.signed; span = span_of_leaf leaf (window_between start start) }) v (is_one_instance flow.bases.items (only_base b)) row ≡ Some (put_value row (place number leaf e) (stored number leaf e v))
      unfolding place stored
      write_is number leaf e v row =
          let x = own number leaf e in
          let class = sym x.same.class in
          let signed = sym x.same.signed in
          let kind : is_allocated (storage_for base.kind) ≡ false = (p.shaped.each b base t.at).kind ∙ plain.no_heap b base t.at in
          let alone = one_instance flow.bases.items b base t.at t.few kind in
          (λ i. write_leaf l n flow.model flow.bases.items (only_base b) (record { class = class i; signed = signed i; span = span_of_leaf leaf (window_between start start) }) v (alone i) row)
          ∙ sets_cell l n flow.model flow.bases.items b base t.at t.few (plain.no_heap b base t.at) (objects b base t.at) (λ j y f. plain.apart b j base y t.at f) x.number x.own x.among (span_of_leaf leaf (window_between start start)) (window number leaf e) v row

  -- ---- both sides

  module _ (b d : ℕ) (target source : BaseInfo) (o a : ℕ) (t : IsSide flow index view b target o) (s : IsSide flow index view d source a)
      (apart : (x : ℕ) → d ≡ b → o ≤ x → x < o + view.size → a ≤ x → x < a + view.size → o ≡ a) where
    abbrev pub route : Route
    route = route_for flow.model flow.bases.items (structs_view flow.structs) index (only_base b) (window_between o o) (only_base d) (window_between a a)

    abbrev pub to_place : (number : ℕ) (leaf : Leaf) → slice_get leaves number ≡ Some leaf → ℕ
    to_place number leaf e = place b target o t number leaf e

    abbrev pub from_place : (number : ℕ) (leaf : Leaf) → slice_get leaves number ≡ Some leaf → ℕ
    from_place number leaf e = place d source a s number leaf e

    one_place : (k m : ℕ) (x y : Leaf) (e : slice_get leaves k ≡ Some x) (f : slice_get leaves m ≡ Some y) → to_place k x e ≡ to_place m y f → k ≡ m
    one_place k m x y e f same =
        let i = own b target o t k x e in
        let j = own b target o t m y f in
        let u = (place_is b target o t k x e).0 in
        let v = (place_is b target o t m y f).0 in
        let number : i.number ≡ j.number = omega (arith, same, u, v) in
        let leaf : i.own ≡ j.own = same_Some i.own j.own (sym i.among ∙ (ap (slice_get target.shape.cells) number ∙ j.among)) in
        let offset : i.own.offset ≡ j.own.offset = ap (λ z. z.offset) leaf in
        let g = i.same.there in
        let h = j.same.there in
        one_leaf k m x y e f (omega (arith, offset, g, h))

    -- a leaf that is read is none that another one was written to
    other_place : (k m : ℕ) (x y : Leaf) (e : slice_get leaves k ≡ Some x) (f : slice_get leaves m ≡ Some y) → from_place k x e ≡ to_place m y f → k ≡ m
    other_place k m x y e f same = elim (cases_eq d b) [
      | inr ne ↦ (let u = place_is d source a s k x e in
          let v = place_is b target o t m y f in
          let u0 = u.0 in
          let u1 = u.1 in
          let v0 = v.0 in
          let v1 = v.1 in
          elim (p.laid.laid.apart d b source target s.at t.at ne) [ inl w ↦ absurd (omega (arith, same, u0, u1, v0, v1, w)) | inr w ↦ absurd (omega (arith, same, u0, u1, v0, v1, w)) ])
      | inl is ↦ (let base : source ≡ target = same_Some source target (sym s.at ∙ (ap (slice_get flow.bases.items) is ∙ t.at)) in
          let i = own d source a s k x e in
          let j = own b target o t m y f in
          let u = (place_is d source a s k x e).0 in
          let v = (place_is b target o t m y f).0 in
          let first : source.first ≡ target.first = ap (λ z. z.first) base in
          let number : i.number ≡ j.number = omega (arith, same, u, v, first) in
          let leaf : i.own ≡ j.own = same_Some i.own j.own (sym i.among ∙ ((λ z. slice_get (base z).shape.cells (number z)) ∙ j.among)) in
          let offset : i.own.offset ≡ j.own.offset = ap (λ z. z.offset) leaf in
          let g = i.same.there in
          let h = j.same.there in
          let in_from = inside k x e in
          let in_to = inside m y f in
          let one = apart (o + y.offset) is (omega arith) (omega (arith, in_to)) (omega (arith, offset, g, h)) (omega (arith, offset, g, h, in_from)) in
          one_leaf k m x y e f (omega (arith, offset, g, h, one)))
    ]

    module _ {I : Type 0} (l : LatticeOf I) (n : IntegersOf I) (row : List (Cell I)) (wide : p.laid.behind ≤ length row) where
      abbrev pub moved : (number : ℕ) (leaf : Leaf) → slice_get leaves number ≡ Some leaf → Cell I
      moved number leaf e = Value (stored b target o t l n number leaf e (value_at l n row (from_place number leaf e)))

      -- a row behind the copies of the leaves from one number to below another
      pub record IsBehind (start : List (Cell I)) (from to : ℕ) (z : List (Cell I)) : Type 0 where
        pub long : length z ≡ length row
        pub made : (number : ℕ) (leaf : Leaf) (e : slice_get leaves number ≡ Some leaf) → from ≤ number → number < to → cell_at z (to_place number leaf e) ≡ moved number leaf e
        pub kept : (x : ℕ) → ((number : ℕ) (leaf : Leaf) (e : slice_get leaves number ≡ Some leaf) → from ≤ number → number < to → x ≡ to_place number leaf e → ⊥) → cell_at z x ≡ cell_at start x

      elsewhere : (z : List (Cell I)) (at x : ℕ) (v : values.Value I) → (x ≡ at → ⊥) → cell_at (put_value z at v) x ≡ cell_at z x
      elsewhere z at x v ne = ap (λ y. unwrap_or y Nothing) (get_set_other z at x (Value v) ne)

      in_row : (number : ℕ) (leaf : Leaf) (e : slice_get leaves number ≡ Some leaf) → to_place number leaf e < length row
      in_row number leaf e =
          let u = place_is b target o t number leaf e in
          let u0 = u.0 in
          let u1 = u.1 in
          let k = p.laid.laid.close b target t.at in
          omega (arith, u0, u1, k, wide)

      step : (before to number : ℕ) (leaf : Leaf) (e : slice_get leaves number ≡ Some leaf) → before ≤ number → number < to → (start : List (Cell I)) → IsBehind row 0 before start → (z : List (Cell I)) → IsBehind start (suc number) to z → Gives (IsBehind start number to) (copy_read l n route leaf (read_source l n route leaf start) (Some z))
      unfolding read_source write_target
      step before to number leaf e later less start begun z h =
          let source_same : value_at l n start (from_place number leaf e) ≡ value_at l n row (from_place number leaf e) = same_value l n row start (from_place number leaf e)
          (begun.kept (from_place number leaf e) (λ m y f low below same. let one = other_place number m leaf y e f same in omega (arith, one, below, later))) in
          let v : values.Value I = value_at l n start (from_place number leaf e) in
          let new : values.Value I = stored b target o t l n number leaf e (value_at l n start (from_place number leaf e)) in
          let after : List (Cell I) = put_value z (to_place number leaf e) (stored b target o t l n number leaf e (value_at l n start (from_place number leaf e))) in
          record {
            value = put_value z (to_place number leaf e) (stored b target o t l n number leaf e (value_at l n start (from_place number leaf e)));
            is = ap (λ y. copy_read l n route leaf y (Some z)) (read_is d source a s l n number leaf e start) ∙ write_is b target o t l n number leaf e (value_at l n start (from_place number leaf e)) z;
            good = record {
              long = length-set z (to_place number leaf e) (Value (stored b target o t l n number leaf e (value_at l n start (from_place number leaf e)))) ∙ h.long;
              made = λ m y f low below. elim (cases_eq m number) [
                | inl same ↦ made_here m y f same source_same
                | inr ne ↦ elsewhere z (to_place number leaf e) (to_place m y f) (stored b target o t l n number leaf e (value_at l n start (from_place number leaf e))) (λ same. ne (one_place m number y leaf f e same))
                    ∙ h.made m y f (omega (arith, low, ne)) below
              ];
              kept = λ x none. elsewhere z (to_place number leaf e) x (stored b target o t l n number leaf e (value_at l n start (from_place number leaf e))) (none number leaf e (omega arith) less)
                  ∙ h.kept x (λ m y f low below. none m y f (omega (arith, low)) below);
            };
          }
        where
          made_here : (m : ℕ) (y : Leaf) (f : slice_get leaves m ≡ Some y) → m ≡ number → value_at l n start (from_place number leaf e) ≡ value_at l n row (from_place number leaf e) → cell_at (put_value z (to_place number leaf e) (stored b target o t l n number leaf e (value_at l n start (from_place number leaf e)))) (to_place m y f) ≡ moved m y f
          made_here m y f same source_same =
              let there : to_place number leaf e < length z = let w = in_row number leaf e in let long = h.long in omega (arith, w, long) in
              ap (cell_at (put_value z (to_place number leaf e) (stored b target o t l n number leaf e (value_at l n start (from_place number leaf e))))) (place_same b target o t m number y leaf f e same)
              ∙ (cell_put z (to_place number leaf e) (Value (stored b target o t l n number leaf e (value_at l n start (from_place number leaf e)))) there
              ∙ ap Value (ap (stored b target o t l n number leaf e) (source_same ∙ ap (value_at l n row) (place_same d source a s number m leaf y e f (sym same)))
              ∙ stored_same b target o t l n number m leaf y e f (sym same) (value_at l n row (from_place m y f))))

      -- ---- all leaves

      few : length leaves ≤ 2 ^ 62
      few = let c = no_more_than_bytes flow.model leaves view.size listed.struct in let small = listed.struct.small in omega (arith, c, small)

      later : (before to : ℕ) (start z : List (Cell I)) → before ≤ to → IsBehind row 0 before start → IsBehind start before to z → IsBehind row 0 to z
      later before to start z up begun h = record {
        long = h.long;
        made = λ m y f low below. elim (cases_lt m before) [
          | inl less ↦ h.kept (to_place m y f) (λ k x e from under same. let one = one_place m k y x f e same in omega (arith, one, from, less)) ∙ begun.made m y f low less
          | inr more ↦ h.made m y f more below
        ];
        kept = λ x none. h.kept x (λ m y f low below same. none m y f (omega arith) below same) ∙ begun.kept x (λ m y f low below same. none m y f low (omega (arith, below, up)) same);
      }

      batch : (before more : ℕ) (start : List (Cell I)) → before + more ≤ length leaves → IsBehind row 0 before start → Gives (IsBehind row 0 (before + more)) (copy_leaves l n route more before start)
      batch before more start room h =
          let g = batch_gives l n route leaves listed.numbered few start (λ number z. IsBehind start number (before + more) z) more before room
          (λ number leaf from to e z y. step before (before + more) number leaf e from to start h z y)
          (record { long = h.long; made = λ m y f low below. absurd (omega (arith, low, below)); kept = λ x none. refl }) in
          record { value = g.value; is = g.is; good = later before (before + more) start g.value (omega arith) h g.good }

      pub all_copied : Gives (IsBehind row 0 (length leaves)) (copy_all l n route (length leaves) row)
      all_copied = batches_give l n route leaves listed.numbered few (λ t z. IsBehind row 0 t z)
          (λ t z up h.
          let from : ℕ = done l n route leaves listed.numbered few t in
          let to : ℕ = done l n route leaves listed.numbered few (suc t) in
          let room : done l n route leaves listed.numbered few t + (done l n route leaves listed.numbered few (suc t) - done l n route leaves listed.numbered few t) ≡ done l n route leaves listed.numbered few (suc t) = omega (arith, up) in
          subst (λ y. Gives (IsBehind row 0 y) (copy_leaves l n route (done l n route leaves listed.numbered few (suc t) - done l n route leaves listed.numbered few t) (done l n route leaves listed.numbered few t) z)) room
          (batch (done l n route leaves listed.numbered few t) (done l n route leaves listed.numbered few (suc t) - done l n route leaves listed.numbered few t) z (omega (arith, room)) h))
          row (record { long = refl; made = λ m y f low below. absurd (omega (arith, low, below)); kept = λ x none. refl })
