-- What the row of the entry tells of an object of static storage: it is cleared, and then the stores of its initializer follow.
use Rattle.std.proofs.Common.{◌≡◌, ℕ, ◌+◌, ◌-◌, ◌<◌, ◌≤◌, false, true, Option, Some, None, List, [], ◌∷◌, length, arith, subst, sym, refl, ap, ◌∙◌}
use Rattle.std.specs.Prelude.{slice_get, map, ℤ, pos, ◌-ℤ◌, ◌≤ℤ◌, int_le}
use Rattle.std.proofs.lemmas.Bool.{and_parts}
use Rattle.std.proofs.lemmas.Int.{ints}
use Rattle.std.proofs.lemmas.List.{length-map}
use Rattle.std.proofs.lemmas.Option.{same_Some, slice_get_within}
use Rattle.cc_base.specs.Lattices.{LatticeOf}
use Rattle.cc_base.specs.IntegerDomains.{IntegersOf, BoundLaws, RangeLaws}
use Rattle.cc_base.specs.IntegerTypes.{is_size, least_of, greatest_of}
use Rattle.c_layout.specs.CheckedUnits.{UnitView, SetValue, SetText, static_store_view}
use Rattle.c_layout.specs.declared.leaf_lists.Class.{Class}
use Rattle.c_layout.specs.declared.leaf_lists.Leaf.{Leaf}
use Rattle.c_layout.specs.declared.shapes.BaseInfo.{BaseInfo}
use Rattle.c_layout.specs.declared.checked_tree.checked_units.StaticStore.{StaticStore}
use Rattle.c_layout.specs.declared.checked_tree.checked_units.StaticStore.TheVariants as one
use Rattle.c_layout.specs.declared.checked_tree.checked_units.StaticValue.{StaticValue}
use Rattle.c_layout.specs.declared.checked_tree.checked_units.StaticValue.TheVariants.{Number, Null, Address}
use Rattle.cfg.specs.declared.programs.Flow.{Flow}
use Rattle.pointer_domain.specs.declared.pointer_sets.Pointers.{Pointers}
use Rattle.value_domain.specs.declared.values.values.Value.{Value}
use Rattle.value_domain.specs.declared.values.row_cells.Cell.{Cell}
use Rattle.store_cells.specs.AccessWindows.{last_offset, window_of, window_between}
use Rattle.store_objects.specs.LiveBases.{most_bases, is_literal_kind}
use Rattle.store_cells.specs.NearValues.{near_pointer, near_value}
use Rattle.store_objects.specs.ObjectLives.{at_base, clear_object, clear}
use Rattle.store.specs.StoreLengths.{store_keeps}
use Rattle.store_cells.specs.RowPositions.{leaf_position, value_at}
use Rattle.store_cells.specs.ScalarTypes as table
use Rattle.store.specs.Spelling.{spell_object, spell}
use Rattle.store.specs.Stores.{store}
use Rattle.store_cells.specs.Walks.{walk}
use Rattle.transfer_edges.specs.StartRows.{base_in, static_class, pointer_into, static_pointer, static_value, store_static, start_store, store_at, start_stores}
use Rattle.memory_model.specs.Memory.Bytes.{Content, number, Byte}
use Rattle.memory_model.specs.Memory.Instances.{Memory, Instance, live, bytes_of, bytes_at, byte_at}
use Rattle.memory_model.specs.Memory.Labels.{no_labels}
use Rattle.memory_model.specs.Memory.ScalarSizes.{class_bytes}
use Rattle.memory_model.specs.Memory.Scalars.{Scalar}
use Rattle.memory_model.specs.Memory.Tags.{tag_of, tag_at}
use Rattle.memory_model.specs.Effects.Accesses.{class_in}
use Rattle.memory_model.specs.Effects.NumberedTables.{empty_table}
use Rattle.memory_model.specs.Effects.ObjectEffects.{holding, all_of}
use Rattle.memory_model.specs.Effects.ScalarBytes.{scalar_bytes, refilled}
use Rattle.memory_model.specs.Effects.Touches.{set_bytes, is_allocated}
use Rattle.memory_model.specs.Effects.UnitStarts.{base_instance, value_bytes, stored, all_stored}
use Rattle.store_sound.specs.Concretization.Matching.{Matched}
use Rattle.store_sound.specs.Concretization.Places.{IsPlaceOf}
use Rattle.store_sound.specs.Concretization.RowMeaning.{MachineState}
use Rattle.store_sound.specs.Concretization.SoundMemory.{IsScalarIn, IsInstanceOf, IsMemoryOf, AreEntered, storage_for}
use Rattle.store_sound.specs.Concretization.ValueMeaning.{Naming}
use Rattle.store_sound.proofs.operations.Classes.{class_above}
use Rattle.store_sound.proofs.operations.Frames.{IsAlike}
use Rattle.store_sound.proofs.operations.LoadSound.{instance_there}
use Rattle.store_sound.proofs.operations.MachineStores.{set_is, scalar_length}
use Rattle.store_sound.proofs.operations.Slices.{get_there, get_set_same, get_map}
use Rattle.store_sound.proofs.operations.StoreRows.{Fits}
use Rattle.store_sound.proofs.operations.TagPlaces.{IsTagged, is_tagged}
use Rattle.store_sound.specs.Programs.Premises.{HasPremises}
use Rattle.store_sound.proofs.regions.ContentRegions as regions
use Rattle.transfer_sound.proofs.values.NearScalars.{IsNearScalar, near_offset, near_distance}
use Rattle.transfer_sound.proofs.values.TypeRanges.{type_near}
use Rattle.struct_copies_sound.proofs.leaves.Structs.{owned_at}
use Rattle.transfer_sound.proofs.objects.BlankRows as blank
use Rattle.struct_copies_sound.proofs.Texts.{contents}
use Rattle.entry_sound.specs.Cells.StaticObjects.{IsValueOf, IsStoreOf, AreStoresOf, IsStaticObject}
use Rattle.entry_sound.proofs.cells.ClearedCells.{clear_only}
use Rattle.entry_sound.proofs.cells.StaticChains.{kind_of_value, scalar_of, kind_is, class_is, bytes_are}
use Rattle.entry_sound.proofs.cells.StaticMemory.{own_bytes, bytes_twice, bytes_own}
use Rattle.entry_sound.proofs.starts.StaticSteps.{set_alike}
use Rattle.transfer_exact.specs.Values.ExactNumbers.{ExactLaws}
use Rattle.transfer_exact.specs.Values.SingleRows.{IsPlainProgram, ExactLeaf}
use Rattle.transfer_exact.specs.Values.SingleValues.{ExactByLife, ExactScalar}
use Rattle.transfer_exact.proofs.values.NearExact.{near_one, near_scalar_tells}
use Rattle.transfer_exact.proofs.places.OneLeaf.{same_size, owned, place_is}
use Rattle.transfer_exact.proofs.places.OneStore.{SetsCell, store_sets}
use Rattle.transfer_exact.proofs.places.OneTouch.{one_window}
use Rattle.transfer_exact.proofs.places.Written.{IsWritten}
use Rattle.transfer_exact.specs.Accesses.TypedAccesses.{HasObjects}
use Rattle.transfer_exact.proofs.accesses.StoredRows.{FitsLeaf, stored_leaves}
use Rattle.transfer_exact.proofs.accesses.ExactClears.{leaf_zero, zero_leaf}
use Rattle.transfer_exact.proofs.accesses.ExactStores.{fit_of, some_value, base_fits}
use Rattle.transfer_exact.proofs.spelling.SpelledLeaves.{spelled_leaves}
use Rattle.store_sound.proofs.regions.SpelledParts.{spelled_within}
use Rattle.run_exact.proofs.entries.NamedTargets.{NamesTargets}
use Rattle.run_exact.proofs.entries.StaticBytes.{refilled_tags, refilled_long}

int_le_true : (a b : ℤ) → int_le a b ≡ true → a ≤ℤ b
int_le_true a b e = grind (arith, ints)

module _ {I : Type 0} {l : LatticeOf I} {n : IntegersOf I} {gamma : I → ℤ → Type 0} (q : BoundLaws l n gamma) (ranges : RangeLaws l n) (exact : ExactLaws n) (flow : Flow) (p : HasPremises flow) (objects : HasObjects flow) (plain : IsPlainProgram flow) (u : UnitView) (same : u.model ≡ flow.model)
    (naming : Naming) (start : Memory) (sane : IsMemoryOf flow.model flow.bases.items naming start) (entered : ℕ → Option ℕ) (lives : AreEntered flow.bases.items naming start entered) (targets : NamesTargets u flow.initial.items entered) where
  base_small : (b i : ℕ) → naming i ≡ Some b → b < most_bases
  base_small b i named = let a = sane.few i b named in let few = p.shaped.few in omega (arith, a, few)

  -- ---- values of initializers

  module _ (memory : Memory) (alike : IsAlike start memory) where
    scalar_within : (v : StaticValue) → IsValueOf u flow naming start v → IsScalarIn memory (scalar_of u v)
    scalar_within (Number k kind) h = tt
    scalar_within Null h = tt
    scalar_within (Address object offset lo hi) h =
        let long = h.long in
        let as_long = alike.lengths (base_instance u object) in
        let within = h.within in
        let made = sane.made (base_instance u object) h.base h.named in
        let as_many = alike.made in
        record { made = omega (arith, made, as_many); above = h.above; below = h.below; within = omega (arith, long, as_long, within) }

    scalar_near : (v : StaticValue) → IsValueOf u flow naming start v → IsNearScalar (scalar_of u v)
    scalar_near (Number k kind) h =
        let size = (and_parts (is_size kind.bytes) _ h.0).0 in
        let r = and_parts (int_le (least_of kind) k) (int_le k (greatest_of kind)) h.1 in
        type_near kind k k k size (int_le_true _ _ r.0) (int_le_true _ _ r.1) (omega (arith, ints)) (omega (arith, ints))
    scalar_near Null h = tt
    scalar_near (Address object offset lo hi) h = tt

    plain_tells : (v : StaticValue) → IsValueOf u flow naming start v → ExactScalar n entered memory (static_value l n flow.initial.items v) (scalar_of u v)
    plain_tells (Number k kind) h = record { number = q.one_bounds k; labels_are = refl; apart = record { bases = refl; null = refl; ended = refl }; determinate = refl }
    plain_tells Null h = record { apart = q.least_bounds; points = record { bases = refl; null = refl; ended = refl }; determinate = refl }
    plain_tells (Address object offset lo hi) h = record {
      apart = q.least_bounds;
      points = subst (λ z. ExactByLife n entered (static_pointer l n (base_in flow.initial.items object) offset lo hi) z (base_instance u object) offset lo hi) (sym (alike.lives (base_instance u object) ∙ h.alive))
          (subst (λ z. ExactByLife n entered (static_pointer l n z offset lo hi) live (base_instance u object) offset lo hi) (sym h.is) (record {
            base = h.base;
            few = base_small h.base (base_instance u object) h.named;
            names = targets object h.base h.size h.is;
            bases = refl;
            lower = q.one_bounds (pos lo);
            relative = q.one_bounds (pos offset -ℤ pos lo);
            room = q.one_bounds (pos hi -ℤ pos lo);
            null = refl;
            ended = refl;
          }));
      determinate = refl;
    }

    value_tells : ((i : ℕ) → length (bytes_at memory i) ≤ last_offset) → (v : StaticValue) → IsValueOf u flow naming start v → ExactScalar n entered memory (near_value l n (static_value l n flow.initial.items v)) (scalar_of u v)
    value_tells small v h = near_scalar_tells q entered memory small (static_value l n flow.initial.items v) (scalar_of u v) (scalar_within v h) (scalar_near v h) (plain_tells v h)

  -- ---- an object

  module _ (b i : ℕ) (info : BaseInfo) (object : IsStaticObject flow entered b i info) where
    declared : info.shape.heap ≡ false
    declared = plain.no_heap b info object.among

    named : naming i ≡ Some b
    named = lives.named b i object.there

    it : (x : Instance) × (slice_get start i ≡ Some x)
    it = instance_there start i (lives.alive b i object.there)

    known : IsInstanceOf flow.model info it.0
    known = sane.instances i b info it.0 named object.among it.1

    fits : Fits info
    fits = base_fits flow p b info object.among

    single : (j : ℕ) (leaf : Leaf) → slice_get info.shape.cells j ≡ Some leaf → leaf.count ≡ 1
    single j leaf e = plain.apart b j info leaf object.among e

    -- bytes that the object may have
    record AreFor (bytes : List Byte) : Type 0 where
      long : length bytes ≡ info.size
      tags : (at : ℕ) (x : Byte) → slice_get bytes at ≡ Some x → x.tag ≡ tag_at flow.model info.shape.cells at

    abbrev instance : List Byte → Instance
    instance bytes = record (it.0) { bytes = bytes }

    abbrev state : List Byte → MachineState
    state bytes = record { memory = set_bytes start i bytes; temps = empty_table; entered = entered }

    here : (bytes : List Byte) → slice_get (set_bytes start i bytes) i ≡ Some (instance bytes)
    here bytes = ap (λ z. slice_get z i) (set_is start i it.0 bytes it.1) ∙ get_set_same start i (instance bytes) (slice_get_within start i it.0 it.1)

    -- the row tells the object where it has these bytes
    record IsExact (bytes : List Byte) (row : List (Cell I)) : Type 0 where
      are : AreFor bytes
      long : length row ≡ flow.width
      leaves : (j : ℕ) (leaf : Leaf) → slice_get info.shape.cells j ≡ Some leaf → ExactLeaf l n flow (state bytes) (value_at l n row (leaf_position info j)) i leaf.offset leaf

    module _ (bytes : List Byte) (are : AreFor bytes) where
      fitting : IsInstanceOf flow.model info (instance bytes)
      fitting = record { storage = known.storage; size = λ d. are.long; tags = λ d. are.tags }

      alike : IsAlike start (set_bytes start i bytes)
      alike = set_alike start i it.0 it.1 bytes (are.long ∙ sym (known.size declared))

      small : (k : ℕ) → length (bytes_at (set_bytes start i bytes) k) ≤ last_offset
      small k = let a = alike.lengths k in let c = sane.small k in omega (arith, a, c)

      leaf_tag : (j : ℕ) (leaf : Leaf) → slice_get info.shape.cells j ≡ Some leaf → (k : ℕ) → k < class_bytes flow.model leaf.class → (x : Byte) → slice_get bytes (leaf.offset + k) ≡ Some x → x.tag ≡ tag_of leaf.class k
      leaf_tag j leaf e k less x f = are.tags (leaf.offset + k) x f
          ∙ owned_at flow.model info.shape.cells info.size (objects b info object.among) j (leaf.offset + k) k leaf e (owned flow.model info.shape.cells info.size (objects b info object.among) single j (leaf.offset + k) k leaf e refl less)

      refilled_for : (offset : ℕ) (cs : List Content) → AreFor (refilled bytes offset cs)
      refilled_for offset cs = record {
        long = refilled_long offset bytes cs ∙ are.long;
        tags = λ at x e. let r = refilled_tags offset bytes cs at x e in r.2 ∙ are.tags at r.0 r.1;
      }

    -- ---- all zero

    abbrev zeros : List Byte
    zeros = all_of (number 0 no_labels) (bytes_at start i)

    zeros_for : AreFor zeros
    zeros_for = record {
      long = length-map (bytes_at start i) (holding (number 0 no_labels)) ∙ (ap (λ z. length (bytes_of z)) it.1 ∙ known.size declared);
      tags = λ at x e.
          let r = get_map (holding (number 0 no_labels)) (bytes_at start i) at x e in
          sym (ap (λ z. z.tag) r.2) ∙ known.tags declared at r.0 (sym (ap (λ z. slice_get (bytes_of z) at) it.1) ∙ r.1);
    }

    zero_bytes : (j : ℕ) (leaf : Leaf) → slice_get info.shape.cells j ≡ Some leaf → (k : ℕ) → k < class_bytes flow.model leaf.class → Matched (set_bytes start i zeros) i (leaf.offset + k) leaf.class k (number 0 no_labels)
    unfolding byte_at
    zero_bytes j leaf e k less =
        let own = owned flow.model info.shape.cells info.size (objects b info object.among) single j (leaf.offset + k) k leaf e refl less in
        let inside = (objects b info object.among).inside j (leaf.offset + k) k leaf e own in
        let size = zeros_for.long in
        let x = get_there zeros (leaf.offset + k) (omega (arith, inside, size)) in
        let r = get_map (holding (number 0 no_labels)) (bytes_at start i) (leaf.offset + k) x.0 x.1 in
        let tag = leaf_tag zeros zeros_for j leaf e k less x.0 x.1 in
        let content : x.0.content ≡ number 0 no_labels = sym (ap (λ z. z.content) r.2) in
        record {
          tag = tag_of leaf.class k;
          here = ap (λ z. slice_get (bytes_of z) (leaf.offset + k)) (here zeros) ∙ (x.1 ∙ (λ z. Some (record { content = content z; tag = tag z })));
          fits = (refl, refl);
        }

    cleared_told : (row : List (Cell I)) → length row ≡ flow.width → IsExact zeros (clear_object l n info row)
    cleared_told row long = record {
      are = zeros_for;
      long = (clear_only l n info fits (blank.cells_are flow p b info object.among declared)).long row ∙ long;
      leaves = λ j leaf e. subst (λ z. ExactLeaf l n flow (state zeros) z i leaf.offset leaf) (sym (leaf_zero flow p b info object.among declared l n row long j leaf e)) (zero_leaf q flow (state zeros) i leaf (zero_bytes j leaf e) _ refl);
    }

    module _ (bytes : List Byte) (row : List (Cell I)) (m : IsExact bytes row) where
      abbrev memory : Memory
      memory = set_bytes start i bytes

      -- ---- a value

      module _ (offset : ℕ) (v : StaticValue) (is : IsStoreOf u flow naming start b info (one.Value offset v)) where
        abbrev class : Class
        class = (static_class v).0

        abbrev s : Scalar
        s = scalar_of u v

        class_same : class ≡ class_in (kind_of_value v)
        class_same = ap (λ z. z.0) (class_is v)

        place : IsTagged flow.model info.shape.cells offset (record { class = class; at = 0 })
        place =
            let z : offset + 0 ≡ offset = omega arith in
            is_tagged flow.model info.shape.cells offset (record { class = class; at = 0 }) (subst (λ y. tag_at flow.model info.shape.cells y ≡ tag_of class 0) z (is.1.0 0 (class_above flow.model class)))

        abbrev leaf : Leaf
        leaf = place.leaf

        begins : leaf.offset ≡ offset
        begins =
            let a = place_is flow.model info.shape.cells info.size (objects b info object.among) single place.index place.owned.start leaf place.among place.owned.place in
            let c = place.owned.there in
            omega (arith, a, c)

        abbrev size : ℕ
        size = class_bytes flow.model leaf.class

        room : leaf.offset + size ≤ info.size
        room = let e = begins in subst (λ c. leaf.offset + class_bytes flow.model c ≤ info.size) place.class (let r = is.1.1 in omega (arith, r, e))

        abbrev cs : List Content
        cs = scalar_bytes size s

        abbrev new : Memory
        new = set_bytes memory i (refilled (bytes_at memory i) leaf.offset cs)

        cs_is : cs ≡ value_bytes u v
        cs_is = ap (λ c. scalar_bytes (class_bytes flow.model c) s) (sym place.class ∙ class_same) ∙ bytes_are u flow same p.model naming start v is.0

        new_is : new ≡ set_bytes start i (stored u (SetValue offset v) bytes)
        new_is =
            ap (λ z. set_bytes memory i (refilled z leaf.offset cs)) (own_bytes start i it.0 it.1 bytes)
            ∙ ((λ k. set_bytes memory i (refilled bytes (begins k) (cs_is k))) ∙ bytes_twice start i it.0 it.1 bytes (refilled bytes offset (value_bytes u v)))

        made : AreFor (stored u (SetValue offset v) bytes)
        made = refilled_for bytes m.are offset (value_bytes u v)

        region : regions.IsWritten memory new i leaf.offset cs
        region = regions.contents_written memory i leaf.offset cs (instance bytes) (here bytes) (
            let long = m.are.long in
            let there : length (bytes_at memory i) ≡ length bytes = ap (λ z. length (bytes_of z)) (here bytes) in
            let r = room in
            let c = scalar_length size s in
            omega (arith, long, there, r, c))

        own : IsWritten memory new i leaf.offset leaf.class size cs
        unfolding byte_at
        own = record {
          lives = region.region.lives;
          outside = λ j o ne. region.region.outside j o (λ d f g. ne d f (let c = scalar_length size s in omega (arith, g, c)));
          inside = λ k y e.
              let w = region.inside k y e in
              let less = slice_get_within cs k y e in
              let tag = leaf_tag bytes m.are place.index leaf place.among k (let c = scalar_length size s in omega (arith, less, c)) w.0 (sym (ap (λ z. slice_get (bytes_of z) (leaf.offset + k)) (here bytes)) ∙ w.1) in
              record { tag = tag_of leaf.class k; here = w.2 ∙ (λ z. Some (record { content = y; tag = tag z })); fits = (refl, refl) };
        }

        new_alike : IsAlike start new
        new_alike = subst (IsAlike start) (sym new_is) (alike (stored u (SetValue offset v) bytes) made)

        new_small : (k : ℕ) → length (bytes_at new k) ≤ last_offset
        new_small = subst (λ z. (k : ℕ) → length (bytes_at z k) ≤ last_offset) (sym new_is) (small (stored u (SetValue offset v) bytes) made)

        abbrev y : Value I
        y = near_value l n (static_value l n flow.initial.items v)

        y_tells : ExactScalar n entered memory y s
        y_tells = value_tells memory (alike bytes m.are) (small bytes m.are) v is.0

        fit_leaf : FitsLeaf leaf s
        fit_leaf = fit_of (kind_of_value v) s leaf (sym class_same ∙ place.class) (kind_is u v)

        -- ---- the row

        abbrev rest : Pointers I
        rest = near_pointer l n (pointer_into n b info.size offset 0 info.size)

        window : window_of n rest (table.class_bytes flow.model leaf.class) ≡ Some (window_between leaf.offset leaf.offset)
        window =
            let short = p.sized b info object.among in
            let r = room in
            let e = begins in
            let c = same_size flow.model leaf.class in
            subst (λ z. window_of n rest (table.class_bytes flow.model leaf.class) ≡ Some (window_between z z)) (sym begins)
            (one_window q rest offset 0 info.size (table.class_bytes flow.model leaf.class)
            (near_one q (n.one (pos 0)) (pos 0) (near_offset 0 info.size (omega arith) (omega (arith, short))) (q.one_bounds (pos 0)))
            (near_one q (n.one (pos offset -ℤ pos 0)) (pos offset -ℤ pos 0) (near_distance 0 offset info.size (omega arith) (omega (arith, r, e)) (omega (arith, short))) (q.one_bounds (pos offset -ℤ pos 0)))
            (near_one q (n.one (pos info.size -ℤ pos 0)) (pos info.size -ℤ pos 0) (near_distance 0 info.size info.size (omega arith) (omega arith) (omega (arith, short))) (q.one_bounds (pos info.size -ℤ pos 0)))
            (omega arith) (omega (arith, r, e, c)) (omega (arith, short)))

        allocated_not : is_allocated (storage_for info.kind) ≡ false
        allocated_not = ap (λ k. is_allocated (storage_for k)) object.static

        writable : is_literal_kind info.kind ≡ false
        writable = ap is_literal_kind object.static

        abbrev Sets : Option (List (Cell I)) → Type 0
        Sets found = SetsCell l n flow.model flow.bases.items row b info object.among (base_small b i named) declared fits allocated_not writable (objects b info object.among) single place.index leaf place.among y found

        setting : Sets (store l n flow.model flow.bases.items rest class (static_class v).1 y row)
        setting = subst (λ z. Sets (store l n flow.model flow.bases.items rest z (static_class v).1 y row)) (sym place.class)
            (store_sets l n flow.model flow.bases.items row b info object.among (base_small b i named) declared fits allocated_not writable (objects b info object.among) single place.index leaf place.among y (static_class v).1 rest refl window
            (some_value n entered memory leaf s y fit_leaf y_tells))

        new_leaves : (j : ℕ) (other : Leaf) (x : ℕ) → slice_get info.shape.cells j ≡ Some other → IsPlaceOf other x → ExactLeaf l n flow (record { memory = new; temps = empty_table; entered = entered }) (value_at l n setting.after (leaf_position info j)) i x other
        new_leaves = stored_leaves q ranges exact flow p row m.long (state bytes) new new_small b i info object.among (objects b info object.among) single place.index leaf place.among s fit_leaf (scalar_within new new_alike v is.0) own y y_tells setting.after setting.keeps
            (λ j other x e placed. subst (λ z. ExactLeaf l n flow (state bytes) (value_at l n row (leaf_position info j)) i z other) (sym (place_is flow.model info.shape.cells info.size (objects b info object.among) single j x other e placed)) (m.leaves j other e))

        value_told : (after : List (Cell I)) → store_static l n flow b info.size offset v row ≡ Some after → IsExact (stored u (SetValue offset v) bytes) after
        unfolding store_static
        value_told after e =
            let f : setting.after ≡ after = same_Some setting.after after (sym setting.is ∙ e) in
            record {
              are = made;
              long = store_keeps l n flow.model flow.bases.items rest class (static_class v).1 y row after e ∙ m.long;
              leaves = λ j other g. subst (λ z. ExactLeaf l n flow (record { memory = z; temps = empty_table; entered = entered }) (value_at l n after (leaf_position info j)) i other.offset other) new_is
                  (subst (λ z. ExactLeaf l n flow (record { memory = new; temps = empty_table; entered = entered }) (value_at l n z (leaf_position info j)) i other.offset other) f
                  (new_leaves j other other.offset g (let c = single j other g in record { turn = 0; few = omega (arith, c); there = omega arith })));
            }

      -- ---- a text

      module _ (offset room : ℕ) (text : List ℕ) (is : IsStoreOf u flow naming start b info (one.Spell offset room text)) where
        abbrev spelled_memory : Memory
        spelled_memory = set_bytes memory i (refilled (bytes_at memory i) offset (contents room text))

        spelled_is : spelled_memory ≡ set_bytes start i (stored u (SetText offset room text) bytes)
        spelled_is = ap (λ z. set_bytes memory i (refilled z offset (contents room text))) (own_bytes start i it.0 it.1 bytes) ∙ bytes_twice start i it.0 it.1 bytes (refilled bytes offset (contents room text))

        text_told : (after : List (Cell I)) → Some (spell l n flow.bases.items b offset room text row) ≡ Some after → IsExact (stored u (SetText offset room text) bytes) after
        unfolding spell
        text_told after e =
            let f : spell_object l n offset room text info row ≡ after = sym (ap (λ z. at_base (spell_object l n offset room text) z row) object.among) ∙ same_Some (at_base (spell_object l n offset room text) (slice_get flow.bases.items b) row) after e in
            let t = spelled_leaves q flow p objects plain row m.long (state bytes) b i offset room text info object.among is.0 is.1 (instance bytes) (here bytes) (fitting bytes m.are) m.leaves in
            record {
              are = refilled_for bytes m.are offset (contents room text);
              long = sym (ap length f) ∙ ((spelled_within l n flow info fits offset room text).long row ∙ m.long);
              leaves = λ j other g. subst (λ z. ExactLeaf l n flow (record { memory = z; temps = empty_table; entered = entered }) (value_at l n after (leaf_position info j)) i other.offset other) spelled_is
                  (subst (λ z. ExactLeaf l n flow (record { memory = spelled_memory; temps = empty_table; entered = entered }) (value_at l n z (leaf_position info j)) i other.offset other) f (t j other g));
            }

      one_told : (st : StaticStore) → IsStoreOf u flow naming start b info st → (after : List (Cell I)) → start_store l n flow b info.size st row ≡ Some after → IsExact (stored u (static_store_view st) bytes) after
      unfolding start_store
      one_told (one.Value offset v) is after e = value_told offset v is after e
      one_told (one.Spell offset room text) is after e = text_told offset room text is after e

    -- ---- stores in order

    none_stays : (k : ℕ) (stores : List StaticStore) (after : List (Cell I)) → walk (store_at l n flow b info.size) k stores None ≡ Some after → ⊥
    none_stays k [] after e = cc
    none_stays k (s ∷ ss) after e = none_stays (k + 1) ss after e

    all_told : (k : ℕ) (stores : List StaticStore) → AreStoresOf u flow naming start b info stores → (bytes : List Byte) (row after : List (Cell I)) → IsExact bytes row → walk (store_at l n flow b info.size) k stores (Some row) ≡ Some after → IsExact (all_stored u (map static_store_view stores) bytes) after
    all_told k [] are bytes row after m e = subst (IsExact bytes) (same_Some row after e) m
    all_told k (s ∷ ss) are bytes row after m e = by_row (λ now f g. all_told (k + 1) ss are.1 (stored u (static_store_view s) bytes) now after f g) (start_store l n flow b info.size s row) refl
      where
        by_row : ((now : List (Cell I)) → IsExact (stored u (static_store_view s) bytes) now → walk (store_at l n flow b info.size) (k + 1) ss (Some now) ≡ Some after → IsExact (all_stored u (map static_store_view (s ∷ ss)) bytes) after) → (r : Option (List (Cell I))) → start_store l n flow b info.size s row ≡ r → IsExact (all_stored u (map static_store_view (s ∷ ss)) bytes) after
        by_row next None f = absurd (none_stays (k + 1) ss after (subst (λ z. walk (store_at l n flow b info.size) (k + 1) ss z ≡ Some after) f e))
        by_row next (Some now) f = next now (one_told bytes row m s are.0 now f) (subst (λ z. walk (store_at l n flow b info.size) (k + 1) ss z ≡ Some after) f e)

    pub static_leaves : (stores : List StaticStore) → AreStoresOf u flow naming start b info stores → bytes_at start i ≡ all_stored u (map static_store_view stores) (all_of (number 0 no_labels) (bytes_at start i)) → (row after : List (Cell I)) → length row ≡ flow.width → start_stores l n flow b info.size stores (clear l n flow.bases.items b row) ≡ Some after
        → (j : ℕ) (leaf : Leaf) → slice_get info.shape.cells j ≡ Some leaf → ExactLeaf l n flow (record { memory = start; temps = empty_table; entered = entered }) (value_at l n after (leaf_position info j)) i leaf.offset leaf
    unfolding start_stores clear
    static_leaves stores are bytes row after long e j leaf g =
        let f : walk (store_at l n flow b info.size) 0 stores (Some (clear_object l n info row)) ≡ Some after = subst (λ z. walk (store_at l n flow b info.size) 0 stores (Some (at_base (clear_object l n) z row)) ≡ Some after) object.among e in
        let m = all_told 0 stores are zeros (clear_object l n info row) after (cleared_told row long) f in
        let back : set_bytes start i (all_stored u (map static_store_view stores) zeros) ≡ start = ap (set_bytes start i) (sym bytes) ∙ bytes_own start i it.0 it.1 in
        subst (λ z. ExactLeaf l n flow (record { memory = z; temps = empty_table; entered = entered }) (value_at l n after (leaf_position info j)) i leaf.offset leaf) back (m.leaves j leaf g)
