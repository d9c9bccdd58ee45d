-- Each store of an initializer makes of rows and of bytes what stands for each other.
use Rattle.std.proofs.Common.{◌≡◌, ℕ, ◌+◌, ◌-◌, ◌<◌, ◌≤◌, Bool, true, false, Option, Some, None, List, [], ◌∷◌, length, arith, subst, sym, refl, ap, ◌∙◌, inl, inr}
use Rattle.std.specs.Prelude.{slice_get, set, map, ℤ}
use Rattle.std.specs.List.{list_all}
use Rattle.std.proofs.lemmas.Bool.{cases_eq, and_parts}
use Rattle.std.proofs.lemmas.List.{length-set}
use Rattle.std.proofs.lemmas.Option.{same_Some, slice_get_within}
use Rattle.cc_base.specs.Lattices.{LatticeOf, OrderLaws}
use Rattle.cc_base.specs.IntegerDomains.{IntegersOf, BoundLaws, RangeLaws}
use Rattle.cc_base.specs.IntegerLaws.{SoundLaws}
use Rattle.cc_base.specs.declared.limit_table.Limits.{Limits}
use Rattle.c_layout.specs.CheckedUnits.{UnitView, SetValue, SetText, static_store_view}
use Rattle.c_layout.specs.declared.leaf_lists.Class.TheVariants.{Char}
use Rattle.c_layout.specs.declared.shapes.BaseInfo.{BaseInfo}
use Rattle.c_layout.specs.declared.shapes.BaseKind.TheVariants.{Static, Older}
use Rattle.c_layout.specs.declared.checked_tree.checked_units.StaticStore.{StaticStore}
use Rattle.c_layout.specs.declared.checked_tree.checked_units.StaticStore.TheVariants as one
use Rattle.c_layout.specs.declared.checked_tree.checked_units.StaticValue.{StaticValue}
use Rattle.cfg.specs.BaseShapes.{ends_by, is_room_or_apart}
use Rattle.cfg.specs.WellFormed.{base_cells, base_values, is_well_formed}
use Rattle.cfg.specs.declared.machine_instructions.Scalar as declared
use Rattle.cfg.specs.declared.programs.Flow.{Flow}
use Rattle.pointer_domain.specs.declared.pointer_sets.Pointers.{Pointers}
use Rattle.value_domain.specs.declared.values.values.Value as values
use Rattle.value_domain.specs.declared.values.row_cells.Cell.{Cell}
use Rattle.value_domain.specs.declared.values.row_cells.Cell.TheVariants.{Value}
use Rattle.store_cells.specs.NearValues.{near_pointer, near_value}
use Rattle.store_objects.specs.ObjectLives.{at_base, clear_object, clear}
use Rattle.store.specs.StoreLengths.{store_keeps}
use Rattle.store_cells.specs.RowPositions.{value_at}
use Rattle.store.specs.Spelling.{written_count, character, spell_object, spell}
use Rattle.store.specs.Stores.{store}
use Rattle.store_cells.specs.Walks.{walk}
use Rattle.transfer_system.specs.StartRows.{static_class, pointer_into, static_value, store_static, start_store, store_at, start_stores}
use Rattle.memory_model.specs.Memory.Labels.{no_labels}
use Rattle.memory_model.specs.Memory.ScalarSizes.{same_class, class_bytes}
use Rattle.memory_model.specs.Memory.Bytes.{MachinePointer, into, number, Byte}
use Rattle.memory_model.specs.Memory.Instances.{static, Memory, Instance, live, bytes_of, bytes_at, byte_at, life_of, life_at}
use Rattle.memory_model.specs.Memory.Scalars.{pointer}
use Rattle.memory_model.specs.Memory.Tags.{tag_of}
use Rattle.memory_model.specs.Effects.Accesses as machine
use Rattle.memory_model.specs.Effects.NumberedTables.{empty_table}
use Rattle.memory_model.specs.Effects.ObjectEffects.{all_of}
use Rattle.memory_model.specs.Effects.ScalarBytes.{scalar_bytes, refilled}
use Rattle.memory_model.specs.Effects.Touches.{storage_of, storage_at, set_bytes, is_allocated}
use Rattle.memory_model.specs.Effects.UnitStarts.{value_bytes, stored, all_stored}
use Rattle.memory_model.specs.Effects.Worlds.{World, goes}
use Rattle.store_sound.specs.Concretization.Coverage.{state_of}
use Rattle.store_sound.specs.Concretization.RowMeaning.{IsLiveOf, InGamma}
use Rattle.store_sound.specs.Concretization.SoundMemory.{IsPointerIn, IsInstanceOf, IsMemoryOf, AreEntered, storage_for}
use Rattle.store_sound.specs.Concretization.ValueMeaning.{Naming, InGammaPointer, InGammaScalar}
use Rattle.store_sound.specs.Operations.Gives.{Gives}
use Rattle.store_sound.specs.Operations.Scalars.{signed_in}
use Rattle.store_sound.specs.Operations.Shapes.{IsLaidOut}
use Rattle.store_sound.proofs.operations.Frames.{IsAlike}
use Rattle.store_sound.proofs.operations.LoadSound.{instance_there}
use Rattle.store_sound.proofs.operations.MachineStores.{set_is}
use Rattle.store_sound.proofs.operations.Near.{IsNearValue, value_at_near}
use Rattle.store_sound.proofs.operations.Slices.{get_set_same, get_set_other}
use Rattle.store_sound.proofs.operations.StoreLeaves.{live_ended}
use Rattle.store_sound.proofs.operations.StoreRows.{Fits}
use Rattle.store_sound.proofs.operations.StoreSound.{store_stands}
use Rattle.store_sound.proofs.chars.CharStoreSound.{any_char_store}
use Rattle.store_sound.specs.Regions.RegionWrites.{IsRegion, InGammaBase}
use Rattle.store_sound.proofs.regions.BaseRows.{same_base, stands_base}
use Rattle.store_sound.proofs.regions.ContentRegions.{IsWritten, contents_written, contents_sane, region_content}
use Rattle.store_sound.specs.Programs.Premises.{HasPremises}
use Rattle.store_sound.proofs.programs.ShapedBases.{all_at, ends_inside}
use Rattle.library_sound.specs.SoundSteps.{AreShort, IsReached}
use Rattle.library_sound.proofs.NearScalars.{near_pointer_stands}
use Rattle.library_sound.proofs.BlankRows as blank
use Rattle.library_sound.proofs.Clearing.{cleared_stands}
use Rattle.library_sound.proofs.FullParts.{parts_full}
use Rattle.library_sound.proofs.spelling.Texts.{contents, contents_long, content_is, byte_small}
use Rattle.library_sound.proofs.spelling.SpelledCells.{IsText}
use Rattle.library_sound.proofs.spelling.SpelledRows.{IsSpelled, spelled_stands}
use Rattle.entry_sound.specs.Cells.StaticObjects.{IsStoreOf, AreStoresOf, IsStaticObject, StaticObjectsStand}
use Rattle.entry_sound.proofs.cells.Cellwise.{spell_cellwise}
use Rattle.entry_sound.proofs.cells.ClearedCells.{AreAlike, clear_alike, clear_only}
use Rattle.entry_sound.proofs.cells.GreatestRows.{greatest_stands}
use Rattle.entry_sound.proofs.cells.StaticChains.{standing, kind_of_value, scalar_of, kind_is, class_is, bytes_are, into_stands, base_small, scalar_in, value_stands}
use Rattle.entry_sound.proofs.cells.StaticMemory.{own_bytes, bytes_twice, bytes_own, static_store}
use Rattle.entry_sound.proofs.cells.StoredRows.{cellwise_alike, store_alike}
use Rattle.entry_sound.proofs.cells.TopPrograms.{top, every_base, top_long, top_greatest}

-- memory is alike where an instance gets as many bytes
pub set_alike : (memory : Memory) (i : ℕ) (it : Instance) → slice_get memory i ≡ Some it → (bytes : List Byte) → length bytes ≡ length it.bytes → IsAlike memory (set_bytes memory i bytes)
set_alike memory i it at bytes long = subst (IsAlike memory) (sym (set_is memory i it bytes at)) (record {
  lives = by_instance life_of refl;
  lengths = by_instance (λ o. length (bytes_of o)) long;
  made = length-set memory i now;
})
  where
    now : Instance
    now = record it { bytes = bytes }

    by_instance : {X : Type 0} (f : Option Instance → X) → f (Some (record it { bytes = bytes })) ≡ f (Some it) → (j : ℕ) → f (slice_get (set memory i (record it { bytes = bytes })) j) ≡ f (slice_get memory j)
    by_instance f e j = elim (cases_eq j i) [
      | inl d ↦ subst (λ k. f (slice_get (set memory i (record it { bytes = bytes })) k) ≡ f (slice_get memory k)) (sym d) (ap f (get_set_same memory i (record it { bytes = bytes }) (slice_get_within memory i it at)) ∙ (e ∙ sym (ap f at)))
      | inr n ↦ ap f (get_set_other memory i j (record it { bytes = bytes }) n)
    ]

near_near : {I : Type 0} {l : LatticeOf I} {n : IntegersOf I} {gamma : I → ℤ → Type 0} (o : OrderLaws l) (q : BoundLaws l n gamma) (v : values.Value I) → IsNearValue l n (near_value l n v)
unfolding value_at
near_near o q v = value_at_near o q (Value v ∷ []) 0

module _ {I : Type 0} {l : LatticeOf I} {n : IntegersOf I} {gamma : I → ℤ → Type 0} (o : OrderLaws l) (q : BoundLaws l n gamma) (c : SoundLaws l n gamma) (ranges : RangeLaws l n) (flow : Flow) (p : HasPremises flow) (limits : Limits) (good : is_well_formed limits flow ≡ true) (u : UnitView) (same : u.model ≡ flow.model)
    (naming : Naming) (start : Memory) (entered : ℕ → Option ℕ) (b i : ℕ) (info : BaseInfo) (object : IsStaticObject flow entered b i info) where
  declared_is : info.shape.heap ≡ false
  declared_is = sym (p.shaped.each b info object.among).kind ∙ ap (λ k. is_allocated (storage_for k)) object.static

  not_older : info.kind ≡ Older → ⊥
  not_older e = let f : Static ≡ Older = sym object.static ∙ e in absurd (cc)

  fits : Fits info
  fits = let a = p.laid.laid.close b info object.among in let d = p.laid.laid.small in omega (arith, a, d)

  cells : base_cells info ≡ length info.shape.cells
  cells = blank.cells_are flow p b info object.among declared_is

  -- a row whose cells of the object are those of one that stands for these bytes
  record IsMade (bytes : List Byte) (row : List (Cell I)) : Type 0 where
    other : List (Cell I)
    long : length other ≡ flow.width
    alike : AreAlike info.first (info.first + base_values info) row other
    stands_for : InGamma l n gamma flow naming other (state_of (standing entered (set_bytes start i bytes)))

  module _ (it : Instance) (at : slice_get start i ≡ Some it) (size : length it.bytes ≡ info.size) where
    -- ---- what is known of the object

    module _ (bytes : List Byte) (row : List (Cell I)) (m : IsMade bytes row) where
      abbrev memory : Memory
      memory = set_bytes start i bytes

      named : naming i ≡ Some b
      named = m.stands_for.lives.named b i object.there

      alive : life_at memory i ≡ live
      alive = m.stands_for.lives.alive b i object.there

      here : (x : Instance) × (slice_get memory i ≡ Some x)
      here = instance_there memory i alive

      instance : IsInstanceOf flow.model info here.0
      instance = m.stands_for.sane.instances i b info here.0 named object.among here.1

      plain : storage_at memory i ≡ static
      plain = ap storage_of here.1 ∙ (instance.storage ∙ ap storage_for object.static)

      whole : length (bytes_at memory i) ≡ info.size
      whole = ap (λ z. length (bytes_of z)) here.1 ∙ instance.size declared_is

      long_bytes : length bytes ≡ length it.bytes
      long_bytes = sym (ap length (own_bytes start i it at bytes)) ∙ (whole ∙ sym size)

      memory_alike : IsAlike start memory
      memory_alike = set_alike start i it at bytes long_bytes

      -- ---- a value

      module _ (offset : ℕ) (v : StaticValue) (is : IsStoreOf u flow naming start b info (one.Value offset v)) where
        abbrev kind : declared.Scalar
        kind = kind_of_value v

        room : offset + class_bytes flow.model (machine.class_in kind) ≤ info.size
        room = subst (λ z. offset + class_bytes flow.model z.0 ≤ info.size) (class_is v) is.1.1

        tags : (k : ℕ) (x : Byte) → k < class_bytes flow.model (machine.class_in kind) → slice_get (bytes_at memory i) (offset + k) ≡ Some x → x.tag ≡ tag_of (machine.class_in kind) k
        tags k x less e =
            let less_there : k < class_bytes flow.model (static_class v).0 = subst (λ z. k < class_bytes flow.model z.0) (sym (class_is v)) less in
            instance.tags declared_is (offset + k) x (sym (ap (λ z. slice_get (bytes_of z) (offset + k)) here.1) ∙ e) ∙ (is.1.0 k less_there ∙ ap (λ z. tag_of z.0 k) (class_is v))

        abbrev world : World
        world = record { memory = memory; draws = []; violated = [] }

        abbrev new : Memory
        new = set_bytes memory i (refilled (bytes_at memory i) offset (scalar_bytes (class_bytes flow.model (machine.class_in kind)) (scalar_of u v)))

        abbrev place : MachinePointer
        place = into i offset 0 info.size

        went : machine.store flow.model kind (pointer place) (scalar_of u v) world ≡ goes (scalar_of u v) (record world { memory = new })
        went = static_store flow.model kind (scalar_of u v) world i offset info.size (kind_is u v) alive plain room tags

        new_is : new ≡ set_bytes start i (stored u (SetValue offset v) bytes)
        new_is =
            ap (λ z. set_bytes memory i (refilled z offset (scalar_bytes (class_bytes flow.model (machine.class_in kind)) (scalar_of u v)))) (own_bytes start i it at bytes)
            ∙ (ap (λ z. set_bytes memory i (refilled bytes offset z)) (bytes_are u flow same p.model naming start v is.0)
            ∙ bytes_twice start i it at bytes (refilled bytes offset (value_bytes u v)))

        inside : IsPointerIn memory place
        inside = let r = room in let w = whole in record { made = m.stands_for.sane.made i b named; above = omega arith; below = omega (arith, r); within = omega (arith, w) }

        abbrev at_place : Pointers I
        at_place = near_pointer l n (pointer_into n b info.size offset 0 info.size)

        place_stands : InGammaPointer gamma naming memory at_place place
        place_stands = near_pointer_stands q flow.model flow.bases.items naming memory m.stands_for.sane (pointer_into n b info.size offset 0 info.size) place inside
            (into_stands o q u flow p naming memory i b info.size offset 0 info.size named (base_small o q u flow p naming memory i b (m.stands_for.sane.few i b) named) alive whole)

        abbrev y : values.Value I
        y = near_value l n (static_value l n flow.initial.items v)

        y_stands : InGammaScalar gamma naming memory y (scalar_of u v)
        y_stands = value_stands o q u flow p naming start memory memory_alike m.stands_for.sane v is.0

        room_of_row : p.laid.behind ≤ length m.other
        room_of_row = subst (λ z. p.laid.behind ≤ z) (sym m.long) p.laid.long

        -- whatever the scalar
        row_behind : (char : Bool) → same_class (machine.class_in kind) Char ≡ char → Gives (λ after. InGamma l n gamma flow naming after (record { memory = new; temps = empty_table; entered = entered })) (store l n flow.model flow.bases.items at_place (machine.class_in kind) (signed_in kind) y m.other)
        row_behind false e = store_stands o q c ranges flow p.shaped p.laid.texts p.laid.behind p.laid.laid p.laid.temporaries naming m.other room_of_row (state_of (standing entered memory)) m.stands_for kind at_place place y (scalar_of u v) (scalar_of u v) world (record world { memory = new }) refl e place_stands inside y_stands (scalar_in o q u flow p naming start memory memory_alike m.stands_for.sane v is.0) (near_near o q (static_value l n flow.initial.items v)) went
        row_behind true e = any_char_store o q c ranges flow p.shaped p.laid.texts p.padding p.laid.behind p.laid.laid p.laid.temporaries naming m.other room_of_row (state_of (standing entered memory)) m.stands_for kind at_place place y (scalar_of u v) (scalar_of u v) world (record world { memory = new }) refl e place_stands inside y_stands (near_near o q (static_value l n flow.initial.items v)) went

        value_made : (after : List (Cell I)) → store_static l n flow b info.size offset v row ≡ Some after → IsMade (stored u (SetValue offset v) bytes) after
        unfolding store_static
        value_made after e =
            let g = row_behind (same_class (machine.class_in kind) Char) refl in
            let f : store l n flow.model flow.bases.items at_place (machine.class_in kind) (signed_in kind) y row ≡ Some after = subst (λ z. store l n flow.model flow.bases.items at_place z.0 z.1 y row ≡ Some after) (class_is v) e in
            record {
              other = g.value;
              long = store_keeps l n flow.model flow.bases.items at_place (machine.class_in kind) (signed_in kind) y m.other g.value g.is ∙ m.long;
              alike = store_alike l n flow.model flow.bases.items b info object.among declared_is info.first (info.first + base_values info) row m.other m.alike at_place refl (machine.class_in kind) (signed_in kind) y after g.value f g.is;
              stands_for = subst (λ z. InGamma l n gamma flow naming g.value (record { memory = z; temps = empty_table; entered = entered })) new_is g.good;
            }

      -- ---- a text

      module _ (offset room : ℕ) (text : List ℕ) (is : IsStoreOf u flow naming start b info (one.Spell offset room text)) where
        abbrev spelled_memory : Memory
        spelled_memory = set_bytes memory i (refilled (bytes_at memory i) offset (contents room text))

        room_inside : offset + room ≤ length (bytes_at memory i)
        room_inside =
            let a = and_parts (ends_by offset room info.size) (list_all (is_room_or_apart offset room) info.shape.zeros) is.0 in
            let d = ends_inside offset room info.size a.0 in
            let e = whole in
            omega (arith, d, e)

        written : IsWritten memory spelled_memory i offset (contents room text)
        written = contents_written memory i offset (contents room text) here.0 here.1 (let a = contents_long room text in let d = room_inside in omega (arith, a, d))

        spelled_sane : IsMemoryOf flow.model flow.bases.items naming spelled_memory
        spelled_sane = contents_sane memory i offset (contents room text) here.0 here.1 (let a = contents_long room text in let d = room_inside in omega (arith, a, d)) flow.model flow.bases.items naming
            (λ k d e. (character text k, no_labels, content_is room text k d e, byte_small text k is.1.bytes)) m.stands_for.sane

        single : (j : ℕ) → IsLiveOf naming memory b j → j ≡ i
        single j w = m.stands_for.sane.one j i b info object.among not_older w.named named (λ e. live_ended (sym w.alive ∙ e)) (λ e. live_ended (sym alive ∙ e))

        tag_there : (a : ℕ) (x : Byte) → offset ≤ a → a < offset + room → byte_at spelled_memory i a ≡ Some x → x.tag ≡ tag_of Char 0
        unfolding byte_at
        tag_there a x from to e =
            let there = instance_there spelled_memory i (written.region.lives i ∙ alive) in
            (spelled_sane.instances i b info there.0 named object.among there.1).tags declared_is a x (sym (ap (λ z. slice_get (bytes_of z) a) there.1) ∙ e) ∙ is.1.over info object.among a from to

        is_text : IsText spelled_memory i offset (written_count room text) text
        is_text =
            let long = contents_long room text in
            let inner = room_inside in
            let small = m.stands_for.sane.small i in
            record {
              content = λ a x from to e. content_is room text (a - offset) x.content (region_content written a x from (omega (arith, to, long)) e);
              tag = λ a x from to e. tag_there a x from (omega (arith, to)) e;
              last = omega (arith, inner, small);
            }

        is_spelled : IsSpelled memory spelled_memory i info offset room text
        is_spelled = record {
          region = subst (IsRegion memory spelled_memory i offset) (contents_long room text) written.region;
          written = is_text;
          small = is.1.bytes;
          some = is.1.some;
          inside = let a = room_inside in let d = written.region.lengths i in omega (arith, a, d);
          declared = declared_is;
          full = λ z array e. (parts_full limits flow good b info object.among declared_is z array e).some;
          rooms = λ z array e. all_at (is_room_or_apart offset room) info.shape.zeros z array (and_parts (ends_by offset room info.size) (list_all (is_room_or_apart offset room) info.shape.zeros) is.0).1 e;
        }

        spelled_is : spelled_memory ≡ set_bytes start i (stored u (SetText offset room text) bytes)
        spelled_is = ap (λ z. set_bytes memory i (refilled z offset (contents room text))) (own_bytes start i it at bytes) ∙ bytes_twice start i it at bytes (refilled bytes offset (contents room text))

        row_spelled : InGamma l n gamma flow naming (spell_object l n offset room text info m.other) (record { memory = spelled_memory; temps = empty_table; entered = entered })
        row_spelled = spelled_stands o q flow naming m.other (state_of (standing entered memory)) (subst (IsLaidOut flow) (sym m.long) p.laid) m.stands_for spelled_memory i offset room text b info object.among named is_spelled spelled_sane single

        text_made : (after : List (Cell I)) → Some (spell l n flow.bases.items b offset room text row) ≡ Some after → IsMade (stored u (SetText offset room text) bytes) after
        unfolding spell
        text_made after e =
            let f : spell_object l n offset room text info row ≡ after = sym (ap (λ z. at_base (spell_object l n offset room text) z row) object.among) ∙ same_Some (at_base (spell_object l n offset room text) (slice_get flow.bases.items b) row) after e in
            let w = spell_cellwise l n info offset room text in
            record {
              other = spell_object l n offset room text info m.other;
              long = w.long m.other ∙ m.long;
              alike = subst (λ z. AreAlike info.first (info.first + base_values info) z (spell_object l n offset room text info m.other)) f (cellwise_alike info.first (info.first + base_values info) (spell_object l n offset room text info) w row m.other m.alike);
              stands_for = subst (λ z. InGamma l n gamma flow naming (spell_object l n offset room text info m.other) (record { memory = z; temps = empty_table; entered = entered })) spelled_is row_spelled;
            }

    -- ---- stores in order

    one_made : (bytes : List Byte) (row : List (Cell I)) → IsMade bytes row → (s : StaticStore) → IsStoreOf u flow naming start b info s → (after : List (Cell I)) → start_store l n flow b info.size s row ≡ Some after → IsMade (stored u (static_store_view s) bytes) after
    unfolding start_store
    one_made bytes row m (one.Value offset v) is after e = value_made bytes row m offset v is after e
    one_made bytes row m (one.Spell offset room text) is after e = text_made bytes row m offset room text is after e

    none_stays : (at_store : ℕ) (stores : List StaticStore) (after : List (Cell I)) → walk (store_at l n flow b info.size) at_store stores None ≡ Some after → ⊥
    none_stays k [] after e = cc
    none_stays k (s ∷ ss) after e = none_stays (k + 1) ss after e

    all_made : (k : ℕ) (stores : List StaticStore) → AreStoresOf u flow naming start b info stores → (bytes : List Byte) (row after : List (Cell I)) → IsMade bytes row → walk (store_at l n flow b info.size) k stores (Some row) ≡ Some after → IsMade (all_stored u (map static_store_view stores) bytes) after
    all_made k [] are bytes row after m e = subst (IsMade bytes) (same_Some row after e) m
    all_made k (s ∷ ss) are bytes row after m e = by_row (λ now f g. all_made (k + 1) ss are.1 (stored u (static_store_view s) bytes) now after f g) (start_store l n flow b info.size s row) refl
      where
        by_row : ((now : List (Cell I)) → IsMade (stored u (static_store_view s) bytes) now → walk (store_at l n flow b info.size) (k + 1) ss (Some now) ≡ Some after → IsMade (all_stored u (map static_store_view (s ∷ ss)) bytes) after) → (r : Option (List (Cell I))) → start_store l n flow b info.size s row ≡ r → IsMade (all_stored u (map static_store_view (s ∷ ss)) bytes) after
        by_row next None f = absurd (none_stays (k + 1) ss after (subst (λ z. walk (store_at l n flow b info.size) (k + 1) ss z ≡ Some after) f e))
        by_row next (Some now) f = next now (one_made bytes row m s are.0 now f) (subst (λ z. walk (store_at l n flow b info.size) (k + 1) ss z ≡ Some after) f e)

    -- ---- the object

    module _ (sane : IsMemoryOf flow.model flow.bases.items naming start) (lives : AreEntered flow.bases.items naming start entered) (short : AreShort flow.model start) (row : List (Cell I)) (long : length row ≡ flow.width) where
      abbrev first_row : List (Cell I)
      first_row = top limits flow good l n gamma p

      reached : IsReached l n gamma flow naming first_row (standing entered start)
      reached = record {
        long = top_long limits flow good l n gamma p;
        stands_for = greatest_stands o q flow (every_base limits flow good l n gamma p) first_row (top_greatest limits flow good l n gamma p) naming start sane entered lives;
        short = short;
        begun = refl;
      }

      row_room : info.first + base_values info ≤ length row
      row_room = let a = p.laid.laid.close b info object.among in let d = p.laid.long in omega (arith, a, d, long)

      cleared_made : IsMade (all_of (number 0 no_labels) (bytes_at start i)) (clear_object l n info row)
      cleared_made = record {
        other = clear_object l n info first_row;
        long = (clear_only l n info fits cells).long first_row ∙ top_long limits flow good l n gamma p;
        alike = clear_alike l n info fits cells declared_is row first_row (long ∙ sym (top_long limits flow good l n gamma p)) row_room;
        stands_for = cleared_stands q flow p naming first_row (standing entered start) reached b i info object.among object.there declared_is not_older (λ z array e. parts_full limits flow good b info object.among declared_is z array e);
      }

      pub object_stands : (stores : List StaticStore) → AreStoresOf u flow naming start b info stores → bytes_at start i ≡ all_stored u (map static_store_view stores) (all_of (number 0 no_labels) (bytes_at start i)) → (after : List (Cell I)) → start_stores l n flow b info.size stores (clear l n flow.bases.items b row) ≡ Some after → InGammaBase l n gamma flow naming start b info after
      unfolding start_stores clear
      object_stands stores are bytes after e =
          let f : walk (store_at l n flow b info.size) 0 stores (Some (clear_object l n info row)) ≡ Some after = subst (λ z. walk (store_at l n flow b info.size) 0 stores (Some (at_base (clear_object l n) z row)) ≡ Some after) object.among e in
          let m = all_made 0 stores are (all_of (number 0 no_labels) (bytes_at start i)) (clear_object l n info row) after cleared_made f in
          let g : set_bytes start i (all_stored u (map static_store_view stores) (all_of (number 0 no_labels) (bytes_at start i))) ≡ start = ap (set_bytes start i) (sym bytes) ∙ bytes_own start i it at in
          let h : InGamma l n gamma flow naming m.other (state_of (standing entered start)) = subst (λ z. InGamma l n gamma flow naming m.other (state_of (standing entered z))) g m.stands_for in
          same_base flow naming start b info m.other after fits m.alike.same
          (stands_base o q flow naming m.other (state_of (standing entered start)) (subst (IsLaidOut flow) (sym m.long) p.laid) h b info object.among)

-- ---- the theorem

module _ {I : Type 0} {l : LatticeOf I} {n : IntegersOf I} {gamma : I → ℤ → Type 0} (o : OrderLaws l) (q : BoundLaws l n gamma) (c : SoundLaws l n gamma) (ranges : RangeLaws l n) (flow : Flow) where
  pub static_objects_stand : StaticObjectsStand l n gamma flow
  static_objects_stand limits good p u same naming start entered sane lives short b i info object stores are bytes row after long e =
      let named = lives.named b i object.there in
      let at = instance_there start i (lives.alive b i object.there) in
      let declared : info.shape.heap ≡ false = sym (p.shaped.each b info object.among).kind ∙ ap (λ k. is_allocated (storage_for k)) object.static in
      let size = (sane.instances i b info at.0 named object.among at.1).size declared in
      object_stands o q c ranges flow p limits good u same naming start entered b i info object at.0 at.1 size sane lives short row long stores are bytes after e
