-- A store of a class other than char is stood for.
use Rattle.std.proofs.Common.{◌≡◌, ℕ, zero, suc, ◌+◌, ◌<◌, ◌≤◌, Bool, true, false, Some, None, List, length, arith, subst, sym, refl, ap, ◌∙◌, inl, inr, drop, ◌-◌}
use Rattle.std.specs.Prelude.{slice_get, ℤ, ◌==◌, nat_lt, count_by, ◌-◌}
use Rattle.std.proofs.lemmas.Bool.{and_parts, and_from, true≢false, eqb-true, ltb-true, lt-ltb}
use Rattle.std.proofs.lemmas.Option.{same_Some, slice_get_within}
use Rattle.cc_base.specs.Lattices.{LatticeOf, OrderLaws}
use Rattle.cc_base.specs.IntegerDomains.{IntegersOf, BoundLaws, RangeLaws}
use Rattle.c_layout.specs.declared.leaf_lists.Class.{Class}
use Rattle.c_layout.specs.declared.leaf_lists.Class.TheVariants.{Char}
use Rattle.c_layout.specs.declared.shapes.BaseInfo.{BaseInfo}
use Rattle.cfg.specs.declared.machine_instructions.Scalar as declared
use Rattle.cfg.specs.declared.programs.Flow.{Flow}
use Rattle.pointer_domain.specs.declared.base_sets.Bases.{Bases}
use Rattle.value_domain.specs.declared.values.values.Value.{Value}
use Rattle.value_domain.specs.declared.values.row_cells.Cell.{Cell}
use Rattle.store_cells.specs.declared.access_windows.Window.{Window}
use Rattle.store_cells.specs.declared.cell_reads.Access.{Access}
use Rattle.store.specs.declared.stores.Write.{Write}
use Rattle.store_cells.specs.AccessWindows.{last_offset}
use Rattle.store_cells.specs.ClassNumbers.{same_class}
use Rattle.memory_model.specs.Memory.ScalarSizes.{class_bytes}
use Rattle.store_cells.specs.RowPositions.{zero_position, state_position, zero_at, state_at}
use Rattle.store.specs.LeafSelection.{has_stray}
use Rattle.store_objects.specs.LiveBases.{has_base, most_bases, is_live_in, may_be_live, is_literal_kind, is_one_instance, single_bases}
use Rattle.store.specs.Stores.{stored_value, store_all, reached_of, any_place, has_own_place, is_nothing, can_store, store_access, store as abstract_store}
use Rattle.memory_model.specs.Memory.Bytes.{Content, MachinePointer, null, into, Tag, Byte}
use Rattle.memory_model.specs.Memory.Instances.{Memory, bytes_at, live, ended, life_at, Life, freed, bytes_of, byte_at}
use Rattle.memory_model.specs.Memory.Scalars.{Scalar, integer, pointer}
use Rattle.store_sound.specs.Concretization.ValueMeaning.{Naming, InGammaScalar, InGammaInto, InGammaByLife, InGammaPointer, InGammaState, InGammaZero}
use Rattle.store_sound.specs.Concretization.RowMeaning.{IsLiveOf, MachineState, InGamma, array_of, array_bytes}
use Rattle.memory_model.specs.Effects.Accesses.{class_in, store}
use Rattle.memory_model.specs.Effects.ScalarBytes.{scalar_bytes}
use Rattle.cc_base.specs.IntegerLaws.{SoundLaws}
use Rattle.store_sound.specs.Operations.Shapes.{IsShaped, AreShaped, AreLaid, at_offset, HasTexts}
use Rattle.store_sound.proofs.operations.Classes.{is_same_class, class_small, class_above}
use Rattle.store_sound.proofs.operations.Selected.{place_selected, is_stray, counted_place}
use Rattle.store_sound.specs.Operations.Scalars.{signed_in, IsOfKind, IsScalarNamed}
use Rattle.store_sound.proofs.operations.MachineStores.{IsStore, store_goes}
use Rattle.store_sound.proofs.operations.Frames.{alike, scalar_moves, scalar_in_moves, live_moves, in_or_out}
use Rattle.store_sound.proofs.operations.Near.{IsNearValue}
use Rattle.store_sound.proofs.operations.StoreValues.{same_value, same_zero, same_state}
use Rattle.store_sound.proofs.operations.StoreRows.{zero_is, state_after, object_zero_after, heap_zero_after, behind_keeps}
use Rattle.store_sound.specs.Concretization.SoundMemory.{IsWithin, IsPointerIn, IsScalarIn, IsNamed, storage_for}
use Rattle.c_layout.specs.declared.shapes.BaseKind.TheVariants.{Older, Static, Automatic, Literal, Newest}
use Rattle.c_layout.specs.declared.shapes.ZeroPart.{ZeroPart}
use Rattle.c_layout.specs.declared.shapes.BaseKind.{BaseKind}
use Rattle.pointer_domain.specs.declared.pointer_sets.Pointers.{Pointers}
use Rattle.pointer_domain.specs.BaseSets.{bases_has, bases_count, bases_within}
use Rattle.transfer_checks.specs.Temporaries.{temp_position, temp_value}
use Rattle.value_domain.specs.declared.values.alloc_states.AllocState.{AllocState}
use Rattle.memory_model.specs.Memory.Tags.{tag_of}
use Rattle.memory_model.specs.Effects.Worlds.{World, goes}
use Rattle.memory_model.specs.Effects.Touches.{is_literal, is_allocated, storage_of, storage_at}
use Rattle.store_sound.specs.Operations.Gives.{Gives}
use Rattle.store_sound.proofs.operations.Slices.{get_there}
use Rattle.store_sound.proofs.operations.Windows.{window_has}
use Rattle.store_sound.proofs.operations.TagPlaces.{tag_place}
use Rattle.store_sound.proofs.operations.LoadSound.{instance_there, live_if}
use Rattle.store_sound.proofs.operations.OneBases.{one_base}
use Rattle.store_sound.proofs.operations.Sets.{in_reached, is_single}
use Rattle.store_sound.proofs.operations.StoreLeaves.{IsAlone, leaf_stands, class_stands}
use Rattle.store_sound.proofs.operations.StoreMemory.{new_sane, object_storage}
use Rattle.store_sound.proofs.operations.StoreZeros.{same_slices, same_array, forgotten, any_stands}
use Rattle.store_sound.proofs.operations.StorePlaces.{some_place, leaf_place, class_place, is_something}

char_tag : (c : Class) → same_class c Char ≡ false → (k : ℕ) → tag_of c k ≡ tag_of Char 0 → ⊥
char_tag c wide k e =
    let a : Tag = record { class = c; at = k } in
    let b : Tag = record { class = Char; at = 0 } in
    let f : c ≡ Char = ap (λ t. t.class) (same_Some a b e) in
    true≢false (sym (is_same_class c Char f) ∙ wide)

pub named_moves : (naming : Naming) (old new : Memory) → ((j : ℕ) → life_at new j ≡ life_at old j) → (p : MachinePointer) → IsNamed naming old p → IsNamed naming new p
named_moves naming old new f null h = h
named_moves naming old new f (into i offset lo hi) h = λ e. h (λ g. e (f i ∙ g))

-- a pointer that is stood for points into an instance that has a base or has ended
life_named : {I : Type 0} (gamma : I → ℤ → Type 0) (naming : Naming) (memory : Memory) (v : Pointers I) (life : Life) (i offset lo hi : ℕ) → InGammaByLife gamma naming memory v life i offset lo hi → (life ≡ ended → ⊥) → naming i ≡ None → ⊥
life_named gamma naming memory v live i offset lo hi h e f = let g : Some h.base ≡ None = sym h.named ∙ f in cc
life_named gamma naming memory v ended i offset lo hi h e f = e refl
life_named gamma naming memory v freed i offset lo hi h e f = let g : Some h.base ≡ None = sym h.named ∙ f in cc

pub scalar_named : {I : Type 0} (gamma : I → ℤ → Type 0) (naming : Naming) (memory : Memory) (x : Value I) (v : Scalar) → InGammaScalar gamma naming memory x v → IsScalarNamed naming memory v
scalar_named gamma naming memory x (integer n labels) h = tt
scalar_named gamma naming memory x (pointer null) h = tt
scalar_named gamma naming memory x (pointer (into i offset lo hi)) h = life_named gamma naming memory x.pointer (life_at memory i) i offset lo hi h

pub array_whole : (zeros : ZeroPart) (bytes : List Byte) → zeros.size ≡ None → zeros.offset ≡ 0 → array_bytes zeros bytes ≡ bytes
array_whole zeros bytes e f = rw (e, f) refl

module _ {I : Type 0} {l : LatticeOf I} {n : IntegersOf I} {gamma : I → ℤ → Type 0} (o : OrderLaws l) (q : BoundLaws l n gamma) (c : SoundLaws l n gamma) (r : RangeLaws l n) (flow : Flow) (shaped : AreShaped flow.bases.items) (texts : (b : ℕ) (base : BaseInfo) → slice_get flow.bases.items b ≡ Some base → HasTexts flow.model base) (behind : ℕ) (laid : AreLaid flow.bases.items behind) (temporaries : behind ≤ flow.width - flow.temps) (naming : Naming) (row : List (Cell I)) (long : behind ≤ length row) (state : MachineState) (s : InGamma l n gamma flow naming row state) where
  module _ {new : Memory} {i offset : ℕ} (kind : declared.Scalar) (wide : same_class (class_in kind) Char ≡ false) (v : Scalar) (of_kind : IsOfKind kind v) (inside : IsScalarIn state.memory v) (known : IsScalarNamed naming state.memory v) (x : Value I) (near : IsNearValue l n x) (st : InGammaScalar gamma naming state.memory x v) (u : IsStore state.memory new i offset (class_in kind) (class_bytes flow.model (class_in kind)) (scalar_bytes (class_bytes flow.model (class_in kind)) v))
      (b : ℕ) (base : BaseInfo) (at : slice_get flow.bases.items b ≡ Some base) (named : naming i ≡ Some b) (alive : life_at state.memory i ≡ live) (window : Window) (from : window.lo ≤ offset) (to : offset ≤ window.hi) (set : Bases) (has : has_base set b ≡ true) (alone : Bool) (only : alone ≡ true → IsAlone flow.bases.items set b) where
    abbrev write : Write I
    write = record { access = record { class = class_in kind; signed = signed_in kind; window = window }; value = stored_value (class_in kind) x; alone = alone }

    abbrev after : List (Cell I)
    after = store_all l n flow.model flow.bases.items set write row

    -- the bytes of an array that the store does not meet
    array_stays : (d z j : ℕ) (other : BaseInfo) (zeros : ZeroPart) → slice_get flow.bases.items d ≡ Some other → slice_get other.shape.zeros z ≡ Some zeros → IsLiveOf naming state.memory d j → other.shape.heap ≡ false → array_bytes zeros (bytes_at new j) ≡ array_bytes zeros (bytes_at state.memory j)
    unfolding byte_at
    array_stays d z j other zeros e f h heap =
        let t = (texts d other e).texts heap z zeros f in
        let it = instance_there state.memory j h.alive in
        let k = s.sane.instances j d other it.0 h.named e it.1 in
        subst (λ y. array_of y (drop zeros.offset (bytes_at new j)) ≡ array_of y (drop zeros.offset (bytes_at state.memory j))) (sym t.1)
        (same_array zeros.offset t.0 (bytes_at new j) (bytes_at state.memory j) (λ a g m. elim (in_or_out j i a offset (class_bytes flow.model (class_in kind))) [
          | inr out ↦ u.outside j a out
          | inl w ↦ (let y : is_allocated (storage_at state.memory i) ≡ false = subst (λ p. is_allocated (storage_at state.memory p) ≡ false) w.0 (object_storage flow.model flow.bases.items shaped naming kind v of_kind inside known u s.sane d j other it.0 e h.named it.1 heap) in
              let a1 = w.1 in
              let a2 = w.2 in
              let b1 = u.kept y (a - offset) (omega arith) in
              let b2 : a ≡ offset + (a - offset) = omega arith in
              let b3 : slice_get (bytes_at state.memory j) a ≡ Some b1.0 = subst (λ p. slice_get (bytes_at state.memory p) a ≡ Some b1.0) (sym w.0) (subst (λ p. slice_get (bytes_at state.memory i) p ≡ Some b1.0) (sym b2) b1.1) in
              let b4 = k.tags heap a b1.0 (sym (ap (λ p. slice_get (bytes_of p) a) it.1) ∙ b3) in
              absurd (char_tag (class_in kind) wide (a - offset) (sym b1.2 ∙ (b4 ∙ t.2 a g m))))
        ]))

    zero_in_row : (d z : ℕ) (other : BaseInfo) (zeros : ZeroPart) → slice_get flow.bases.items d ≡ Some other → slice_get other.shape.zeros z ≡ Some zeros → zero_position other z < length row
    zero_in_row d z other zeros e f =
        let a = laid.close d other e in
        let k = laid.small in
        let t = slice_get_within other.shape.zeros z zeros f in
        let p = zero_is other z (omega arith) (omega arith) in
        omega arith

    zero_stands : (heap : Bool) (d z j : ℕ) (other : BaseInfo) (zeros : ZeroPart) → other.shape.heap ≡ heap → slice_get flow.bases.items d ≡ Some other → slice_get other.shape.zeros z ≡ Some zeros → IsLiveOf naming new d j → InGammaZero gamma naming new (zero_at l n after (zero_position other z)) (array_bytes zeros (bytes_at new j))
    unfolding byte_at
    zero_stands false d z j other zeros heap e f h =
        let g = live_moves (alike u) naming d j h in
        let a = s.zeros d z j other zeros e f g in
        let t = slice_get_within other.shape.zeros z zeros f in
        let k = same_zero l n row after (zero_position other z) (object_zero_after l n flow.model flow.bases.items behind laid set write (class_small (class_in kind)) wide d other z e heap t row) in
        subst (λ y. InGammaZero gamma naming new y (array_bytes zeros (bytes_at new j))) (sym k)
        (subst (λ y. InGammaZero gamma naming new (zero_at l n row (zero_position other z)) y) (sym (array_stays d z j other zeros e f g heap)) a)
    zero_stands true d z j other zeros heap e f h =
        let g = live_moves (alike u) naming d j h in
        let p = (texts d other e).heaps heap z zeros f in
        let t = heap_zero_after l n flow.model flow.bases.items behind laid set write (class_small (class_in kind)) wide d other z zeros e heap f row in
        let small = s.sane.small i in
        let fits = u.fits in
        let len = u.lengths j in
        let smalls = s.sane.small j in
        let whole : array_bytes zeros (bytes_at new j) ≡ bytes_at new j = array_whole zeros (bytes_at new j) p.0 p.1 in
        let was : array_bytes zeros (bytes_at state.memory j) ≡ bytes_at state.memory j = array_whole zeros (bytes_at state.memory j) p.0 p.1 in
        elim (forgotten o q row after (zero_position other z) zeros window offset (has_base set d) (zero_in_row d z other zeros e f) p.0 p.1 from to (omega arith) t) [
          | inr w ↦ any_stands o q naming new _ (array_bytes zeros (bytes_at new j)) (subst (λ y. length y ≤ last_offset) (sym whole) (omega arith)) w
          | inl w ↦ (let ne : j ≡ i → ⊥ = λ y. true≢false (sym has ∙ (ap (has_base set) (same_Some b d (sym named ∙ (ap naming (sym y) ∙ h.named))) ∙ w.0)) in
              let same : bytes_at new j ≡ bytes_at state.memory j = same_slices _ _ (λ k. u.outside j k (λ y a b. ne y)) in
              subst (λ y. InGammaZero gamma naming new y (array_bytes zeros (bytes_at new j))) (sym w.1)
              (subst (λ y. InGammaZero gamma naming new (zero_at l n row (zero_position other z)) (array_bytes zeros y)) (sym same) (s.zeros d z j other zeros e f g)))
        ]

    state_by : (y : AllocState I) (life : Life) (size : ℕ) → InGammaState gamma naming state.memory y life size → InGammaState gamma naming new y life size
    state_by y live size h = h
    state_by y ended size h = h
    state_by y freed size h = h

    state_stands : (d j : ℕ) (other : BaseInfo) → slice_get flow.bases.items d ≡ Some other → other.shape.heap ≡ true → naming j ≡ Some d → InGammaState gamma naming new (state_at l n after (state_position other)) (life_at new j) (length (bytes_at new j))
    state_stands d j other e heap h =
        let k = same_state l n row after (state_position other) (state_after l n flow.model flow.bases.items behind laid set write (class_small (class_in kind)) wide d other e heap row) in
        subst (λ y. InGammaState gamma naming new y (life_at new j) (length (bytes_at new j))) (sym k)
        (subst (λ y. InGammaState gamma naming new (state_at l n row (state_position other)) (life_at new j) y) (sym (u.lengths j))
        (subst (λ y. InGammaState gamma naming new (state_at l n row (state_position other)) y (length (bytes_at state.memory j))) (sym (u.lives j)) (state_by (state_at l n row (state_position other)) (life_at state.memory j) (length (bytes_at state.memory j)) (s.states d j other e heap h))))

    temp_stands : (t : ℕ) (scalar : Scalar) → state.temps t ≡ Some scalar → InGammaScalar gamma naming new (temp_value l n flow after t) scalar
    temp_stands t scalar e =
        let small = laid.small in
        let p : behind ≤ temp_position flow t = omega arith in
        let k = same_value l n row after (temp_position flow t) ((behind_keeps l n flow.model flow.bases.items behind laid set write (class_small (class_in kind)) wide (temp_position flow t) p).keeps row) in
        subst (λ y. InGammaScalar gamma naming new y scalar) (sym k) (scalar_moves (alike u) gamma naming (temp_value l n flow row t) scalar (s.temps t scalar e))

    pub all_stand : InGamma l n gamma flow naming after (record { memory = new; temps = state.temps; entered = state.entered })
    all_stand = record {
      sane = new_sane flow.model flow.bases.items shaped naming kind v of_kind inside known u s.sane;
      held = record {
        within = λ t scalar e. scalar_in_moves (alike u) scalar (s.held.within t scalar e);
        named = λ t p e. named_moves naming state.memory new u.lives p (s.held.named t p e);
      };
      lives = record { sole = λ d j base e a m h. s.lives.sole d j base e a m (λ f. h (u.lives j ∙ f)); alive = λ d j e. u.lives j ∙ s.lives.alive d j e; named = s.lives.named; objects = s.lives.objects };
      leaves = λ d j other leaf e f. leaf_stands o q c r flow shaped behind laid naming row long state s kind wide v of_kind x near st u b base at named alive window from to set has alone only d j other leaf e f;
      classes = λ d cn other e heap h. class_stands o q c r flow shaped behind laid naming row long state s kind wide v of_kind x near st u b base at named alive window from to set has alone only d cn other e heap h;
      zeros = λ d z j other zeros e f h. zero_stands other.shape.heap d z j other zeros refl e f h;
      states = λ d j other e heap h. state_stands d j other e heap h;
      temps = temp_stands;
    }

  -- ---- the machine's store

  pub into_live : (y : Pointers I) (i offset lo hi : ℕ) → life_at state.memory i ≡ live → InGammaPointer gamma naming state.memory y (into i offset lo hi) → InGammaInto gamma naming state.memory y i offset lo hi
  into_live y i offset lo hi e h = subst (λ z. InGammaByLife gamma naming state.memory y z i offset lo hi) e h

  pub live_here : (b i : ℕ) (base : BaseInfo) → slice_get flow.bases.items b ≡ Some base → naming i ≡ Some b → life_at state.memory i ≡ live → may_be_live l n base row ≡ true
  live_here b i base at named alive = live_if base.shape.heap _ (λ e.
      let y = s.states b i base at e named in
      (subst (λ z. InGammaState gamma naming state.memory (state_at l n row (state_position base)) z (length (bytes_at state.memory i))) alive y).1)

  -- there is a cell of the class at the place
  heap_place : (base : BaseInfo) → IsShaped base → (class : Class) (offset : ℕ) (access : Access) → access.class ≡ class → base.shape.heap ≡ true → access.window.lo ≤ offset → offset ≤ access.window.hi → (k : ℕ) → count_by (at_offset class offset) base.shape.cells ≡ k → has_own_place base access ≡ true
  heap_place base shape class offset access e heap from to zero h =
      class_place base access (and_from _ _ heap (subst (λ z. has_stray base.shape.cells z access.window ≡ true) (sym e) (is_stray base.shape.cells class (shape.apart heap class) access.window offset (shape.single heap) from to h)))
  heap_place base shape class offset access e heap from to (suc k) h =
      let p = counted_place base.shape.cells class offset k (shape.single heap) h in
      leaf_place base access p.at p.leaf p.among (and_from _ _ (is_same_class _ _ (p.same ∙ sym e)) (place_selected p.leaf access.window offset p.place (shape.strides p.at p.leaf p.among) from to))

  own_place : {new : Memory} (i offset b : ℕ) (base : BaseInfo) (class : Class) (signed : Bool) (window : Window) (cs : List Content) → IsStore state.memory new i offset class (class_bytes flow.model class) cs → slice_get flow.bases.items b ≡ Some base → naming i ≡ Some b → life_at state.memory i ≡ live → window.lo ≤ offset → offset ≤ window.hi → (heap : Bool) → base.shape.heap ≡ heap → has_own_place base (record { class = class; signed = signed; window = window }) ≡ true
  unfolding byte_at
  own_place i offset b base class signed window cs u at named alive from to false heap =
      let it = instance_there state.memory i alive in
      let k = s.sane.instances i b base it.0 named at it.1 in
      let y : is_allocated (storage_at state.memory i) ≡ false = ap (λ z. is_allocated (storage_of z)) it.1 ∙ (ap is_allocated k.storage ∙ ((shaped.each b base at).kind ∙ heap)) in
      let t = u.kept y 0 (class_above flow.model class) in
      let e : slice_get it.0.bytes offset ≡ Some t.0 = sym (ap (λ z. slice_get (bytes_of z) offset) it.1) ∙ subst (λ z. slice_get (bytes_at state.memory i) z ≡ Some t.0) (omega arith) t.1 in
      let p = tag_place flow.model base.shape.cells offset class (sym (k.tags heap offset t.0 e) ∙ t.2) in
      leaf_place base (record { class = class; signed = signed; window = window }) p.at p.leaf p.among (and_from _ _ (is_same_class _ _ p.same) (place_selected p.leaf window offset p.place ((shaped.each b base at).strides p.at p.leaf p.among) from to))
  own_place i offset b base class signed window cs u at named alive from to true heap = heap_place base (shaped.each b base at) class offset (record { class = class; signed = signed; window = window }) refl heap from to (count_by (at_offset class offset) base.shape.cells) refl

  pub not_literal : (kind : BaseKind) → is_literal (storage_for kind) ≡ false → is_literal_kind kind ≡ false
  not_literal Static h = refl
  not_literal Automatic h = refl
  not_literal Literal h = cc
  not_literal Newest h = refl
  not_literal Older h = refl

  pub alone_is : (set : Bases) (b : ℕ) → has_base set b ≡ true → is_one_instance flow.bases.items set ≡ true → IsAlone flow.bases.items set b
  alone_is set b has h =
      let p = and_parts (bases_count set == 1) (bases_within set (single_bases flow.bases.items)) h in
      let e : bases_count set ≡ 1 = eqb-true _ _ p.0 in
      record {
        one = λ d g. let y = and_parts (nat_lt b most_bases) (bases_has set b) has in let z = and_parts (nat_lt d most_bases) (bases_has set d) g in one_base set b d (ltb-true _ _ y.0) (ltb-true _ _ z.0) e y.1 z.1;
        single = λ d base f g. let y = and_parts (nat_lt d most_bases) (bases_has set d) g in is_single flow.bases.items d base f (ltb-true _ _ y.0) set p.1 y.1;
      }

  pub store_stands : (kind : declared.Scalar) (p : Pointers I) (at : MachinePointer) (x : Value I) (v t : Scalar) (w u : World) → w.memory ≡ state.memory → same_class (class_in kind) Char ≡ false → InGammaPointer gamma naming state.memory p at → IsPointerIn state.memory at → InGammaScalar gamma naming state.memory x v → IsScalarIn state.memory v → IsNearValue l n x → store flow.model kind (pointer at) v w ≡ goes t u → Gives (λ after. InGamma l n gamma flow naming after (record { memory = u.memory; temps = state.temps; entered = state.entered })) (abstract_store l n flow.model flow.bases.items p (class_in kind) (signed_in kind) x row)
  unfolding abstract_store store_access can_store
  store_stands kind p at x v t w u same wide st inside stv inv near h =
      let class : Class = class_in kind in
      let size : ℕ = class_bytes flow.model class in
      let both = store_goes flow.model kind at v t w u wide (subst (λ z. IsPointerIn z at) (sym same) inside) h in
      let of_kind : IsOfKind kind v = both.0 in
      let g = both.1 in
      let known = scalar_named gamma naming state.memory x v stv in
      let i : ℕ = g.i in
      let offset : ℕ = g.offset in
      let alive : life_at state.memory i ≡ live = subst (λ z. life_at z i ≡ live) same g.alive in
      let sto : IsStore state.memory u.memory i offset class size (scalar_bytes size v) = subst (λ z. IsStore z u.memory i offset class size (scalar_bytes size v)) same g.store in
      let y = into_live p i offset g.lo g.hi alive (subst (InGammaPointer gamma naming state.memory p) g.pointer st) in
      let ins : IsWithin state.memory i offset g.lo g.hi = subst (IsPointerIn state.memory) g.pointer inside in
      let d = ins.within in
      let m = s.sane.small i in
      let below = g.below in
      let z = window_has q p size offset g.lo g.hi y.lower y.relative y.room g.above g.below (omega arith) in
      let base = get_there flow.bases.items y.base (s.sane.few i y.base y.named) in
      let it = instance_there state.memory i alive in
      let k = s.sane.instances i y.base base.0 it.0 y.named base.1 it.1 in
      let lit : is_literal (storage_for base.0.kind) ≡ false = ap is_literal (sym k.storage) ∙ (ap (λ a. is_literal (storage_of a)) (sym it.1) ∙ subst (λ a. is_literal (storage_at a i) ≡ false) same g.plain) in
      let few = shaped.few in
      let top = slice_get_within flow.bases.items y.base base.0 base.1 in
      let is_live : is_live_in l n row p.bases base.0 y.base ≡ true = and_from _ _ (and_from _ _ (lt-ltb _ _ (omega arith)) y.among) (live_here y.base i base.0 base.1 y.named alive) in
      let set : Bases = reached_of l n flow.bases.items row p.bases in
      let has : has_base set y.base ≡ true = in_reached l n flow.bases.items shaped.few row p.bases y.base base.0 base.1 is_live (not_literal base.0.kind lit) in
      let access : Access = record { class = class; signed = signed_in kind; window = z.window } in
      let place : any_place flow.model flow.bases.items set access ≡ true = some_place flow.model flow.bases.items set access y.base base.0 base.1 has (own_place i offset y.base base.0 class (signed_in kind) z.window (scalar_bytes size v) sto base.1 y.named alive z.from z.to base.0.shape.heap refl) in
      let some : is_nothing n class x ≡ false = is_something q naming state.memory kind v x of_kind stv in
      let alone : Bool = is_one_instance flow.bases.items set in
      let row_stands = all_stand kind wide v of_kind inv known x near stv sto y.base base.0 base.1 y.named alive z.window z.from z.to set has alone (alone_is set y.base has) in
      rw z.is (rw (some, place) (record { value = _; is = refl; good = row_stands }))
