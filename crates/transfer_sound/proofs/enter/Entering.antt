-- Objects that are entered.
use Rattle.std.proofs.Common.{◌≡◌, ℕ, suc, ◌+◌, ◌<◌, ◌≤◌, ◌^◌, true, false, cond, ◌||◌, ◌&&◌, ◌⊎◌, Option, Some, None, List, [], ◌∷◌, ◌++◌, length, arith, subst, sym, refl, ap, ◌∙◌, inl, inr}
use Rattle.std.specs.Prelude.{slice_get, ℤ, pos, ◌≤ℤ◌, ◌==◌}
use Rattle.std.proofs.lemmas.Bool.{cases_eq, cases_Bool, and_parts, eqb-true, true≢false}
use Rattle.std.proofs.lemmas.Int.{ints}
use Rattle.std.proofs.lemmas.Option.{same_Some, slice_get_within}
use Rattle.cc_base.specs.Lattices.{LatticeOf}
use Rattle.cc_base.specs.IntegerDomains.{IntegersOf, BoundLaws}
use Rattle.cc_base.specs.IntegerTypes.{greatest_of}
use Rattle.c_layout.specs.Models.{short_fits, int_fits, long_fits, long_long_fits, pointer_fits}
use Rattle.c_layout.specs.declared.data_model.Model.{Model}
use Rattle.c_layout.specs.declared.leaf_lists.Class.TheVariants.{Pointer}
use Rattle.c_layout.specs.declared.leaf_lists.Leaf.{Leaf}
use Rattle.c_layout.specs.declared.shapes.BaseInfo.{BaseInfo}
use Rattle.c_layout.specs.declared.shapes.BaseKind.{BaseKind}
use Rattle.c_layout.specs.declared.shapes.BaseKind.TheVariants.{Static, Automatic, Literal, Newest, Older}
use Rattle.c_layout.specs.declared.shapes.ZeroPart.{ZeroPart}
use Rattle.cfg.specs.WellFormed.{base_values, is_automatic, names_of, fits_operation}
use Rattle.cfg.specs.declared.machine_instructions.Operation.{Operation}
use Rattle.cfg.specs.declared.machine_instructions.Operation.TheVariants as op
use Rattle.cfg.specs.declared.programs.Flow.{Flow}
use Rattle.value_domain.specs.Strings.FirstZeros.{the_end}
use Rattle.value_domain.specs.Values.ValueTables.{blank_value}
use Rattle.value_domain.specs.declared.values.row_cells.Cell.{Cell}
use Rattle.value_domain.specs.declared.values.alloc_states.AllocState.{AllocState}
use Rattle.store_cells.specs.AccessWindows.{last_offset}
use Rattle.store_cells.specs.ClassNumbers.{class_at}
use Rattle.store_cells.specs.FirstZeroWrites.{no_zero}
use Rattle.store_cells.specs.NearValues.{near_value}
use Rattle.store_objects.specs.ObjectLives.{blank_object, at_base, forget}
use Rattle.store_objects.specs.ObjectLengths.{forget_keeps}
use Rattle.store_cells.specs.RowPositions.{leaf_position, class_position, zero_position, state_position, cell_at, value_at, zero_at, state_at}
use Rattle.store_cells.specs.ScalarTypes.{kind_of}
use Rattle.transfer_checks.specs.Temporaries.{temp_position, temp_value}
use Rattle.transfer_checks.specs.ViolationSets.{no_violations}
use Rattle.transfer_system.specs.Steps.{operate}
use Rattle.transfer_system.specs.StepViolations.{operation_violations}
use Rattle.memory_model.specs.Memory.Bytes.{indeterminate, Byte}
use Rattle.memory_model.specs.Memory.Instances.{Memory, Instance, Life, automatic, allocated, live, ended, freed, bytes_at, byte_at, life_at}
use Rattle.memory_model.specs.Memory.Scalars.{Scalar}
use Rattle.memory_model.specs.Effects.NumberedTables.{put_at}
use Rattle.memory_model.specs.Effects.ObjectEffects.{blank_bytes, fresh, entered, next_instance}
use Rattle.memory_model.specs.Effects.Worlds.{World, Stuck}
use Rattle.lower_templates.specs.Views.ProgramViews.{flow_view}
use Rattle.semantics.specs.CfgMachine.FlowActs.{enter, entering}
use Rattle.semantics.specs.CfgMachine.FlowStates.{ProgramState}
use Rattle.store_sound.specs.Concretization.Matching.{number_in}
use Rattle.store_sound.specs.Concretization.ValueMeaning.{Naming, InGammaContent, InGammaScalar, InGammaZero, InGammaState}
use Rattle.store_sound.specs.Concretization.SoundMemory.{storage_for}
use Rattle.store_sound.specs.Concretization.RowMeaning.{IsLiveOf, InGammaLeaf, InGammaClass, InGamma, array_bytes}
use Rattle.store_sound.proofs.operations.Classes.{class_above}
use Rattle.store_sound.proofs.operations.Slices.{get_there}
use Rattle.store_sound.proofs.operations.StoreRows.{leaf_is, class_is, zero_is}
use Rattle.store_sound.proofs.operations.StoreValues.{same_value, same_zero, same_state}
use Rattle.store_sound.proofs.operations.StoreLeaves.{live_ended}
use Rattle.store_sound.specs.Programs.Premises.{HasPremises}
use Rattle.transfer_sound.specs.Values.SoundSteps.{AreShort, IsReached, InGammaAfter, IsStoodFor, StepIsSound}
use Rattle.transfer_sound.proofs.values.NearScalars.{near_number_stands}
use Rattle.transfer_sound.proofs.values.PartSteps.{declared_storage}
use Rattle.transfer_sound.proofs.values.Replies.{clean_stop_good, clean_goes_good}
use Rattle.transfer_sound.proofs.objects.BlankRows as blank
use Rattle.transfer_sound.proofs.objects.Forgetting.{AreBlank, blank_zero, part_blank}
use Rattle.transfer_sound.proofs.objects.WholeObjects.{automatic_storage, some_kind}
use Rattle.transfer_sound.specs.Enter.EnterSteps.{IsEnter}
use Rattle.transfer_sound.proofs.enter.GrownMemory.{IsGrown, NamesToo, grows, naming_too, names_too, life_stays, bytes_stay, was_there, scalar_in_grows, named_grows, scalar_grows, cell_grows}
use Rattle.transfer_sound.proofs.enter.GrownSanity.{own_bytes, own_life, own_byte, blank_long, grown_sane}

is_own_kind : (kind : BaseKind) → is_automatic (Some kind) ≡ true → kind ≡ Automatic
is_own_kind Automatic h = refl
is_own_kind Static h = cc
is_own_kind Literal h = cc
is_own_kind Newest h = cc
is_own_kind Older h = cc

pub put_own : {A : Type 0} (f : ℕ → Option A) (b : ℕ) (x : A) → put_at f b x b ≡ Some x
put_own f b x = grind arith

pub put_other : {A : Type 0} (f : ℕ → Option A) (b d : ℕ) (x : A) → (d ≡ b → ⊥) → put_at f b x d ≡ f d
put_other f b d x h = grind arith

module _ {I : Type 0} {l : LatticeOf I} {n : IntegersOf I} {gamma : I → ℤ → Type 0} (q : BoundLaws l n gamma) (flow : Flow) (p : HasPremises flow) (naming : Naming) (row : List (Cell I)) (s : ProgramState) (r : IsReached l n gamma flow naming row s)
    (b : ℕ) (info : BaseInfo) (at : slice_get flow.bases.items b ≡ Some info) (free : s.bases b ≡ None) (declared : info.shape.heap ≡ false) (kind : info.kind ≡ Automatic) where
  abbrev old : Memory
  old = s.world.memory

  abbrev it : Instance
  it = fresh automatic (blank_bytes flow.model info.shape.cells 0 info.size)

  abbrev pub new : Memory
  new = old ++ it ∷ []

  abbrev i : ℕ
  i = length old

  abbrev pub too : Naming
  too = naming_too naming i b

  w : IsGrown old new it
  w = grows old it

  t : NamesToo naming too i b
  t = names_too naming i b

  -- no instance of the base is there that has not ended
  none : (j : ℕ) → naming j ≡ Some b → (life_at old j ≡ ended → ⊥) → ⊥
  none j e h = let f = r.stands_for.lives.sole b j info at kind e h in cc

  sized : info.size ≤ last_offset
  sized = let k = p.sized b info at in omega (arith, k)

  -- ---- the fresh instance

  own_at : (j : ℕ) → IsLiveOf too new b j → j ≡ i
  own_at j h = elim (cases_eq j i) [
    | inl e ↦ e
    | inr ne ↦ absurd (none j (sym (t.others j ne) ∙ h.named) (λ e. live_ended (sym h.alive ∙ (life_stays w t j ne ∙ e))))
  ]

  blank_at : (o : ℕ) (x : Byte) → byte_at new i o ≡ Some x → x.content ≡ indeterminate
  blank_at o x e = ap (λ z. z.content) (own_byte flow.model flow.bases.items naming old r.stands_for.sane b info at kind sized none w t o x e)

  all_blank : AreBlank (bytes_at new i)
  unfolding byte_at
  all_blank o x e = blank_at o x e

  -- ---- the row

  abbrev after : List (Cell I)
  after = blank_object l n info row

  outside : (x : ℕ) → (info.first ≤ x → x < info.first + base_values info → ⊥) → cell_at after x ≡ cell_at row x
  outside x h = blank.outside flow p b info at declared l n row r.long x h

  elsewhere : (d x : ℕ) (other : BaseInfo) → slice_get flow.bases.items d ≡ Some other → (d ≡ b → ⊥) → other.first ≤ x → x < other.first + base_values other → cell_at after x ≡ cell_at row x
  elsewhere d x other e ne from to = outside x (λ f g. elim (p.laid.laid.apart d b other info e at ne) [ inl h ↦ omega (arith, h, to, f) | inr h ↦ omega (arith, h, from, g) ])

  own_leaves : (j : ℕ) (leaf : Leaf) → slice_get info.shape.cells j ≡ Some leaf → InGammaLeaf gamma flow too new b leaf (value_at l n after (leaf_position info j))
  unfolding byte_at
  own_leaves j leaf e = subst (InGammaLeaf gamma flow too new b leaf) (sym (blank.leaf_blank flow p b info at declared l n row r.long j (slice_get_within info.shape.cells j leaf e))) (record {
    whole = λ k o ns h place plain held.
        let own = own_at k h in
        let size = held.size in
        let above = class_above flow.model leaf.class in
        let y = get_there ns 0 (omega (arith, size, above)) in
        let m = held.each 0 y.0 (omega (arith, size, above)) y.1 in
        let one : Byte = record { content = number_in y.0; tag = m.tag } in
        let z : number_in y.0 ≡ indeterminate = blank_at (o + 0) one (subst (λ u. byte_at new u (o + 0) ≡ Some one) own m.here) in
        cc;
    byte = λ k o x content h owns y.
        let own = own_at k h in
        let one : Byte = record { content = content; tag = y.tag } in
        let z : content ≡ indeterminate = blank_at o one (subst (λ u. byte_at new u o ≡ Some one) own y.here) in
        subst (InGammaContent gamma too new (near_value l n (blank_value l)) leaf.class) (sym z) refl;
  })

  own_zeros : (z : ℕ) (part : ZeroPart) → slice_get info.shape.zeros z ≡ Some part → InGammaZero gamma too new (zero_at l n after (zero_position info z)) (array_bytes part (bytes_at new i))
  unfolding zero_at
  own_zeros z part e =
      let c = blank.zero_blank flow p b info at declared l n row r.long z (slice_get_within info.shape.zeros z part e) in
      let f = blank_zero (array_bytes part (bytes_at new i)) (part_blank part.size part.offset (bytes_at new i) all_blank) in
      rw (c, f) (near_number_stands q (no_zero n).at the_end (record { from = omega (arith, ints); to = omega (arith, ints) }) (q.one_stands the_end))

  -- ---- all rows

  same_info : (d : ℕ) (other : BaseInfo) → slice_get flow.bases.items d ≡ Some other → d ≡ b → info ≡ other
  same_info d other e g = same_Some info other (sym at ∙ (sym (ap (slice_get flow.bases.items) g) ∙ e))

  not_heap : (d : ℕ) (other : BaseInfo) → slice_get flow.bases.items d ≡ Some other → other.shape.heap ≡ true → d ≡ b → ⊥
  not_heap d other e heap g = true≢false (sym heap ∙ (sym (ap (λ z. z.shape.heap) (same_info d other e g)) ∙ declared))

  leaf_by : (d j : ℕ) (other : BaseInfo) (leaf : Leaf) → slice_get flow.bases.items d ≡ Some other → slice_get other.shape.cells j ≡ Some leaf → InGammaLeaf gamma flow too new d leaf (value_at l n after (leaf_position other j))
  leaf_by d j other leaf e f = elim (cases_eq d b) [
    | inl g ↦ (let same = same_info d other e g in
        subst (λ z. InGammaLeaf gamma flow too new z leaf (value_at l n after (leaf_position other j))) (sym g)
        (subst (λ z. InGammaLeaf gamma flow too new b leaf (value_at l n after (leaf_position z j))) same (own_leaves j leaf (ap (λ z. slice_get z.shape.cells j) same ∙ f))))
    | inr ne ↦ (let k = p.laid.laid.close d other e in
        let small = p.laid.laid.small in
        let within = slice_get_within other.shape.cells j leaf f in
        let x = leaf_is other j (omega (arith, k, small)) within in
        subst (InGammaLeaf gamma flow too new d leaf) (sym (same_value l n row after (leaf_position other j) (elsewhere d (leaf_position other j) other e ne (omega (arith, x)) (omega (arith, x, within)))))
        (cell_grows w t gamma flow r.stands_for.sane.bytes d leaf.class leaf.signed _ _ _ ne (r.stands_for.leaves d j other leaf e f)))
  ]

  class_by : (d c : ℕ) (other : BaseInfo) → slice_get flow.bases.items d ≡ Some other → other.shape.heap ≡ true → c < 6 → InGammaClass gamma flow too new d other (class_at c) (value_at l n after (class_position other c))
  class_by d c other e heap h =
      let ne : d ≡ b → ⊥ = λ g. not_heap d other e heap g in
      let k = p.laid.laid.close d other e in
      let small = p.laid.laid.small in
      let six : cond {A = ℕ} other.shape.heap 6 0 ≡ 6 = rw heap refl in
      let x = class_is other c (omega (arith, k, small)) (omega (arith, six, h)) in
      subst (InGammaClass gamma flow too new d other (class_at c)) (sym (same_value l n row after (class_position other c) (elsewhere d (class_position other c) other e ne (omega (arith, x)) (omega (arith, x, six, h)))))
      (cell_grows w t gamma flow r.stands_for.sane.bytes d (class_at c) true _ _ _ ne (r.stands_for.classes d c other e heap h))

  zero_by : (d z j : ℕ) (other : BaseInfo) (part : ZeroPart) → slice_get flow.bases.items d ≡ Some other → slice_get other.shape.zeros z ≡ Some part → IsLiveOf too new d j → InGammaZero gamma too new (zero_at l n after (zero_position other z)) (array_bytes part (bytes_at new j))
  zero_by d z j other part e f h = elim (cases_eq d b) [
    | inl g ↦ (let same = same_info d other e g in
        let own = own_at j (subst (λ y. IsLiveOf too new y j) g h) in
        subst (λ y. InGammaZero gamma too new (zero_at l n after (zero_position other z)) (array_bytes part (bytes_at new y))) (sym own)
        (subst (λ y. InGammaZero gamma too new (zero_at l n after (zero_position y z)) (array_bytes part (bytes_at new i))) same (own_zeros z part (ap (λ y. slice_get y.shape.zeros z) same ∙ f))))
    | inr ne ↦ (let k = p.laid.laid.close d other e in
        let small = p.laid.laid.small in
        let within = slice_get_within other.shape.zeros z part f in
        let x = zero_is other z (omega (arith, k, small)) (omega (arith, within)) in
        let was = was_there w t d j ne h in
        subst (λ y. InGammaZero gamma too new y (array_bytes part (bytes_at new j))) (sym (same_zero l n row after (zero_position other z) (elsewhere d (zero_position other z) other e ne (omega (arith, x)) (omega (arith, x, within)))))
        (subst (λ y. InGammaZero gamma too new (zero_at l n row (zero_position other z)) (array_bytes part y)) (sym (bytes_stay w t j was.0)) (r.stands_for.zeros d z j other part e f was.1)))
  ]

  state_grows : (y : AllocState I) (life : Life) (size : ℕ) → InGammaState gamma naming old y life size → InGammaState gamma too new y life size
  state_grows y live size h = h
  state_grows y ended size h = h
  state_grows y freed size h = h

  state_by : (d j : ℕ) (other : BaseInfo) → slice_get flow.bases.items d ≡ Some other → other.shape.heap ≡ true → too j ≡ Some d → InGammaState gamma too new (state_at l n after (state_position other)) (life_at new j) (length (bytes_at new j))
  state_by d j other e heap h =
      let ne : d ≡ b → ⊥ = λ g. not_heap d other e heap g in
      let other_one : j ≡ i → ⊥ = λ f. ne (same_Some d b (sym h ∙ (ap too f ∙ t.own))) in
      let k = p.laid.laid.close d other e in
      let small = p.laid.laid.small in
      let one : cond {A = ℕ} other.shape.heap 1 0 ≡ 1 = rw heap refl in
      let x = zero_is other (length other.shape.zeros) (omega (arith, k, small)) (omega arith) in
      subst (λ y. InGammaState gamma too new y (life_at new j) (length (bytes_at new j))) (sym (same_state l n row after (state_position other) (elsewhere d (state_position other) other e ne (omega (arith, x)) (omega (arith, x, one)))))
      (subst (λ y. InGammaState gamma too new (state_at l n row (state_position other)) (life_at new j) (length y)) (sym (bytes_stay w t j other_one))
      (subst (λ y. InGammaState gamma too new (state_at l n row (state_position other)) y (length (bytes_at old j))) (sym (life_stays w t j other_one))
      (state_grows (state_at l n row (state_position other)) (life_at old j) (length (bytes_at old j)) (r.stands_for.states d j other e heap (sym (t.others j other_one) ∙ h)))))

  temp_by : (at_temp : ℕ) (scalar : Scalar) → s.temps at_temp ≡ Some scalar → InGammaScalar gamma too new (temp_value l n flow after at_temp) scalar
  temp_by x scalar e =
      let k = p.laid.laid.close b info at in
      let small = p.laid.laid.small in
      let far = p.laid.temporaries in
      let same = same_value l n row after (temp_position flow x) (outside (temp_position flow x) (λ f g. omega (arith, k, small, far, f, g))) in
      subst (λ y. InGammaScalar gamma too new y scalar) (sym same) (scalar_grows w t gamma (temp_value l n flow row x) scalar (r.stands_for.held.within x scalar e) (r.stands_for.temps x scalar e))

  -- ---- the objects that are entered

  entered_old : (d j : ℕ) → (d ≡ b → ⊥) → put_at s.bases b i d ≡ Some j → s.bases d ≡ Some j
  entered_old d j ne e = sym (put_other s.bases b d i ne) ∙ e

  -- an object that was entered has another instance
  entered_there : (d j : ℕ) → s.bases d ≡ Some j → j ≡ i → ⊥
  entered_there d j e f = let k = r.stands_for.sane.made j d (r.stands_for.lives.named d j e) in omega (arith, k, f)

  alive_by : (d j : ℕ) → put_at s.bases b i d ≡ Some j → life_at new j ≡ live
  alive_by d j e = elim (cases_eq d b) [
    | inl g ↦ (let f : j ≡ i = same_Some j i (sym e ∙ (ap (put_at s.bases b i) g ∙ put_own s.bases b i)) in ap (life_at new) f ∙ own_life flow.model flow.bases.items naming old r.stands_for.sane b info at kind sized none w t)
    | inr ne ↦ (let was = entered_old d j ne e in life_stays w t j (entered_there d j was) ∙ r.stands_for.lives.alive d j was)
  ]

  named_by : (d j : ℕ) → put_at s.bases b i d ≡ Some j → too j ≡ Some d
  named_by d j e = elim (cases_eq d b) [
    | inl g ↦ (let f : j ≡ i = same_Some j i (sym e ∙ (ap (put_at s.bases b i) g ∙ put_own s.bases b i)) in ap too f ∙ (t.own ∙ ap Some (sym g)))
    | inr ne ↦ (let was = entered_old d j ne e in t.others j (entered_there d j was) ∙ r.stands_for.lives.named d j was)
  ]

  sole_by : (d j : ℕ) (base : BaseInfo) → slice_get flow.bases.items d ≡ Some base → base.kind ≡ Automatic → too j ≡ Some d → (life_at new j ≡ ended → ⊥) → put_at s.bases b i d ≡ Some j
  sole_by d j base e a m h = elim (cases_eq j i) [
    | inl f ↦ (let g : d ≡ b = same_Some d b (sym m ∙ (ap too f ∙ t.own)) in ap (put_at s.bases b i) g ∙ (put_own s.bases b i ∙ ap Some (sym f)))
    | inr ne ↦ (
        let named : naming j ≡ Some d = sym (t.others j ne) ∙ m in
        let life : life_at old j ≡ ended → ⊥ = λ x. h (life_stays w t j ne ∙ x) in
        let other : d ≡ b → ⊥ = λ g. none j (named ∙ ap Some g) life in
        put_other s.bases b d i other ∙ r.stands_for.lives.sole d j base e a named life)
  ]

  objects_by : (d j : ℕ) (base : BaseInfo) → slice_get flow.bases.items d ≡ Some base → put_at s.bases b i d ≡ Some j → storage_for base.kind ≡ allocated → ⊥
  objects_by d j base e f a = elim (cases_eq d b) [
    | inl g ↦ (let same : info ≡ base = same_info d base e g in let k : automatic ≡ allocated = sym (ap storage_for (ap (λ x. x.kind) (sym same) ∙ kind)) ∙ a in cc)
    | inr ne ↦ r.stands_for.lives.objects d j base e (entered_old d j ne f) a
  ]

  pub entered_stands : InGamma l n gamma flow too after (record { memory = new; temps = s.temps; entered = put_at s.bases b i })
  entered_stands = record {
    sane = grown_sane flow.model flow.bases.items naming old r.stands_for.sane b info at kind sized none w t;
    held = record { within = λ x scalar e. scalar_in_grows w t scalar (r.stands_for.held.within x scalar e); named = λ x y e. named_grows w t y (r.stands_for.held.within x _ e) (r.stands_for.held.named x y e) };
    lives = record { sole = sole_by; alive = alive_by; named = named_by; objects = objects_by };
    leaves = leaf_by;
    classes = class_by;
    zeros = zero_by;
    states = state_by;
    temps = temp_by;
  }

  -- ---- its size

  abbrev span : ℕ
  span = flow.model.pointer

  pointer_sized : (span ≡ 4) ⊎ (span ≡ 8)
  pointer_sized =
      let m : Model = flow.model in
      let a = and_parts (short_fits m.short) (int_fits m.int && (long_fits m.long && (long_long_fits m.long_long && pointer_fits m.int m.long m.long_long m.pointer))) p.model in
      let c = and_parts (int_fits m.int) (long_fits m.long && (long_long_fits m.long_long && pointer_fits m.int m.long m.long_long m.pointer)) a.1 in
      let d = and_parts (long_fits m.long) (long_long_fits m.long_long && pointer_fits m.int m.long m.long_long m.pointer) c.1 in
      let e = and_parts (long_long_fits m.long_long) (pointer_fits m.int m.long m.long_long m.pointer) d.1 in
      let f = and_parts (m.pointer == 4 || m.pointer == 8) ((m.pointer == m.int || m.pointer == m.long) || m.pointer == m.long_long) e.1 in
      elim (cases_Bool (m.pointer == 4)) [
        | inl g ↦ inl (eqb-true m.pointer 4 g)
        | inr g ↦ (let h : (m.pointer == 8) ≡ true = rw g at f.0 in inr (eqb-true m.pointer 8 h))
      ]

  greatest_difference : pos (2 ^ 30) ≤ℤ greatest_of (kind_of flow.model Pointer true)
  greatest_difference = elim pointer_sized [
    | inl e ↦ rw e (omega (arith, ints))
    | inr e ↦ rw e (omega (arith, ints))
  ]

  pub entered_short : AreShort flow.model new
  entered_short j = elim (cases_eq j i) [
    | inl e ↦ (
        let k = p.sized b info at in
        let f = ap length (own_bytes flow.model flow.bases.items naming old r.stands_for.sane b info at kind sized none w t) in
        let g = blank_long flow.model info.shape.cells 0 info.size in
        let h = greatest_difference in
        subst (λ z. pos (length (bytes_at new z)) ≤ℤ greatest_of (kind_of flow.model Pointer true)) (sym e) (omega (arith, ints, f, g, h, k)))
    | inr ne ↦ subst (λ z. pos (length z) ≤ℤ greatest_of (kind_of flow.model Pointer true)) (sym (bytes_stay w t j ne)) (r.short j)
  ]

module _ {I : Type 0} {l : LatticeOf I} {n : IntegersOf I} {gamma : I → ℤ → Type 0} (q : BoundLaws l n gamma) (flow : Flow) (p : HasPremises flow) (naming : Naming) (row : List (Cell I)) (s : ProgramState) (r : IsReached l n gamma flow naming row s) where
  module _ (b : ℕ) (info : BaseInfo) (at : slice_get flow.bases.items b ≡ Some info) (declared : info.shape.heap ≡ false) (kind : info.kind ≡ Automatic) where
    abbrev behind_world : World
    behind_world = entered flow.model info.shape.cells info.size s.world

    abbrev now : ProgramState
    now = record s { at = suc s.at; bases = put_at s.bases b (next_instance s.world); world = behind_world }

    abbrev behind_it : Option (List (Cell I))
    behind_it = Some (at_base (blank_object l n) (slice_get flow.bases.items b) row)

    stands_here : s.bases b ≡ None → InGammaAfter l n gamma flow behind_it (record now { world = behind_world })
    unfolding forget
    stands_here free = record {
      row = blank_object l n info row;
      is = ap (λ z. Some (at_base (blank_object l n) z row)) at;
      long = sym (ap (λ z. length (at_base (blank_object l n) z row)) at) ∙ (forget_length b ∙ r.long);
      naming = naming_too naming (length s.world.memory) b;
      stands_for = entered_stands q flow p naming row s r b info at free declared kind;
      short = entered_short q flow p naming row s r b info at free declared kind;
    }
      where
        forget_length : (b : ℕ) → length (at_base (blank_object l n) (slice_get flow.bases.items b) row) ≡ length row
        forget_length b = forget_keeps l n flow.bases.items b row

    entering_good : (o : Option ℕ) → s.bases b ≡ o → IsStoodFor l n gamma flow behind_it no_violations (entering (flow_view flow) s b o)
    entering_good (Some i) e = clean_stop_good l n gamma flow _ no_violations Stuck s.world r.begun
    entering_good None e = subst (λ z. IsStoodFor l n gamma flow behind_it no_violations (enter (flow_view flow) s b z)) (sym at) (clean_goes_good l n gamma flow _ _ now behind_world r.begun (stands_here e))

  pub enter_sound : (b : ℕ) → fits_operation (names_of flow) (op.Enter b) ≡ true → StepIsSound l n gamma flow row (op.Enter b) s
  unfolding operate forget operation_violations
  enter_sound b fitted =
      let k = some_kind flow.bases.items b fitted in
      let declared : k.0.shape.heap ≡ false = sym (p.shaped.each b k.0 k.1).kind ∙ declared_storage k.0.kind (automatic_storage k.0.kind k.2) in
      entering_good b k.0 k.1 declared (is_own_kind k.0.kind k.2) (s.bases b) refl

  pub enter_step_sound : (o : Operation) → IsEnter o → fits_operation (names_of flow) o ≡ true → StepIsSound l n gamma flow row o s
  enter_step_sound (op.Enter b) is h = enter_sound b h
  enter_step_sound o is h = absurd is
