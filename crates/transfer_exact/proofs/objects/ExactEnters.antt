-- Objects that are entered are told.
use Rattle.std.proofs.Common.{◌≡◌, ℕ, suc, ◌+◌, ◌<◌, true, false, Option, Some, None, List, [], ◌∷◌, ◌++◌, length, arith, subst, sym, refl, ap, ◌∙◌, inl, inr}
use Rattle.std.specs.Prelude.{slice_get, ℤ}
use Rattle.std.proofs.lemmas.Bool.{cases_eq}
use Rattle.std.proofs.lemmas.Option.{same_Some, slice_get_within}
use Rattle.cc_base.specs.Lattices.{LatticeOf}
use Rattle.cc_base.specs.IntegerDomains.{IntegersOf, BoundLaws}
use Rattle.c_layout.specs.declared.leaf_lists.Leaf.{Leaf}
use Rattle.c_layout.specs.declared.shapes.BaseInfo.{BaseInfo}
use Rattle.cfg.specs.WellFormed.{names_of, fits_operation}
use Rattle.cfg.specs.declared.machine_instructions.Operation.{Operation}
use Rattle.cfg.specs.declared.machine_instructions.Operation.TheVariants as op
use Rattle.cfg.specs.declared.programs.Flow.{Flow}
use Rattle.pointer_domain.specs.declared.pointer_sets.Pointers.{Pointers}
use Rattle.value_domain.specs.declared.values.values.Value.{Value}
use Rattle.value_domain.specs.declared.values.row_cells.Cell.{Cell}
use Rattle.store_objects.specs.ObjectLives.{blank_object, at_base, forget}
use Rattle.store_cells.specs.RowPositions.{leaf_position, value_at}
use Rattle.transfer_checks.specs.Temporaries.{temp_position, temp_value}
use Rattle.transfer_checks.specs.ViolationSets.{no_violations}
use Rattle.transfer_instructions.specs.Instructions.Steps.{operate}
use Rattle.transfer_instructions.specs.Instructions.StepViolations.{operation_violations}
use Rattle.memory_model.specs.Memory.Bytes.{null, into, indeterminate, part}
use Rattle.memory_model.specs.Memory.Instances.{Memory, Instance, Life, live, ended, freed, automatic, bytes_of, bytes_at, byte_at, life_of, life_at}
use Rattle.memory_model.specs.Memory.ScalarSizes.{class_bytes}
use Rattle.memory_model.specs.Memory.Scalars.{Scalar, integer, pointer}
use Rattle.memory_model.specs.Memory.Tags.{tag_of}
use Rattle.memory_model.specs.Effects.NumberedTables.{put_at}
use Rattle.memory_model.specs.Effects.ObjectEffects.{blank_bytes, fresh, entered, next_instance}
use Rattle.memory_model.specs.Effects.Worlds.{World}
use Rattle.lower_templates.specs.Worklist.Acts.{act}
use Rattle.lower_templates.specs.Views.ProgramViews.{flow_view}
use Rattle.semantics.specs.CfgMachine.FlowActs.{enter, entering}
use Rattle.semantics.specs.CfgMachine.FlowStates.{ProgramState}
use Rattle.semantics.specs.CfgMachine.FlowSteps.{act_step}
use Rattle.store_sound.specs.Concretization.Coverage.{state_of}
use Rattle.store_sound.specs.Concretization.Matching.{Fits, Matched}
use Rattle.store_sound.specs.Concretization.Places.{IsPlaceOf}
use Rattle.store_sound.specs.Concretization.RowMeaning.{MachineState}
use Rattle.store_sound.specs.Concretization.SoundMemory.{IsScalarIn, IsMemoryOf}
use Rattle.store_sound.specs.Concretization.ValueMeaning.{Naming}
use Rattle.store_sound.proofs.operations.Classes.{class_above}
use Rattle.store_sound.proofs.operations.Slices.{get_there}
use Rattle.store_sound.proofs.operations.StoreRows.{leaf_is}
use Rattle.store_sound.proofs.operations.StoreValues.{same_value}
use Rattle.store_sound.specs.Programs.Premises.{HasPremises}
use Rattle.transfer_sound.specs.Values.SoundSteps.{IsReached}
use Rattle.struct_copies_sound.proofs.leaves.Structs.{owned_at}
use Rattle.transfer_sound.proofs.enter.GrownMemory.{grows, names_too, byte_stays}
use Rattle.transfer_sound.proofs.enter.GrownSanity.{blank_long, blank_byte}
use Rattle.transfer_sound.proofs.objects.BlankRows as blank
use Rattle.transfer_sound.proofs.objects.WholeObjects.{some_kind}
use Rattle.transfer_sound.proofs.enter.Entering.{put_own, put_other}
use Rattle.transfer_exact.specs.Values.SingleRows.{IsPlainProgram, HoldsScalar, ExactLeaf, ExactState}
use Rattle.transfer_exact.specs.Values.SingleSteps.{IsDefined, ExactAfter, IsExact, StepIsExact}
use Rattle.transfer_exact.specs.Values.SingleValues.{IsBlank, ExactByLife, ExactScalar, ExactHeld}
use Rattle.transfer_exact.proofs.values.NearExact.{near_none}
use Rattle.transfer_exact.specs.Accesses.StoreLaws.{IsEntered}
use Rattle.transfer_exact.specs.Accesses.TypedAccesses.{HasObjects}
use Rattle.transfer_exact.proofs.accesses.Moves.{holds_moves}
use Rattle.transfer_exact.proofs.places.OneLeaf.{owned, place_is}
use Rattle.transfer_exact.proofs.values.Told.{clean_goes_told}

none_some : {A : Type 0} (o : Option A) (x : A) → o ≡ None → o ≡ Some x → ⊥
none_some None x e f = cc
none_some (Some y) x e f = cc

-- what a leaf holds points into memory
abbrev IsHeldIn : Memory → Option Scalar → Type 0
IsHeldIn memory None = Unit {0}
IsHeldIn memory (Some scalar) = IsScalarIn memory scalar

held_in : (flow : Flow) (naming : Naming) (memory : Memory) → IsMemoryOf flow.model flow.bases.items naming memory → (i offset : ℕ) (leaf : Leaf) (held : Option Scalar) → HoldsScalar flow memory i offset leaf held → IsHeldIn memory held
held_in flow naming memory sane i offset leaf None h = tt
held_in flow naming memory sane i offset leaf (Some (integer z labels)) h = tt
held_in flow naming memory sane i offset leaf (Some (pointer null)) h = tt
held_in flow naming memory sane i offset leaf (Some (pointer (into j o lo hi))) h =
    let m = h.bytes 0 (class_above flow.model leaf.class) in
    (sane.bytes i (offset + 0) (record { content = part (into j o lo hi) 0; tag = m.tag }) m.here).0

-- ---- one instance more, and one name more

module _ {I : Type 0} (n : IntegersOf I) (old : Memory) (it : Instance) (names : ℕ → Option ℕ) (b : ℕ) (free : names b ≡ None) where
  abbrev new : Memory
  new = old ++ it ∷ []

  abbrev too : ℕ → Option ℕ
  too = put_at names b (length old)

  name_stays : (d j : ℕ) → names d ≡ Some j → too d ≡ Some j
  name_stays d j e = elim (cases_eq d b) [
    | inl g ↦ absurd (none_some (names d) j (ap names g ∙ free) e)
    | inr ne ↦ put_other names b d (length old) ne ∙ e
  ]

  by_life : (v : Pointers I) (life : Life) (j offset lo hi : ℕ) → ExactByLife n names v life j offset lo hi → ExactByLife n too v life j offset lo hi
  by_life v live j offset lo hi h = record { base = h.base; few = h.few; names = name_stays h.base j h.names; bases = h.bases; lower = h.lower; relative = h.relative; room = h.room; null = h.null; ended = h.ended }
  by_life v ended j offset lo hi h = h
  by_life v freed j offset lo hi h = h

  scalar_grows : (v : Value I) (scalar : Scalar) → IsScalarIn old scalar → ExactScalar n names old v scalar → ExactScalar n too new v scalar
  scalar_grows v (integer z labels) w h = record { number = h.number; labels_are = h.labels_are; apart = h.apart; determinate = h.determinate }
  scalar_grows v (pointer null) w h = record { apart = h.apart; points = h.points; determinate = h.determinate }
  scalar_grows v (pointer (into j offset lo hi)) w h =
      let made = w.made in
      let same : life_at new j ≡ life_at old j = ap life_of ((grows old it).others j (λ e. omega (arith, made, e))) in
      record { apart = h.apart; points = subst (λ z. ExactByLife n too v.pointer z j offset lo hi) (sym same) (by_life v.pointer (life_at old j) j offset lo hi h.points); determinate = h.determinate }

  held_grows : (v : Value I) (held : Option Scalar) → IsHeldIn old held → ExactHeld n names old v held → ExactHeld n too new v held
  held_grows v None w h = record { number = h.number; apart = h.apart; indeterminate = h.indeterminate }
  held_grows v (Some scalar) w h = scalar_grows v scalar w h

-- ---- the state

module _ {I : Type 0} {l : LatticeOf I} {n : IntegersOf I} {gamma : I → ℤ → Type 0} (q : BoundLaws l n gamma) (flow : Flow) (p : HasPremises flow) (objects : HasObjects flow) (plain : IsPlainProgram flow) (naming : Naming) (row : List (Cell I)) (s : ProgramState) (r : IsReached l n gamma flow naming row s) (t : ExactState l n flow row (state_of s)) where
  module _ (b : ℕ) (info : BaseInfo) (at : slice_get flow.bases.items b ≡ Some info) (free : s.bases b ≡ None) (declared : info.shape.heap ≡ false) where
    abbrev memory : Memory
    memory = s.world.memory

    abbrev one : Instance
    one = fresh automatic (blank_bytes flow.model info.shape.cells 0 info.size)

    abbrev grown : Memory
    grown = memory ++ one ∷ []

    abbrev i : ℕ
    i = length memory

    abbrev behind : MachineState
    behind = record { memory = grown; temps = s.temps; entered = put_at s.bases b i }

    abbrev after : List (Cell I)
    after = blank_object l n info row

    single : (j : ℕ) (leaf : Leaf) → slice_get info.shape.cells j ≡ Some leaf → leaf.count ≡ 1
    single j leaf e = plain.apart b j info leaf at e

    own_bytes : bytes_at grown i ≡ blank_bytes flow.model info.shape.cells 0 info.size
    own_bytes = ap bytes_of ((grows memory one).own)

    leaf_bytes : (j : ℕ) (leaf : Leaf) → slice_get info.shape.cells j ≡ Some leaf → (k : ℕ) → k < class_bytes flow.model leaf.class → Matched grown i (leaf.offset + k) leaf.class k indeterminate
    unfolding byte_at
    leaf_bytes j leaf e k small =
        let own = owned flow.model info.shape.cells info.size (objects b info at) single j (leaf.offset + k) k leaf e refl small in
        let top = (objects b info at).inside j (leaf.offset + k) k leaf e own in
        let len = ap length own_bytes ∙ blank_long flow.model info.shape.cells 0 info.size in
        let x = get_there (bytes_at grown i) (leaf.offset + k) (omega (arith, top, len)) in
        let is = blank_byte flow.model info.shape.cells 0 info.size (leaf.offset + k) (leaf.offset + k) x.0 (omega arith) (sym (ap (λ z. slice_get z (leaf.offset + k)) own_bytes) ∙ x.1) in
        let tag : x.0.tag ≡ tag_of leaf.class k = ap (λ z. z.tag) is ∙ owned_at flow.model info.shape.cells info.size (objects b info at) j (leaf.offset + k) k leaf e own in
        record { tag = x.0.tag; here = x.1 ∙ ap (λ z. Some (record (x.0) { content = z })) (ap (λ z. z.content) is); fits = subst (Fits leaf.class k) (sym tag) (refl, refl) }

    own_leaf : (j : ℕ) (leaf : Leaf) (offset : ℕ) → slice_get info.shape.cells j ≡ Some leaf → IsPlaceOf leaf offset → ExactLeaf l n flow behind (value_at l n after (leaf_position info j)) i offset leaf
    own_leaf j leaf offset e place = record {
      held = None;
      holds = subst (λ x. (k : ℕ) → k < class_bytes flow.model leaf.class → Matched grown i (x + k) leaf.class k indeterminate) (sym (place_is flow.model info.shape.cells info.size (objects b info at) single j offset leaf e place)) (leaf_bytes j leaf e);
      tells = subst (IsBlank n (put_at s.bases b i)) (sym (blank.leaf_blank flow p b info at declared l n row r.long j (slice_get_within info.shape.cells j leaf e)))
          (record { number = near_none q l.least q.least_bounds; apart = record { bases = refl; null = refl; ended = refl }; indeterminate = refl });
    }

    temp_same : (x : ℕ) → temp_value l n flow after x ≡ temp_value l n flow row x
    temp_same x =
        let k = p.laid.laid.close b info at in
        let small = p.laid.laid.small in
        let far = p.laid.temporaries in
        same_value l n row after (temp_position flow x) (blank.outside flow p b info at declared l n row r.long (temp_position flow x) (λ f g. omega (arith, k, small, far, f, g)))

    other_same : (d j : ℕ) (base : BaseInfo) (leaf : Leaf) → slice_get flow.bases.items d ≡ Some base → slice_get base.shape.cells j ≡ Some leaf → (d ≡ b → ⊥) → value_at l n after (leaf_position base j) ≡ value_at l n row (leaf_position base j)
    other_same d j base leaf e f ne =
        let m = p.laid.laid.close d base e in
        let small = p.laid.laid.small in
        let top = slice_get_within base.shape.cells j leaf f in
        let x = leaf_is base j (omega (arith, m, small)) top in
        let sides = p.laid.laid.apart d b base info e at ne in
        same_value l n row after (leaf_position base j) (blank.outside flow p b info at declared l n row r.long (leaf_position base j) (λ g h. elim sides [ inl u ↦ omega (arith, u, g, h, x, top) | inr u ↦ omega (arith, u, g, h, x, top) ]))

    other_leaf : (d j k offset : ℕ) (base : BaseInfo) (leaf : Leaf) → slice_get flow.bases.items d ≡ Some base → slice_get base.shape.cells j ≡ Some leaf → s.bases d ≡ Some k → IsPlaceOf leaf offset → (d ≡ b → ⊥) → ExactLeaf l n flow behind (value_at l n after (leaf_position base j)) k offset leaf
    other_leaf d j k offset base leaf e f g place ne =
        let h = t.leaves d j k offset base leaf e f g place in
        let made = r.stands_for.sane.made k d (r.stands_for.lives.named d k g) in
        let apart : k ≡ i → ⊥ = λ u. omega (arith, made, u) in
        subst (λ z. ExactLeaf l n flow behind z k offset leaf) (sym (other_same d j base leaf e f ne)) (record {
          held = h.held;
          holds = holds_moves flow memory grown k offset leaf (λ y small. byte_stays (grows memory one) (names_too naming i b) k (offset + y) apart) h.held h.holds;
          tells = held_grows n memory one s.bases b free (value_at l n row (leaf_position base j)) h.held (held_in flow naming memory r.stands_for.sane k offset leaf h.held h.holds) h.tells;
        })

    entered_tells : ExactState l n flow after behind
    entered_tells = record {
      temps = λ x scalar e. subst (λ z. ExactScalar n (put_at s.bases b i) grown z scalar) (sym (temp_same x)) (scalar_grows n memory one s.bases b free (temp_value l n flow row x) scalar (r.stands_for.held.within x scalar e) (t.temps x scalar e));
      leaves = λ d j k offset base leaf e f g place. elim (cases_eq d b) [
        | inl u ↦ (let same : info ≡ base = same_Some info base (sym at ∙ (ap (slice_get flow.bases.items) (sym u) ∙ e)) in
            let inst : i ≡ k = same_Some i k (sym (put_own s.bases b i) ∙ (ap (put_at s.bases b i) (sym u) ∙ g)) in
            subst (λ z. ExactLeaf l n flow behind (value_at l n after (leaf_position z j)) k offset leaf) same
            (subst (λ z. ExactLeaf l n flow behind (value_at l n after (leaf_position info j)) z offset leaf) inst (own_leaf j leaf offset (subst (λ z. slice_get z.shape.cells j ≡ Some leaf) (sym same) f) place)))
        | inr u ↦ other_leaf d j k offset base leaf e f (sym (put_other s.bases b d i u) ∙ g) place u
      ];
    }

  module _ (b : ℕ) (info : BaseInfo) (at : slice_get flow.bases.items b ≡ Some info) where
    abbrev behind_world : World
    behind_world = entered flow.model info.shape.cells info.size s.world

    abbrev now : ProgramState
    now = record s { at = suc s.at; bases = put_at s.bases b (next_instance s.world); world = behind_world }

    abbrev behind_it : Option (List (Cell I))
    behind_it = Some (at_base (blank_object l n) (slice_get flow.bases.items b) row)

    tells_here : s.bases b ≡ None → ExactAfter l n flow behind_it (record now { world = behind_world })
    tells_here free = record {
      row = blank_object l n info row;
      is = ap (λ z. Some (at_base (blank_object l n) z row)) at;
      tells = entered_tells b info at free (plain.no_heap b info at);
    }

    told_by : (o : Option ℕ) → s.bases b ≡ o → IsDefined (entering (flow_view flow) s b o) → IsExact l n flow behind_it no_violations (entering (flow_view flow) s b o)
    told_by (Some i) e d = absurd (d s.world refl)
    told_by None e d = subst (λ z. IsExact l n flow behind_it no_violations (enter (flow_view flow) s b z)) (sym at) (clean_goes_told l n flow _ now behind_world (tells_here e))

  enter_told : (b : ℕ) → fits_operation (names_of flow) (op.Enter b) ≡ true → IsDefined (act_step (flow_view flow) (act (op.Enter b)) s) → StepIsExact l n flow row (op.Enter b) s
  unfolding operate forget operation_violations
  enter_told b fits d = let k = some_kind flow.bases.items b fits in told_by b k.0 k.1 (s.bases b) refl d

  pub enter_step_told : (o : Operation) → IsEntered o s → fits_operation (names_of flow) o ≡ true → IsDefined (act_step (flow_view flow) (act o) s) → StepIsExact l n flow row o s
  enter_step_told (op.Enter b) is fits d = enter_told b fits d
  enter_step_told o is fits d = absurd is
