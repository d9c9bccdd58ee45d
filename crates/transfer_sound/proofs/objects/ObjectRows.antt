-- A row stands for the state behind where the cells of one object stand for its bytes, and all else is as it was.
use Rattle.std.proofs.Common.{◌≡◌, ℕ, ◌+◌, ◌<◌, ◌≤◌, true, false, cond, Some, List, length, arith, subst, sym, refl, ap, ◌∙◌, inl, inr}
use Rattle.std.specs.Prelude.{slice_get, ℤ}
use Rattle.std.proofs.lemmas.Bool.{cases_eq, true≢false}
use Rattle.std.proofs.lemmas.Option.{same_Some, slice_get_within}
use Rattle.cc_base.specs.Lattices.{LatticeOf}
use Rattle.cc_base.specs.IntegerDomains.{IntegersOf}
use Rattle.c_layout.specs.declared.leaf_lists.Class.{Class}
use Rattle.c_layout.specs.declared.leaf_lists.Leaf.{Leaf}
use Rattle.c_layout.specs.declared.shapes.BaseInfo.{BaseInfo}
use Rattle.c_layout.specs.declared.shapes.BaseKind.TheVariants.{Older}
use Rattle.c_layout.specs.declared.shapes.ZeroPart.{ZeroPart}
use Rattle.cfg.specs.WellFormed.{base_values}
use Rattle.cfg.specs.declared.programs.Flow.{Flow}
use Rattle.value_domain.specs.declared.values.alloc_states.AllocState.{AllocState}
use Rattle.value_domain.specs.declared.values.values.Value.{Value}
use Rattle.value_domain.specs.declared.values.row_cells.Cell.{Cell}
use Rattle.store_cells.specs.ClassNumbers.{class_at}
use Rattle.store_cells.specs.RowPositions.{leaf_position, class_position, zero_position, state_position, cell_at, value_at, zero_at, state_at}
use Rattle.transfer_checks.specs.Temporaries.{temp_position, temp_value}
use Rattle.memory_model.specs.Memory.Bytes.{MachinePointer, null, into}
use Rattle.memory_model.specs.Memory.Instances.{Memory, Life, live, ended, freed, bytes_at, byte_at, life_at}
use Rattle.memory_model.specs.Memory.Scalars.{Scalar}
use Rattle.store_sound.specs.Concretization.ValueMeaning.{Naming, InGammaScalar, InGammaZero, InGammaState}
use Rattle.store_sound.specs.Concretization.SoundMemory.{IsMemoryOf, IsNamed}
use Rattle.store_sound.specs.Concretization.RowMeaning.{MachineState, IsLiveOf, InGammaCell, InGammaLeaf, InGammaClass, InGamma, array_bytes}
use Rattle.store_sound.proofs.operations.Frames.{live_moves, content_moves, scalar_moves, scalar_in_moves}
use Rattle.store_sound.proofs.operations.StoreRows.{leaf_is, class_is, zero_is}
use Rattle.store_sound.proofs.operations.StoreValues.{same_value, same_zero, same_state}
use Rattle.store_sound.proofs.operations.StoreZeros.{same_slices}
use Rattle.store_sound.proofs.operations.StoreLeaves.{live_ended}
use Rattle.store_sound.specs.Programs.Premises.{HasPremises}
use Rattle.transfer_sound.proofs.objects.Rewrites.{IsRewrite}

module _ {I : Type 0} {l : LatticeOf I} {n : IntegersOf I} {gamma : I → ℤ → Type 0} (flow : Flow) (p : HasPremises flow) (naming : Naming) (row : List (Cell I)) (state : MachineState) (s : InGamma l n gamma flow naming row state)
    (b i : ℕ) (info : BaseInfo) (at : slice_get flow.bases.items b ≡ Some info) (named : naming i ≡ Some b) (alive : life_at state.memory i ≡ live) (declared : info.shape.heap ≡ false) (kind : info.kind ≡ Older → ⊥)
    {new : Memory} (w : IsRewrite state.memory new i) where
  -- a live instance of another base is another one
  other_instance : (d j : ℕ) → IsLiveOf naming new d j → (d ≡ b → ⊥) → j ≡ i → ⊥
  other_instance d j h ne e = ne (same_Some d b (sym (sym (ap naming e) ∙ h.named) ∙ named))

  -- the object has one live instance
  pub own_instance : (j : ℕ) → IsLiveOf naming new b j → j ≡ i
  own_instance j h = s.sane.one j i b info at kind h.named named (λ e. live_ended (sym (sym (w.alike.lives j) ∙ h.alive) ∙ e)) (λ e. live_ended (sym alive ∙ e))

  cell_moves : (d : ℕ) (class : Class) (signed : _) (Place Owns : ℕ → ℕ → Type 0) (v : Value I) → (d ≡ b → ⊥) → InGammaCell gamma flow naming state.memory d class signed Place Owns v → InGammaCell gamma flow naming new d class signed Place Owns v
  cell_moves d class signed Place Owns v ne cell = record {
    whole = λ j o ns h place plain held.
        let e = other_instance d j h ne in
        cell.whole j o ns (live_moves w.alike naming d j h) (subst (λ z. Place z o) (w.alike.lengths j) place) plain
        (record { size = held.size; each = λ k x small f. let y = held.each k x small f in record { tag = y.tag; here = sym (w.others j (o + k) e) ∙ y.here; fits = y.fits } });
    byte = λ j o k content h owns y.
        let e = other_instance d j h ne in
        content_moves w.alike gamma naming v class content (cell.byte j o k content (live_moves w.alike naming d j h) owns (record { tag = y.tag; here = sym (w.others j o e) ∙ y.here; fits = y.fits }));
  }

  named_moves : (at : MachinePointer) → IsNamed naming state.memory at → IsNamed naming new at
  named_moves null h = h
  named_moves (into j offset lo hi) h = λ e. h (λ g. e (w.alike.lives j ∙ g))

  state_moves : (y : AllocState I) (life : Life) (size : ℕ) → InGammaState gamma naming state.memory y life size → InGammaState gamma naming new y life size
  state_moves y live size h = h
  state_moves y ended size h = h
  state_moves y freed size h = h

  -- ---- the row

  module _ (sane : IsMemoryOf flow.model flow.bases.items naming new) (after : List (Cell I)) (outside : (at : ℕ) → (info.first ≤ at → at < info.first + base_values info → ⊥) → cell_at after at ≡ cell_at row at)
      (own_leaves : (j : ℕ) (leaf : Leaf) → slice_get info.shape.cells j ≡ Some leaf → InGammaLeaf gamma flow naming new b leaf (value_at l n after (leaf_position info j)))
      (own_zeros : (z : ℕ) (part : ZeroPart) → slice_get info.shape.zeros z ≡ Some part → InGammaZero gamma naming new (zero_at l n after (zero_position info z)) (array_bytes part (bytes_at new i))) where
    -- a position of another base is outside
    elsewhere : (d at_position : ℕ) (other : BaseInfo) → slice_get flow.bases.items d ≡ Some other → (d ≡ b → ⊥) → other.first ≤ at_position → at_position < other.first + base_values other → cell_at after at_position ≡ cell_at row at_position
    elsewhere d x other e ne from to = outside x (λ f g. elim (p.laid.laid.apart d b other info e at ne) [ inl h ↦ omega (arith, h, to, f) | inr h ↦ omega (arith, h, from, g) ])

    leaf_by : (d j : ℕ) (other : BaseInfo) (leaf : Leaf) → slice_get flow.bases.items d ≡ Some other → slice_get other.shape.cells j ≡ Some leaf → InGammaLeaf gamma flow naming new d leaf (value_at l n after (leaf_position other j))
    leaf_by d j other leaf e f = elim (cases_eq d b) [
      | inl g ↦ (let same : info ≡ other = same_Some info other (sym at ∙ (sym (ap (slice_get flow.bases.items) g) ∙ e)) in
          subst (λ z. InGammaLeaf gamma flow naming new z leaf (value_at l n after (leaf_position other j))) (sym g)
          (subst (λ z. InGammaLeaf gamma flow naming new b leaf (value_at l n after (leaf_position z j))) same (own_leaves j leaf (ap (λ z. slice_get z.shape.cells j) same ∙ f))))
      | inr ne ↦ (let k = p.laid.laid.close d other e in
          let small = p.laid.laid.small in
          let t = slice_get_within other.shape.cells j leaf f in
          let x = leaf_is other j (omega (arith, k, small)) t in
          subst (InGammaLeaf gamma flow naming new d leaf) (sym (same_value l n row after (leaf_position other j) (elsewhere d (leaf_position other j) other e ne (omega (arith, x)) (omega (arith, x, t)))))
          (cell_moves d leaf.class leaf.signed _ _ _ ne (s.leaves d j other leaf e f)))
    ]

    class_by : (d c : ℕ) (other : BaseInfo) → slice_get flow.bases.items d ≡ Some other → other.shape.heap ≡ true → c < 6 → InGammaClass gamma flow naming new d other (class_at c) (value_at l n after (class_position other c))
    class_by d c other e heap h = elim (cases_eq d b) [
      | inl g ↦ (let same : info ≡ other = same_Some info other (sym at ∙ (sym (ap (slice_get flow.bases.items) g) ∙ e)) in absurd (true≢false (sym heap ∙ (sym (ap (λ z. z.shape.heap) same) ∙ declared))))
      | inr ne ↦ (let k = p.laid.laid.close d other e in
          let small = p.laid.laid.small in
          let six : cond {A = ℕ} other.shape.heap 6 0 ≡ 6 = rw heap refl in
          let x = class_is other c (omega (arith, k, small)) (omega (arith, six, h)) in
          subst (InGammaClass gamma flow naming new d other (class_at c)) (sym (same_value l n row after (class_position other c) (elsewhere d (class_position other c) other e ne (omega (arith, x)) (omega (arith, x, six, h)))))
          (cell_moves d (class_at c) true _ _ _ ne (s.classes d c other e heap h)))
    ]

    zero_by : (d z j : ℕ) (other : BaseInfo) (part : ZeroPart) → slice_get flow.bases.items d ≡ Some other → slice_get other.shape.zeros z ≡ Some part → IsLiveOf naming new d j → InGammaZero gamma naming new (zero_at l n after (zero_position other z)) (array_bytes part (bytes_at new j))
    unfolding byte_at
    zero_by d z j other part e f h = elim (cases_eq d b) [
      | inl g ↦ (let same : info ≡ other = same_Some info other (sym at ∙ (sym (ap (slice_get flow.bases.items) g) ∙ e)) in
          let own = own_instance j (subst (λ y. IsLiveOf naming new y j) g h) in
          subst (λ y. InGammaZero gamma naming new (zero_at l n after (zero_position other z)) (array_bytes part (bytes_at new y))) (sym own)
          (subst (λ y. InGammaZero gamma naming new (zero_at l n after (zero_position y z)) (array_bytes part (bytes_at new i))) same (own_zeros z part (ap (λ y. slice_get y.shape.zeros z) same ∙ f))))
      | inr ne ↦ (let k = p.laid.laid.close d other e in
          let small = p.laid.laid.small in
          let t = slice_get_within other.shape.zeros z part f in
          let x = zero_is other z (omega (arith, k, small)) (omega (arith, t)) in
          let apart = other_instance d j h ne in
          let bytes : bytes_at new j ≡ bytes_at state.memory j = same_slices _ _ (λ y. w.others j y apart) in
          subst (λ y. InGammaZero gamma naming new y (array_bytes part (bytes_at new j))) (sym (same_zero l n row after (zero_position other z) (elsewhere d (zero_position other z) other e ne (omega (arith, x)) (omega (arith, x, t)))))
          (subst (λ y. InGammaZero gamma naming new (zero_at l n row (zero_position other z)) (array_bytes part y)) (sym bytes) (s.zeros d z j other part e f (live_moves w.alike naming d j h))))
    ]

    state_by : (d j : ℕ) (other : BaseInfo) → slice_get flow.bases.items d ≡ Some other → other.shape.heap ≡ true → naming j ≡ Some d → InGammaState gamma naming new (state_at l n after (state_position other)) (life_at new j) (length (bytes_at new j))
    state_by d j other e heap h = elim (cases_eq d b) [
      | inl g ↦ (let same : info ≡ other = same_Some info other (sym at ∙ (sym (ap (slice_get flow.bases.items) g) ∙ e)) in absurd (true≢false (sym heap ∙ (sym (ap (λ z. z.shape.heap) same) ∙ declared))))
      | inr ne ↦ (let k = p.laid.laid.close d other e in
          let small = p.laid.laid.small in
          let one : cond {A = ℕ} other.shape.heap 1 0 ≡ 1 = rw heap refl in
          let x = zero_is other (length other.shape.zeros) (omega (arith, k, small)) (omega arith) in
          subst (λ y. InGammaState gamma naming new y (life_at new j) (length (bytes_at new j))) (sym (same_state l n row after (state_position other) (elsewhere d (state_position other) other e ne (omega (arith, x)) (omega (arith, x, one)))))
          (subst (λ y. InGammaState gamma naming new (state_at l n row (state_position other)) (life_at new j) y) (sym (w.alike.lengths j))
          (subst (λ y. InGammaState gamma naming new (state_at l n row (state_position other)) y (length (bytes_at state.memory j))) (sym (w.alike.lives j))
          (state_moves (state_at l n row (state_position other)) (life_at state.memory j) (length (bytes_at state.memory j)) (s.states d j other e heap h)))))
    ]

    temp_by : (t : ℕ) (scalar : Scalar) → state.temps t ≡ Some scalar → InGammaScalar gamma naming new (temp_value l n flow after t) scalar
    temp_by t scalar e =
        let k = p.laid.laid.close b info at in
        let small = p.laid.laid.small in
        let far = p.laid.temporaries in
        let same = same_value l n row after (temp_position flow t) (outside (temp_position flow t) (λ f g. omega (arith, k, small, far, f, g))) in
        subst (λ y. InGammaScalar gamma naming new y scalar) (sym same) (scalar_moves w.alike gamma naming (temp_value l n flow row t) scalar (s.temps t scalar e))

    pub object_stands : InGamma l n gamma flow naming after (record { memory = new; temps = state.temps; entered = state.entered })
    object_stands = record {
      sane = sane;
      held = record { within = λ t scalar e. scalar_in_moves w.alike scalar (s.held.within t scalar e); named = λ t x e. named_moves x (s.held.named t x e) };
      lives = record { sole = λ d j base e a m h. s.lives.sole d j base e a m (λ f. h (w.alike.lives j ∙ f)); alive = λ d j e. w.alike.lives j ∙ s.lives.alive d j e; named = s.lives.named; objects = s.lives.objects };
      leaves = leaf_by;
      classes = class_by;
      zeros = zero_by;
      states = state_by;
      temps = temp_by;
    }
