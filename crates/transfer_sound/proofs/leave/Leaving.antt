-- Objects that are left.
use Rattle.std.proofs.Common.{◌≡◌, ℕ, zero, suc, ◌+◌, ◌-◌, ◌<◌, ◌≤◌, ◌^◌, true, false, cond, Option, Some, List, [], ◌∷◌, length, arith, subst, sym, refl, ap, ◌∙◌, inl, inr}
use Rattle.std.specs.Prelude.{slice_get, map, ℤ, pos, ◌≤ℤ◌}
use Rattle.std.proofs.lemmas.Bool.{cases_eq, true≢false}
use Rattle.std.proofs.lemmas.Option.{same_Some, slice_get_within}
use Rattle.cc_base.specs.Lattices.{LatticeOf}
use Rattle.cc_base.specs.IntegerDomains.{IntegersOf}
use Rattle.cc_base.specs.IntegerTypes.{greatest_of}
use Rattle.c_layout.specs.declared.leaf_lists.Class.{Class}
use Rattle.c_layout.specs.declared.leaf_lists.Class.TheVariants.{Pointer}
use Rattle.c_layout.specs.declared.leaf_lists.Leaf.{Leaf}
use Rattle.c_layout.specs.declared.shapes.BaseInfo.{BaseInfo}
use Rattle.c_layout.specs.declared.shapes.BaseKind.TheVariants.{Older}
use Rattle.c_layout.specs.declared.shapes.ZeroPart.{ZeroPart}
use Rattle.cfg.specs.WellFormed.{base_cells, base_values, names_of, fits_operation}
use Rattle.cfg.specs.declared.machine_instructions.Operation.{Operation}
use Rattle.cfg.specs.declared.machine_instructions.Operation.TheVariants as op
use Rattle.cfg.specs.declared.programs.Flow.{Flow}
use Rattle.value_domain.specs.Strings.FirstZeros.{zero_lattice}
use Rattle.value_domain.specs.Values.Values.{value_lattice}
use Rattle.value_domain.specs.declared.values.alloc_states.AllocState.{AllocState}
use Rattle.value_domain.specs.declared.values.row_cells.Cell.{Cell}
use Rattle.value_domain.specs.declared.values.row_cells.Cell.TheVariants.{Nothing, Value, First, State, Mixed}
use Rattle.store_cells.specs.ClassNumbers.{class_at}
use Rattle.store_cells.specs.FirstZeroWrites.{set_zeros}
use Rattle.store_objects.specs.LiveBases.{most_bases}
use Rattle.store_cells.specs.NearValues.{near_number, near_value}
use Rattle.store_objects.specs.ObjectLives.{set_values, ended_cell, leave_object, at_base, leave}
use Rattle.store_objects.specs.ObjectLengths.{leave_keeps}
use Rattle.store_cells.specs.RowPositions.{leaf_position, class_position, zero_position, state_position, value_count, cell_at, value_in, zero_in, state_in, near_state, value_at, zero_at, state_at}
use Rattle.store_cells.specs.ScalarTypes.{kind_of}
use Rattle.transfer_checks.specs.Temporaries.{temp_position, temp_value}
use Rattle.transfer_checks.specs.ViolationSets.{no_violations}
use Rattle.transfer_system.specs.Steps.{operate}
use Rattle.transfer_system.specs.StepViolations.{operation_violations}
use Rattle.memory_model.specs.Memory.Instances.{Memory, Life, live, ended, freed, bytes_at, life_at}
use Rattle.memory_model.specs.Memory.Scalars.{Scalar}
use Rattle.memory_model.specs.Effects.NumberedTables.{clear_at}
use Rattle.memory_model.specs.Effects.ObjectEffects.{set_life, left}
use Rattle.memory_model.specs.Effects.Worlds.{World}
use Rattle.semantics.specs.CfgMachine.FlowStates.{ProgramState}
use Rattle.store_sound.specs.Concretization.Matching.{Matched}
use Rattle.store_sound.specs.Concretization.ValueMeaning.{Naming, InGammaScalar, InGammaZero, InGammaState}
use Rattle.store_sound.specs.Concretization.RowMeaning.{IsLiveOf, InGammaCell, InGammaLeaf, InGammaClass, InGamma, array_bytes}
use Rattle.store_sound.proofs.operations.LoadSound.{instance_there}
use Rattle.store_sound.proofs.operations.StoreRows.{leaf_is, class_is, zero_is}
use Rattle.store_sound.proofs.operations.StoreLeaves.{live_ended}
use Rattle.store_sound.specs.Programs.Premises.{HasPremises}
use Rattle.transfer_sound.specs.Values.SoundSteps.{AreShort, IsReached, StepIsSound}
use Rattle.transfer_sound.proofs.values.PartSteps.{declared_storage}
use Rattle.transfer_sound.proofs.values.Replies.{if_some_good, clean_goes_good}
use Rattle.transfer_sound.proofs.objects.SetCells.{set_keeps}
use Rattle.transfer_sound.proofs.objects.WholeObjects.{automatic_declared, automatic_storage, some_kind}
use Rattle.transfer_sound.specs.Leave.LeaveSteps.{IsLeave}
use Rattle.transfer_sound.proofs.leave.LeftMemory.{IsEnded, life_ends, not_ended, byte_was, scalar_left, named_left, left_sane}
use Rattle.transfer_sound.proofs.leave.EndedValues.{left_value, scalar_ends, content_ends, none_left}

module _ {I : Type 0} (l : LatticeOf I) (b : ℕ) where
  -- the cell at a position of the row whose pointers have ended
  ended_at_position : (row : List (Cell I)) (x : ℕ) → cell_at (map (ended_cell l b) row) x ≡ ended_cell l b (cell_at row x)
  ended_at_position [] x = refl
  ended_at_position (c ∷ cs) zero = refl
  ended_at_position (c ∷ cs) (suc x) = ended_at_position cs x

  ended_zero : (c : Cell I) → zero_in l (ended_cell l b c) ≡ zero_in l c
  ended_zero Nothing = refl
  ended_zero (Value v) = refl
  ended_zero (First f) = refl
  ended_zero (State s) = refl
  ended_zero Mixed = refl

  ended_state : (c : Cell I) → state_in l (ended_cell l b c) ≡ state_in l c
  ended_state Nothing = refl
  ended_state (Value v) = refl
  ended_state (First f) = refl
  ended_state (State s) = refl
  ended_state Mixed = refl

pub clear_other : {A : Type 0} (f : ℕ → Option A) (b d : ℕ) (x : A) → clear_at f b d ≡ Some x → (d ≡ b → ⊥) × (f d ≡ Some x)
clear_other f b d x e = grind arith

pub clear_keeps : {A : Type 0} (f : ℕ → Option A) (b d : ℕ) (x : A) → (d ≡ b → ⊥) → f d ≡ Some x → clear_at f b d ≡ Some x
clear_keeps f b d x h e = grind arith

module _ {I : Type 0} {l : LatticeOf I} {n : IntegersOf I} {gamma : I → ℤ → Type 0} (flow : Flow) (p : HasPremises flow) (naming : Naming) (row : List (Cell I)) (s : ProgramState) (r : IsReached l n gamma flow naming row s)
    (b i : ℕ) (info : BaseInfo) (at : slice_get flow.bases.items b ≡ Some info) (entered : s.bases b ≡ Some i) (declared : info.shape.heap ≡ false) (kind : info.kind ≡ Older → ⊥) where
  abbrev old : Memory
  old = s.world.memory

  abbrev new : Memory
  new = set_life old i ended

  named : naming i ≡ Some b
  named = r.stands_for.lives.named b i entered

  alive : life_at old i ≡ live
  alive = r.stands_for.lives.alive b i entered

  ends : IsEnded old new i
  ends = let it = instance_there old i alive in life_ends old i it.0 it.1

  small : b < most_bases
  small = let k = slice_get_within flow.bases.items b info at in let few = p.shaped.few in omega (arith, k, few)

  bases : (j d : ℕ) → naming j ≡ Some d → d < most_bases
  bases j d e = let k = r.stands_for.sane.few j d e in let few = p.shaped.few in omega (arith, k, few)

  one : (j : ℕ) → naming j ≡ Some b → (life_at old j ≡ ended → ⊥) → j ≡ i
  one j e h = r.stands_for.sane.one j i b info at kind e named h (λ f. live_ended (sym alive ∙ f))

  -- no live instance of the base is left
  none_live : (j : ℕ) → IsLiveOf naming new b j → ⊥
  none_live j h = let k = not_ended ends j (λ e. live_ended (sym h.alive ∙ e)) in k.0 (one j h.named k.1)

  other_live : (d j : ℕ) → IsLiveOf naming new d j → IsLiveOf naming old d j
  other_live d j h = let k = not_ended ends j (λ e. live_ended (sym h.alive ∙ e)) in record { named = h.named; alive = sym (ends.others j k.0) ∙ h.alive }

  -- ---- the row

  abbrev after : List (Cell I)
  after = leave_object l b info row

  fits : info.first + base_values info ≤ 2 ^ 64 - 1
  fits = let k = p.laid.laid.close b info at in let limit = p.laid.laid.small in omega (arith, k, limit)

  cells : base_cells info ≡ length info.shape.cells
  cells = let z : cond {A = ℕ} info.shape.heap 6 0 ≡ 0 = rw declared refl in omega (arith, z)

  count : value_count info ≡ length info.shape.cells
  count = let z : cond {A = ℕ} info.shape.heap 6 0 ≡ 0 = rw declared refl in let k = fits in omega (arith, z, k)

  outside : (x : ℕ) → (info.first ≤ x → x < info.first + base_values info → ⊥) → cell_at after x ≡ ended_cell l b (cell_at row x)
  unfolding leave_object set_zeros set_values
  outside x h =
      let c = count in
      let d = cells in
      set_keeps (zero_position info) (First ((zero_lattice l).least)) (length info.shape.zeros) (set_values info ((value_lattice l).least) (map (ended_cell l b) row)) x (λ k less e. let f = zero_is info k fits (omega (arith, less)) in h (omega (arith, e, f)) (omega (arith, e, f, less)))
      ∙ (set_keeps (leaf_position info) (Value ((value_lattice l).least)) (value_count info) (map (ended_cell l b) row) x (λ k less e. let f = leaf_is info k fits (omega (arith, less, c)) in h (omega (arith, e, f)) (omega (arith, e, f, less, c, d)))
      ∙ ended_at_position l b row x)

  elsewhere : (d x : ℕ) (other : BaseInfo) → slice_get flow.bases.items d ≡ Some other → (d ≡ b → ⊥) → other.first ≤ x → x < other.first + base_values other → cell_at after x ≡ ended_cell l b (cell_at row x)
  elsewhere d x other e ne from to = outside x (λ f g. elim (p.laid.laid.apart d b other info e at ne) [ inl h ↦ omega (arith, h, to, f) | inr h ↦ omega (arith, h, from, g) ])

  -- what a cell of another base has is what is left of what it had
  value_of : (c : Cell I) → value_in l (ended_cell l b c) ≡ left_value l b (value_in l c)
  value_of Nothing = sym (none_left l b small (value_lattice l).least refl)
  value_of (Value v) = refl
  value_of (First f) = sym (none_left l b small (value_lattice l).least refl)
  value_of (State f) = sym (none_left l b small (value_lattice l).least refl)
  value_of Mixed = sym (none_left l b small (value_lattice l).least refl)

  value_left : (x : ℕ) → cell_at after x ≡ ended_cell l b (cell_at row x) → value_at l n after x ≡ near_value l n (left_value l b (value_in l (cell_at row x)))
  unfolding value_at
  value_left x e = ap (λ z. near_value l n (value_in l z)) e ∙ ap (near_value l n) (value_of (cell_at row x))

  zero_left : (x : ℕ) → cell_at after x ≡ ended_cell l b (cell_at row x) → zero_at l n after x ≡ zero_at l n row x
  unfolding zero_at
  zero_left x e = ap (λ z. record { at = near_number l n z.at }) (ap (zero_in l) e ∙ ended_zero l b (cell_at row x))

  state_left : (x : ℕ) → cell_at after x ≡ ended_cell l b (cell_at row x) → state_at l n after x ≡ state_at l n row x
  unfolding state_at
  state_left x e = ap (near_state l n) (ap (state_in l) e ∙ ended_state l b (cell_at row x))

  -- ---- what the cells stand for

  matched_was : (j o k : ℕ) (class : Class) (c : _) → Matched new j o class k c → Matched old j o class k c
  matched_was j o k class c m = record { tag = m.tag; here = sym (byte_was ends j o) ∙ m.here; fits = m.fits }

  cell_left : (d x : ℕ) (class : Class) (signed : _) (Place Owns : ℕ → ℕ → Type 0) → cell_at after x ≡ ended_cell l b (cell_at row x) → InGammaCell gamma flow naming old d class signed Place Owns (value_at l n row x) → InGammaCell gamma flow naming new d class signed Place Owns (value_at l n after x)
  unfolding value_at
  cell_left d x class signed Place Owns e cell = subst (InGammaCell gamma flow naming new d class signed Place Owns) (sym (value_left x e)) (record {
    whole = λ j o ns h place plain held. cell.whole j o ns (other_live d j h) (subst (λ z. Place (length z) o) (ends.bytes j) place) plain (record { size = held.size; each = λ k y less f. matched_was j (o + k) k class _ (held.each k y less f) });
    byte = λ j o k c h owns m. content_ends l n gamma naming b i small named alive bases one ends (value_in l (cell_at row x)) class c (cell.byte j o k c (other_live d j h) owns (matched_was j o k class c m));
  })

  leaf_by : (d j : ℕ) (other : BaseInfo) (leaf : Leaf) → slice_get flow.bases.items d ≡ Some other → slice_get other.shape.cells j ≡ Some leaf → InGammaLeaf gamma flow naming new d leaf (value_at l n after (leaf_position other j))
  leaf_by d j other leaf e f = elim (cases_eq d b) [
    | inl g ↦ record { whole = λ k o ns h place plain held. absurd (none_live k (subst (λ y. IsLiveOf naming new y k) g h)); byte = λ k o m c h owns x. absurd (none_live k (subst (λ y. IsLiveOf naming new y k) g h)) }
    | inr ne ↦ (let k = p.laid.laid.close d other e in
        let limit = p.laid.laid.small in
        let t = slice_get_within other.shape.cells j leaf f in
        let x = leaf_is other j (omega (arith, k, limit)) t in
        cell_left d (leaf_position other j) leaf.class leaf.signed _ _ (elsewhere d (leaf_position other j) other e ne (omega (arith, x)) (omega (arith, x, t))) (r.stands_for.leaves d j other leaf e f))
  ]

  same_base : (d : ℕ) (other : BaseInfo) → slice_get flow.bases.items d ≡ Some other → d ≡ b → other.shape.heap ≡ true → ⊥
  same_base d other e g heap =
      let same : info ≡ other = same_Some info other (sym at ∙ (sym (ap (slice_get flow.bases.items) g) ∙ e)) in
      true≢false (sym heap ∙ (sym (ap (λ z. z.shape.heap) same) ∙ declared))

  class_by : (d c : ℕ) (other : BaseInfo) → slice_get flow.bases.items d ≡ Some other → other.shape.heap ≡ true → c < 6 → InGammaClass gamma flow naming new d other (class_at c) (value_at l n after (class_position other c))
  class_by d c other e heap h =
      let ne : d ≡ b → ⊥ = λ g. same_base d other e g heap in
      let k = p.laid.laid.close d other e in
      let limit = p.laid.laid.small in
      let six : cond {A = ℕ} other.shape.heap 6 0 ≡ 6 = rw heap refl in
      let x = class_is other c (omega (arith, k, limit)) (omega (arith, six, h)) in
      cell_left d (class_position other c) (class_at c) true _ _ (elsewhere d (class_position other c) other e ne (omega (arith, x)) (omega (arith, x, six, h))) (r.stands_for.classes d c other e heap h)

  zero_by : (d z j : ℕ) (other : BaseInfo) (part : ZeroPart) → slice_get flow.bases.items d ≡ Some other → slice_get other.shape.zeros z ≡ Some part → IsLiveOf naming new d j → InGammaZero gamma naming new (zero_at l n after (zero_position other z)) (array_bytes part (bytes_at new j))
  zero_by d z j other part e f h =
      let ne : d ≡ b → ⊥ = λ g. none_live j (subst (λ y. IsLiveOf naming new y j) g h) in
      let k = p.laid.laid.close d other e in
      let limit = p.laid.laid.small in
      let t = slice_get_within other.shape.zeros z part f in
      let x = zero_is other z (omega (arith, k, limit)) (omega (arith, t)) in
      subst (λ y. InGammaZero gamma naming new y (array_bytes part (bytes_at new j))) (sym (zero_left (zero_position other z) (elsewhere d (zero_position other z) other e ne (omega (arith, x)) (omega (arith, x, t)))))
      (subst (λ y. InGammaZero gamma naming new (zero_at l n row (zero_position other z)) (array_bytes part y)) (sym (ends.bytes j)) (r.stands_for.zeros d z j other part e f (other_live d j h)))

  state_moves : (y : AllocState I) (life : Life) (size : ℕ) → InGammaState gamma naming old y life size → InGammaState gamma naming new y life size
  state_moves y live size h = h
  state_moves y ended size h = h
  state_moves y freed size h = h

  state_by : (d j : ℕ) (other : BaseInfo) → slice_get flow.bases.items d ≡ Some other → other.shape.heap ≡ true → naming j ≡ Some d → InGammaState gamma naming new (state_at l n after (state_position other)) (life_at new j) (length (bytes_at new j))
  state_by d j other e heap h =
      let ne : d ≡ b → ⊥ = λ g. same_base d other e g heap in
      let apart : j ≡ i → ⊥ = λ f. ne (same_Some d b (sym h ∙ (ap naming f ∙ named))) in
      let k = p.laid.laid.close d other e in
      let limit = p.laid.laid.small in
      let sole : cond {A = ℕ} other.shape.heap 1 0 ≡ 1 = rw heap refl in
      let x = zero_is other (length other.shape.zeros) (omega (arith, k, limit)) (omega arith) in
      subst (λ y. InGammaState gamma naming new y (life_at new j) (length (bytes_at new j))) (sym (state_left (state_position other) (elsewhere d (state_position other) other e ne (omega (arith, x)) (omega (arith, x, sole)))))
      (subst (λ y. InGammaState gamma naming new (state_at l n row (state_position other)) (life_at new j) (length y)) (sym (ends.bytes j))
      (subst (λ y. InGammaState gamma naming new (state_at l n row (state_position other)) y (length (bytes_at old j))) (sym (ends.others j apart))
      (state_moves (state_at l n row (state_position other)) (life_at old j) (length (bytes_at old j)) (r.stands_for.states d j other e heap h))))

  temp_by : (t : ℕ) (scalar : Scalar) → s.temps t ≡ Some scalar → InGammaScalar gamma naming new (temp_value l n flow after t) scalar
  unfolding value_at
  temp_by t scalar e =
      let k = p.laid.laid.close b info at in
      let limit = p.laid.laid.small in
      let far = p.laid.temporaries in
      subst (λ y. InGammaScalar gamma naming new y scalar) (sym (value_left (temp_position flow t) (outside (temp_position flow t) (λ f g. omega (arith, k, limit, far, f, g)))))
      (scalar_ends l n gamma naming b i small named alive bases one ends (value_in l (cell_at row (temp_position flow t))) scalar (r.stands_for.temps t scalar e))

  pub left_stands : InGamma l n gamma flow naming after (record { memory = new; temps = s.temps; entered = clear_at s.bases b })
  left_stands = record {
    sane = left_sane ends flow.model flow.bases.items naming r.stands_for.sane;
    held = record { within = λ t scalar e. scalar_left ends scalar (r.stands_for.held.within t scalar e); named = λ t x e. named_left ends naming x (r.stands_for.held.named t x e) };
    lives = record {
      sole = λ d j base e a m h.
          let k = not_ended ends j h in
          let f = r.stands_for.lives.sole d j base e a m k.1 in
          clear_keeps s.bases b d j (λ g. k.0 (same_Some j i (sym f ∙ (ap s.bases g ∙ entered)))) f;
      alive = λ d j e. let k = clear_other s.bases b d j e in ends.others j (λ f. k.0 (same_Some d b (sym (r.stands_for.lives.named d j k.1) ∙ (ap naming f ∙ named)))) ∙ r.stands_for.lives.alive d j k.1;
      named = λ d j e. let k = clear_other s.bases b d j e in r.stands_for.lives.named d j k.1;
      objects = λ d j base at e. let k = clear_other s.bases b d j e in r.stands_for.lives.objects d j base at k.1;
    };
    leaves = leaf_by;
    classes = class_by;
    zeros = zero_by;
    states = state_by;
    temps = temp_by;
  }

  pub left_short : AreShort flow.model new
  left_short j = subst (λ z. pos (length z) ≤ℤ greatest_of (kind_of flow.model Pointer true)) (sym (ends.bytes j)) (r.short j)

module _ {I : Type 0} {l : LatticeOf I} {n : IntegersOf I} {gamma : I → ℤ → Type 0} (flow : Flow) (p : HasPremises flow) (naming : Naming) (row : List (Cell I)) (s : ProgramState) (r : IsReached l n gamma flow naming row s) where
  pub leave_sound : (b : ℕ) → fits_operation (names_of flow) (op.Leave b) ≡ true → StepIsSound l n gamma flow row (op.Leave b) s
  unfolding operate leave operation_violations
  leave_sound b fitted =
      let k = some_kind flow.bases.items b fitted in
      let info : BaseInfo = k.0 in
      let declared : info.shape.heap ≡ false = sym (p.shaped.each b info k.1).kind ∙ declared_storage info.kind (automatic_storage info.kind k.2) in
      if_some_good l n gamma flow _ no_violations s r.begun (s.bases b) _ (λ i e. let w : World = left i s.world in
      let now : ProgramState = record s { at = suc s.at; bases = clear_at s.bases b; world = w } in
      clean_goes_good l n gamma flow _ _ now w r.begun (record {
        row = leave_object l b info row;
        is = ap (λ z. Some (at_base (leave_object l b) z row)) k.1;
        long = sym (ap (λ z. length (at_base (leave_object l b) z row)) k.1) ∙ (leave_length b ∙ r.long);
        naming = naming;
        stands_for = left_stands flow p naming row s r b i info k.1 e declared (automatic_declared info.kind k.2);
        short = left_short flow p naming row s r b i info k.1 e declared (automatic_declared info.kind k.2);
      }))
    where
      leave_length : (b : ℕ) → length (at_base (leave_object l b) (slice_get flow.bases.items b) row) ≡ length row
      leave_length b = leave_keeps l n flow.bases.items b row

  pub leave_step_sound : (o : Operation) → IsLeave o → fits_operation (names_of flow) o ≡ true → StepIsSound l n gamma flow row o s
  leave_step_sound (op.Leave b) is h = leave_sound b h
  leave_step_sound o is h = absurd is
