-- A row in which bases are freed stands for memory in which instances of theirs are.
use Rattle.std.proofs.Common.{◌≡◌, ℕ, ◌+◌, ◌-◌, ◌<◌, ◌≤◌, ◌^◌, Bool, true, false, cond, not, ◌&&◌, Some, List, length, arith, subst, sym, refl, ap, ◌∙◌, inl, inr}
use Rattle.std.specs.Prelude.{slice_get, ℤ, pos, ◌≤ℤ◌}
use Rattle.std.proofs.lemmas.Bool.{cases_eq, cases_Bool, and_from}
use Rattle.std.proofs.lemmas.Option.{same_Some, slice_get_within}
use Rattle.cc_base.specs.Lattices.{LatticeOf}
use Rattle.cc_base.specs.IntegerDomains.{IntegersOf, BoundLaws}
use Rattle.cc_base.specs.IntegerTypes.{greatest_of}
use Rattle.c_layout.specs.declared.leaf_lists.Class.{Class}
use Rattle.c_layout.specs.declared.leaf_lists.Class.TheVariants.{Pointer}
use Rattle.c_layout.specs.declared.leaf_lists.Leaf.{Leaf}
use Rattle.c_layout.specs.declared.shapes.BaseInfo.{BaseInfo}
use Rattle.c_layout.specs.declared.shapes.ZeroPart.{ZeroPart}
use Rattle.cfg.specs.WellFormed.{base_cells, base_values}
use Rattle.cfg.specs.declared.programs.Flow.{Flow}
use Rattle.pointer_domain.specs.declared.base_sets.Bases.{Bases}
use Rattle.value_domain.specs.declared.values.alloc_states.AllocState.{AllocState}
use Rattle.value_domain.specs.declared.values.row_cells.Cell.{Cell}
use Rattle.value_domain.specs.declared.values.row_cells.Cell.TheVariants.{State}
use Rattle.store_cells.specs.ClassNumbers.{class_at}
use Rattle.store_objects.specs.Freeing.{is_heap_in, freed_state, free_bases}
use Rattle.store_objects.specs.LiveBases.{has_base}
use Rattle.store_cells.specs.NearValues.{near_number, near_value}
use Rattle.store_cells.specs.RowPositions.{leaf_position, class_position, zero_position, state_position, cell_at, value_in, zero_in, state_in, near_state, value_at, zero_at, state_at}
use Rattle.store_cells.specs.ScalarTypes.{kind_of}
use Rattle.transfer_checks.specs.Temporaries.{temp_position, temp_value}
use Rattle.memory_model.specs.Memory.Instances.{Memory, Life, live, ended, freed, bytes_at, life_at}
use Rattle.memory_model.specs.Memory.Scalars.{Scalar}
use Rattle.semantics.specs.CfgMachine.FlowStates.{ProgramState}
use Rattle.store_sound.specs.Concretization.ValueMeaning.{Naming, InGammaScalar, InGammaZero, InGammaState}
use Rattle.store_sound.specs.Concretization.RowMeaning.{IsLiveOf, InGammaCell, InGammaLeaf, InGammaClass, InGamma, array_bytes}
use Rattle.store_sound.proofs.operations.Slices.{get_there}
use Rattle.store_sound.proofs.operations.StoreRows.{leaf_is, class_is, zero_is}
use Rattle.store_sound.specs.Programs.Premises.{HasPremises}
use Rattle.library_sound.specs.SoundSteps.{AreShort, IsReached}
use Rattle.library_sound.proofs.NearScalars.{IsNearNumber, near_offset, near_number_stands}
use Rattle.memory_calls_sound.proofs.frees.ReleasedMemory.{IsFreed, IsReleased, live_of_base, matched_was, scalar_released, named_released, released_sane, scalar_stays, content_stays}
use Rattle.memory_calls_sound.proofs.frees.FreedCells.{free_keeps_cell, free_frees}

freed_live : freed ≡ live → ⊥
freed_live e = cc

-- which bases are freed, and what is known of the instances
pub record IsFreeing (naming : Naming) (old new : Memory) (set : Bases) (surely : Bool) : Type 0 where
  pub released : IsReleased old new
  -- an instance that is freed is of one of the bases
  pub inside : (j d : ℕ) → IsFreed old new j → naming j ≡ Some d → has_base set d ≡ true
  -- none of them is live still, where they are surely freed
  pub alone : surely ≡ true → (j d : ℕ) → life_at new j ≡ live → naming j ≡ Some d → has_base set d ≡ true → ⊥

module _ {I : Type 0} {l : LatticeOf I} {n : IntegersOf I} {gamma : I → ℤ → Type 0} (q : BoundLaws l n gamma) (flow : Flow) (p : HasPremises flow) (naming : Naming) (row : List (Cell I)) (s : ProgramState) (r : IsReached l n gamma flow naming row s)
    (new : Memory) (set : Bases) (surely : Bool) (w : IsFreeing naming s.world.memory new set surely) where
  abbrev old : Memory
  old = s.world.memory

  abbrev after : List (Cell I)
  after = free_bases l n flow.bases.items set surely row

  -- ---- where the cells are

  fits : (d : ℕ) (base : BaseInfo) → slice_get flow.bases.items d ≡ Some base → base.first + base_values base ≤ 2 ^ 64 - 1
  fits d base e = let k = p.laid.laid.close d base e in let limit = p.laid.laid.small in omega (arith, k, limit)

  -- the state of a base is its last cell
  state_there : (d : ℕ) (base : BaseInfo) → slice_get flow.bases.items d ≡ Some base → base.shape.heap ≡ true → (state_position base ≡ (base.first + base_cells base) + length base.shape.zeros) × (state_position base < base.first + base_values base)
  state_there d base e heap =
      let sole : cond {A = ℕ} base.shape.heap 1 0 ≡ 1 = rw heap refl in
      let x = zero_is base (length base.shape.zeros) (fits d base e) (omega arith) in
      (omega (arith, x), omega (arith, x, sole))

  not_state : (d x : ℕ) (base : BaseInfo) → slice_get flow.bases.items d ≡ Some base → base.first ≤ x → x < (base.first + base_cells base) + length base.shape.zeros → (k : ℕ) (other : BaseInfo) → slice_get flow.bases.items k ≡ Some other → other.shape.heap ≡ true → x ≡ state_position other → ⊥
  not_state d x base e from to k other f heap g =
      let a = state_there k other f heap in
      let a0 = a.0 in
      let a1 = a.1 in
      elim (cases_eq k d) [
        | inl same ↦ (let one : other ≡ base = same_Some other base (sym f ∙ (ap (slice_get flow.bases.items) same ∙ e)) in
            let z : (other.first + base_cells other) + length other.shape.zeros ≡ (base.first + base_cells base) + length base.shape.zeros = ap (λ y. (y.first + base_cells y) + length y.shape.zeros) one in
            omega (arith, to, g, a0, z))
        | inr ne ↦ elim (p.laid.laid.apart k d other base f e ne) [ inl h ↦ omega (arith, h, from, g, a1) | inr h ↦ omega (arith, h, to, g, a0) ]
      ]

  kept : (d x : ℕ) (base : BaseInfo) → slice_get flow.bases.items d ≡ Some base → base.first ≤ x → x < (base.first + base_cells base) + length base.shape.zeros → cell_at after x ≡ cell_at row x
  kept d x base e from to = free_keeps_cell l n set surely flow.bases.items row x (not_state d x base e from to)

  temp_kept : (t : ℕ) → cell_at after (temp_position flow t) ≡ cell_at row (temp_position flow t)
  temp_kept t = free_keeps_cell l n set surely flow.bases.items row (temp_position flow t) (λ k other f heap g.
      let a = state_there k other f heap in
      let a1 = a.1 in
      let c = p.laid.laid.close k other f in
      let limit = p.laid.laid.small in
      let far = p.laid.temporaries in
      omega (arith, g, a1, c, limit, far))

  -- ---- values

  value_kept : (x : ℕ) → cell_at after x ≡ cell_at row x → value_at l n after x ≡ value_at l n row x
  unfolding value_at
  value_kept x e = ap (λ c. near_value l n (value_in l c)) e

  zero_kept : (x : ℕ) → cell_at after x ≡ cell_at row x → zero_at l n after x ≡ zero_at l n row x
  unfolding zero_at
  zero_kept x e = ap (λ c. record { at = near_number l n (zero_in l c).at }) e

  cell_by : (d x : ℕ) (class : Class) (signed : Bool) (Place Owns : ℕ → ℕ → Type 0) → cell_at after x ≡ cell_at row x → InGammaCell gamma flow naming old d class signed Place Owns (value_at l n row x) → InGammaCell gamma flow naming new d class signed Place Owns (value_at l n after x)
  cell_by d x class signed Place Owns e cell = subst (InGammaCell gamma flow naming new d class signed Place Owns) (sym (value_kept x e)) (record {
    whole = λ j o ns h place plain held. cell.whole j o ns (live_of_base w.released naming d j h) (subst (λ z. Place (length z) o) (w.released.bytes j) place) plain (record { size = held.size; each = λ k y less f. matched_was w.released j (o + k) k class _ (held.each k y less f) });
    byte = λ j o k c h owns m. content_stays w.released gamma naming (value_at l n row x) class c (cell.byte j o k c (live_of_base w.released naming d j h) owns (matched_was w.released j o k class c m));
  })

  leaf_by : (d j : ℕ) (base : BaseInfo) (leaf : Leaf) → slice_get flow.bases.items d ≡ Some base → slice_get base.shape.cells j ≡ Some leaf → InGammaLeaf gamma flow naming new d leaf (value_at l n after (leaf_position base j))
  leaf_by d j base leaf e f =
      let t = slice_get_within base.shape.cells j leaf f in
      let x = leaf_is base j (fits d base e) t in
      cell_by d (leaf_position base j) leaf.class leaf.signed _ _ (kept d (leaf_position base j) base e (omega (arith, x)) (omega (arith, x, t))) (r.stands_for.leaves d j base leaf e f)

  class_by : (d c : ℕ) (base : BaseInfo) → slice_get flow.bases.items d ≡ Some base → base.shape.heap ≡ true → c < 6 → InGammaClass gamma flow naming new d base (class_at c) (value_at l n after (class_position base c))
  class_by d c base e heap h =
      let six : cond {A = ℕ} base.shape.heap 6 0 ≡ 6 = rw heap refl in
      let x = class_is base c (fits d base e) (omega (arith, six, h)) in
      cell_by d (class_position base c) (class_at c) true _ _ (kept d (class_position base c) base e (omega (arith, x)) (omega (arith, x, six, h))) (r.stands_for.classes d c base e heap h)

  zero_by : (d z j : ℕ) (base : BaseInfo) (part : ZeroPart) → slice_get flow.bases.items d ≡ Some base → slice_get base.shape.zeros z ≡ Some part → IsLiveOf naming new d j → InGammaZero gamma naming new (zero_at l n after (zero_position base z)) (array_bytes part (bytes_at new j))
  zero_by d z j base part e f h =
      let t = slice_get_within base.shape.zeros z part f in
      let x = zero_is base z (fits d base e) (omega (arith, t)) in
      subst (λ y. InGammaZero gamma naming new y (array_bytes part (bytes_at new j))) (sym (zero_kept (zero_position base z) (kept d (zero_position base z) base e (omega (arith, x)) (omega (arith, x, t)))))
      (subst (λ y. InGammaZero gamma naming new (zero_at l n row (zero_position base z)) (array_bytes part y)) (sym (w.released.bytes j)) (r.stands_for.zeros d z j base part e f (live_of_base w.released naming d j h)))

  temp_by : (t : ℕ) (scalar : Scalar) → s.temps t ≡ Some scalar → InGammaScalar gamma naming new (temp_value l n flow after t) scalar
  temp_by t scalar e = subst (λ y. InGammaScalar gamma naming new y scalar) (sym (value_kept (temp_position flow t) (temp_kept t))) (scalar_stays w.released gamma naming (temp_value l n flow row t) scalar (r.stands_for.temps t scalar e))

  -- ---- states

  abbrev StateOf : BaseInfo → AllocState I
  StateOf base = state_at l n row (state_position base)

  near_size : (j : ℕ) → IsNearNumber (pos (length (bytes_at old j)))
  near_size j = near_offset (length (bytes_at old j)) (length (bytes_at old j)) (omega arith) (r.stands_for.sane.small j)

  -- a state of which nothing is freed
  same_state : (y : AllocState I) (life : Life) (size : ℕ) → InGammaState gamma naming old y life size → InGammaState gamma naming new y life size
  same_state y live size h = h
  same_state y ended size h = h
  same_state y freed size h = h

  kept_live : (a b : Bool) → (a ≡ true → ⊥) → b ≡ true → (not a && b) ≡ true
  kept_live true b h e = absurd (h refl)
  kept_live false b h e = e

  freed_by : (y : AllocState I) (life : Life) (size : ℕ) → IsNearNumber (pos size) → (life ≡ live → surely ≡ true → ⊥) → InGammaState gamma naming old y life size → InGammaState gamma naming new (near_state l n (freed_state surely y)) life size
  freed_by y live size near h st = (near_number_stands q y.size (pos size) near st.0, kept_live surely y.live (h refl) st.1)
  freed_by y ended size near h st = near_number_stands q y.size (pos size) near st
  freed_by y freed size near h st = (near_number_stands q y.size (pos size) near st.0, refl)

  -- an instance of a base that is freed or may be
  in_set : (d j : ℕ) (base : BaseInfo) → slice_get flow.bases.items d ≡ Some base → base.shape.heap ≡ true → naming j ≡ Some d → has_base set d ≡ true → InGammaState gamma naming new (near_state l n (freed_state surely (StateOf base))) (life_at new j) (length (bytes_at old j))
  in_set d j base e heap named has = elim (w.released.lives j) [
    | inl same ↦ subst (λ y. InGammaState gamma naming new (near_state l n (freed_state surely (StateOf base))) y (length (bytes_at old j))) (sym same)
        (freed_by (StateOf base) (life_at old j) (length (bytes_at old j)) (near_size j) (λ a b. w.alone b j d (same ∙ a) named has) (r.stands_for.states d j base e heap named))
    | inr gone ↦ (let st : InGammaState gamma naming old (StateOf base) live (length (bytes_at old j)) = subst (λ y. InGammaState gamma naming old (StateOf base) y (length (bytes_at old j))) gone.was (r.stands_for.states d j base e heap named) in
        subst (λ y. InGammaState gamma naming new (near_state l n (freed_state surely (StateOf base))) y (length (bytes_at old j))) (sym gone.is) (near_number_stands q (StateOf base).size (pos (length (bytes_at old j))) (near_size j) st.0, refl))
  ]

  not_in_set : (d j : ℕ) (base : BaseInfo) → slice_get flow.bases.items d ≡ Some base → base.shape.heap ≡ true → naming j ≡ Some d → (has_base set d ≡ true → ⊥) → InGammaState gamma naming new (StateOf base) (life_at new j) (length (bytes_at old j))
  not_in_set d j base e heap named none = elim (w.released.lives j) [
    | inl same ↦ subst (λ y. InGammaState gamma naming new (StateOf base) y (length (bytes_at old j))) (sym same) (same_state (StateOf base) (life_at old j) (length (bytes_at old j)) (r.stands_for.states d j base e heap named))
    | inr gone ↦ absurd (none (w.inside j d gone named))
  ]

  state_is : (d : ℕ) (base : BaseInfo) → slice_get flow.bases.items d ≡ Some base → base.shape.heap ≡ true → cell_at after (state_position base) ≡ cond (is_heap_in set base d) (State (freed_state surely (StateOf base))) (cell_at row (state_position base))
  state_is d base e heap =
      let a = state_there d base e heap in
      let a0 = a.0 in
      let a1 = a.1 in
      let c = p.laid.laid.close d base e in
      let b = p.laid.long in
      let long = r.long in
      free_frees l n set surely flow.bases.items row d base e (λ k other f ne hot g.
      let k1 = state_there k other f hot in
      let k10 = k1.0 in
      let k11 = k1.1 in
      elim (p.laid.laid.apart k d other base f e ne) [ inl h ↦ omega (arith, h, g, k11, a0) | inr h ↦ omega (arith, h, g, a1, k10) ])
      (omega (arith, a1, c, b, long))

  state_by : (d j : ℕ) (base : BaseInfo) → slice_get flow.bases.items d ≡ Some base → base.shape.heap ≡ true → naming j ≡ Some d → InGammaState gamma naming new (state_at l n after (state_position base)) (life_at new j) (length (bytes_at new j))
  unfolding state_at
  state_by d j base e heap named =
      let is = state_is d base e heap in
      subst (λ z. InGammaState gamma naming new (near_state l n (state_in l (cell_at after (state_position base)))) (life_at new j) (length z)) (sym (w.released.bytes j)) (elim (cases_Bool (has_base set d)) [
        | inl has ↦ (let wanted : is_heap_in set base d ≡ true = and_from _ _ has heap in
            let cell : cell_at after (state_position base) ≡ State (freed_state surely (StateOf base)) = rw wanted at is in
            subst (λ c. InGammaState gamma naming new (near_state l n (state_in l c)) (life_at new j) (length (bytes_at old j))) (sym cell) (in_set d j base e heap named has))
        | inr none ↦ (let unwanted : is_heap_in set base d ≡ false = rw none refl in
            let cell : cell_at after (state_position base) ≡ cell_at row (state_position base) = rw unwanted at is in
            subst (λ c. InGammaState gamma naming new (near_state l n (state_in l c)) (life_at new j) (length (bytes_at old j))) (sym cell) (not_in_set d j base e heap named (λ f. let z : true ≡ false = sym f ∙ none in cc)))
      ])

  -- ---- the whole

  alive_by : (d j : ℕ) → s.bases d ≡ Some j → life_at new j ≡ live
  alive_by d j e = elim (w.released.lives j) [
    | inl same ↦ same ∙ r.stands_for.lives.alive d j e
    | inr gone ↦ (let named = r.stands_for.lives.named d j e in
        let base = get_there flow.bases.items d (r.stands_for.sane.few j d named) in
        let it = get_there old j (r.stands_for.sane.made j d named) in
        let k = r.stands_for.sane.instances j d base.0 it.0 named base.1 it.1 in
        absurd (r.stands_for.lives.objects d j base.0 base.1 e (sym k.storage ∙ gone.stored it.0 it.1)))
  ]

  pub freed_stands : InGamma l n gamma flow naming after (record { memory = new; temps = s.temps; entered = s.bases })
  freed_stands = record {
    sane = released_sane w.released flow.model flow.bases.items naming r.stands_for.sane;
    held = record { within = λ t scalar e. scalar_released w.released scalar (r.stands_for.held.within t scalar e); named = λ t x e. named_released w.released naming x (r.stands_for.held.named t x e) };
    lives = record {
      sole = λ d j base e a m h. r.stands_for.lives.sole d j base e a m (λ f. elim (w.released.lives j) [ inl same ↦ h (same ∙ f) | inr gone ↦ (let z : live ≡ ended = sym gone.was ∙ f in cc) ]);
      alive = alive_by;
      named = r.stands_for.lives.named;
      objects = r.stands_for.lives.objects;
    };
    leaves = leaf_by;
    classes = class_by;
    zeros = zero_by;
    states = state_by;
    temps = temp_by;
  }

  pub freed_short : AreShort flow.model new
  freed_short j = subst (λ z. pos (length z) ≤ℤ greatest_of (kind_of flow.model Pointer true)) (sym (w.released.bytes j)) (r.short j)
