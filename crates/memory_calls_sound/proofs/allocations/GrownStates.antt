-- A row stands for memory with one allocated instance more, where the cells of the instance's base stand for it.
use Rattle.std.proofs.Common.{◌≡◌, ℕ, ◌<◌, ◌≤◌, true, Some, List, [], ◌∷◌, ◌++◌, length, arith, subst, sym, ap, ◌∙◌, inl, inr}
use Rattle.std.specs.Prelude.{slice_get, ℤ}
use Rattle.std.proofs.lemmas.Bool.{cases_eq, true≢false}
use Rattle.std.proofs.lemmas.Option.{same_Some, slice_get_within}
use Rattle.cc_base.specs.Lattices.{LatticeOf}
use Rattle.cc_base.specs.IntegerDomains.{IntegersOf}
use Rattle.c_layout.specs.declared.leaf_lists.Leaf.{Leaf}
use Rattle.c_layout.specs.declared.shapes.BaseInfo.{BaseInfo}
use Rattle.c_layout.specs.declared.shapes.BaseKind.TheVariants.{Automatic, Older}
use Rattle.c_layout.specs.declared.shapes.ZeroPart.{ZeroPart}
use Rattle.cfg.specs.declared.programs.Flow.{Flow}
use Rattle.value_domain.specs.declared.values.alloc_states.AllocState.{AllocState}
use Rattle.value_domain.specs.declared.values.row_cells.Cell.{Cell}
use Rattle.store_cells.specs.AccessWindows.{last_offset}
use Rattle.store_cells.specs.ClassNumbers.{class_at}
use Rattle.store_cells.specs.RowPositions.{leaf_position, class_position, zero_position, state_position, value_at, zero_at, state_at}
use Rattle.transfer_checks.specs.Temporaries.{temp_value}
use Rattle.memory_model.specs.Memory.ScalarSizes.{class_bytes}
use Rattle.memory_model.specs.Memory.Bytes.{Tag, Byte}
use Rattle.memory_model.specs.Memory.Instances.{Memory, Instance, allocated, Life, live, ended, freed, bytes_of, bytes_at, byte_at, life_of, life_at}
use Rattle.memory_model.specs.Memory.Scalars.{Scalar}
use Rattle.memory_model.specs.Effects.ObjectEffects.{fresh}
use Rattle.store_sound.specs.Concretization.SoundMemory.{storage_for, IsInstanceOf, IsFreedRightly, IsMemoryOf, IsContentIn, IsContentNamed}
use Rattle.store_sound.specs.Concretization.ValueMeaning.{Naming, InGammaZero, InGammaState, InGammaScalar}
use Rattle.store_sound.specs.Concretization.RowMeaning.{MachineState, array_bytes, IsLiveOf, InGammaLeaf, InGammaClass, InGamma}
use Rattle.store_sound.proofs.operations.StoreLeaves.{live_freed}
use Rattle.library_sound.proofs.GrownMemory.{IsGrown, grows, NamesToo, naming_too, names_too, life_stays, bytes_stay, byte_stays, scalar_in_grows, content_in_grows, named_grows, content_named_grows, was_there, scalar_grows, cell_grows}

automatic_storage : storage_for Automatic ≡ allocated → ⊥
automatic_storage e = cc

module _ {I : Type 0} {l : LatticeOf I} {n : IntegersOf I} {gamma : I → ℤ → Type 0} (flow : Flow) (naming : Naming) (row : List (Cell I)) (state : MachineState) (s : InGamma l n gamma flow naming row state)
    (b : ℕ) (info : BaseInfo) (at : slice_get flow.bases.items b ≡ Some info) (heap : info.shape.heap ≡ true) (storage : storage_for info.kind ≡ allocated) (none : (i : ℕ) → naming i ≡ Some b → ⊥) (bytes : List Byte) (sized : length bytes ≤ last_offset)
    (contents : (k : ℕ) (x : Byte) → slice_get bytes k ≡ Some x → IsContentIn state.memory x.content x.tag × IsContentNamed naming state.memory x.content)
    (tagged : (k : ℕ) (x : Byte) (tag : Tag) → slice_get bytes k ≡ Some x → x.tag ≡ Some tag → tag.at < class_bytes flow.model tag.class) where
  abbrev old : Memory
  old = state.memory

  abbrev it : Instance
  it = fresh allocated bytes

  abbrev pub grown : Memory
  grown = state.memory ++ fresh allocated bytes ∷ []

  abbrev pub i : ℕ
  i = length state.memory

  abbrev pub named_too : Naming
  named_too = naming_too naming (length state.memory) b

  w : IsGrown old grown it
  w = grows old it

  t : NamesToo naming named_too i b
  t = names_too naming i b

  pub own_bytes : bytes_at grown i ≡ bytes
  own_bytes = ap bytes_of w.own

  pub own_life : life_at grown i ≡ live
  own_life = ap life_of w.own

  own_byte : (x : ℕ) (byte : Byte) → byte_at grown i x ≡ Some byte → slice_get bytes x ≡ Some byte
  unfolding byte_at
  own_byte x byte e = sym (ap (λ z. slice_get z x) own_bytes) ∙ e

  -- ---- memory

  own_base : (j d : ℕ) → j ≡ i → named_too j ≡ Some d → d ≡ b
  own_base j d e f = same_Some d b (sym f ∙ (ap named_too e ∙ t.own))

  old_name : (j d : ℕ) → (j ≡ i → ⊥) → named_too j ≡ Some d → naming j ≡ Some d
  old_name j d ne f = sym (t.others j ne) ∙ f

  old_life : (j : ℕ) → (j ≡ i → ⊥) → (life_at grown j ≡ ended → ⊥) → life_at old j ≡ ended → ⊥
  old_life j ne h e = h (life_stays w t j ne ∙ e)

  one_by : (j k d : ℕ) (base : BaseInfo) → slice_get flow.bases.items d ≡ Some base → (base.kind ≡ Older → ⊥) → named_too j ≡ Some d → named_too k ≡ Some d → (life_at grown j ≡ ended → ⊥) → (life_at grown k ≡ ended → ⊥) → j ≡ k
  one_by j k d base e older f g h u = elim (cases_eq j i) [
    | inl a ↦ elim (cases_eq k i) [
      | inl c ↦ a ∙ sym c
      | inr nc ↦ absurd (none k (old_name k d nc g ∙ ap Some (own_base j d a f)))
    ]
    | inr na ↦ elim (cases_eq k i) [
      | inl c ↦ absurd (none j (old_name j d na f ∙ ap Some (own_base k d c g)))
      | inr nc ↦ s.sane.one j k d base e older (old_name j d na f) (old_name k d nc g) (old_life j na h) (old_life k nc u)
    ]
  ]

  fresh_instance : IsInstanceOf flow.model info it
  fresh_instance = record { storage = sym storage; size = λ h. absurd (true≢false (sym heap ∙ h)); tags = λ h. absurd (true≢false (sym heap ∙ h)) }

  instance_by : (j d : ℕ) (base : BaseInfo) (own : Instance) → named_too j ≡ Some d → slice_get flow.bases.items d ≡ Some base → slice_get grown j ≡ Some own → IsInstanceOf flow.model base own
  instance_by j d base own f e g = elim (cases_eq j i) [
    | inl a ↦ (
        let same : own ≡ it = same_Some own it (sym g ∙ (ap (slice_get grown) a ∙ w.own)) in
        let is : base ≡ info = same_Some base info (sym e ∙ (ap (slice_get flow.bases.items) (own_base j d a f) ∙ at)) in
        subst (λ z. IsInstanceOf flow.model z own) (sym is) (subst (IsInstanceOf flow.model info) (sym same) fresh_instance))
    | inr na ↦ s.sane.instances j d base own (old_name j d na f) e (sym (w.others j na) ∙ g)
  ]

  freed_by : (j : ℕ) (own : Instance) → slice_get grown j ≡ Some own → IsFreedRightly own
  freed_by j own g gone = elim (cases_eq j i) [
    | inl a ↦ absurd (live_freed (sym own_life ∙ (sym (ap (life_at grown) a) ∙ (ap life_of g ∙ gone))))
    | inr na ↦ s.sane.freed_rightly j own (sym (w.others j na) ∙ g) gone
  ]

  small_by : (j : ℕ) → length (bytes_at grown j) ≤ last_offset
  small_by j = elim (cases_eq j i) [
    | inl a ↦ (let e = ap (λ z. length (bytes_at grown z)) a in let f = ap length own_bytes in omega (arith, e, f, sized))
    | inr na ↦ (let e = ap length (bytes_stay w t j na) in let f = s.sane.small j in omega (arith, e, f))
  ]

  content_by : (j x : ℕ) (byte : Byte) → byte_at grown j x ≡ Some byte → IsContentIn grown byte.content byte.tag
  content_by j x byte e = elim (cases_eq j i) [
    | inl a ↦ content_in_grows w t byte.content byte.tag (contents x byte (own_byte x byte (sym (ap (λ z. byte_at grown z x) a) ∙ e))).0
    | inr na ↦ content_in_grows w t byte.content byte.tag (s.sane.bytes j x byte (sym (byte_stays w t j x na) ∙ e))
  ]

  named_by : (j d x : ℕ) (byte : Byte) → named_too j ≡ Some d → byte_at grown j x ≡ Some byte → IsContentNamed named_too grown byte.content
  named_by j d x byte f e = elim (cases_eq j i) [
    | inl a ↦ (let k = contents x byte (own_byte x byte (sym (ap (λ z. byte_at grown z x) a) ∙ e)) in content_named_grows w t byte.content byte.tag k.0 k.1)
    | inr na ↦ (let was = sym (byte_stays w t j x na) ∙ e in content_named_grows w t byte.content byte.tag (s.sane.bytes j x byte was) (s.sane.named j d x byte (old_name j d na f) was))
  ]

  tag_by : (j x : ℕ) (byte : Byte) (tag : Tag) → byte_at grown j x ≡ Some byte → byte.tag ≡ Some tag → tag.at < class_bytes flow.model tag.class
  tag_by j x byte tag e f = elim (cases_eq j i) [
    | inl a ↦ tagged x byte tag (own_byte x byte (sym (ap (λ z. byte_at grown z x) a) ∙ e)) f
    | inr na ↦ s.sane.tags j x byte tag (sym (byte_stays w t j x na) ∙ e) f
  ]

  few_by : (j d : ℕ) → named_too j ≡ Some d → d < length flow.bases.items
  few_by j d f = elim (cases_eq j i) [
    | inl a ↦ subst (λ z. z < length flow.bases.items) (sym (own_base j d a f)) (slice_get_within flow.bases.items b info at)
    | inr na ↦ s.sane.few j d (old_name j d na f)
  ]

  made_by : (j d : ℕ) → named_too j ≡ Some d → j < length grown
  made_by j d f = elim (cases_eq j i) [
    | inl a ↦ (let more = w.made in omega (arith, a, more))
    | inr na ↦ (let more = w.made in let k = s.sane.made j d (old_name j d na f) in omega (arith, more, k))
  ]

  grown_sane : IsMemoryOf flow.model flow.bases.items named_too grown
  grown_sane = record {
    one = one_by;
    few = few_by;
    made = made_by;
    instances = instance_by;
    freed_rightly = freed_by;
    small = small_by;
    bytes = content_by;
    named = named_by;
    tags = tag_by;
  }

  -- ---- the row

  -- the cells of the base stand for the instance
  pub record StandsFresh : Type 0 where
    pub leaves : (j : ℕ) (leaf : Leaf) → slice_get info.shape.cells j ≡ Some leaf → InGammaLeaf gamma flow named_too grown b leaf (value_at l n row (leaf_position info j))
    pub classes : (c : ℕ) → c < 6 → InGammaClass gamma flow named_too grown b info (class_at c) (value_at l n row (class_position info c))
    pub zeros : (z : ℕ) (part : ZeroPart) → slice_get info.shape.zeros z ≡ Some part → InGammaZero gamma named_too grown (zero_at l n row (zero_position info z)) (array_bytes part bytes)
    pub state_is : InGammaState gamma named_too grown (state_at l n row (state_position info)) live (length bytes)

  -- the one live instance of the base
  pub own_at : (j : ℕ) → IsLiveOf named_too grown b j → j ≡ i
  own_at j h = elim (cases_eq j i) [
    | inl e ↦ e
    | inr ne ↦ absurd (none j (sym (t.others j ne) ∙ h.named))
  ]

  module _ (own : StandsFresh) where
    same_info : (d : ℕ) (other : BaseInfo) → slice_get flow.bases.items d ≡ Some other → d ≡ b → other ≡ info
    same_info d other e g = same_Some other info (sym e ∙ (ap (slice_get flow.bases.items) g ∙ at))

    leaf_by : (d j : ℕ) (other : BaseInfo) (leaf : Leaf) → slice_get flow.bases.items d ≡ Some other → slice_get other.shape.cells j ≡ Some leaf → InGammaLeaf gamma flow named_too grown d leaf (value_at l n row (leaf_position other j))
    leaf_by d j other leaf e f = elim (cases_eq d b) [
      | inl g ↦ (let same = same_info d other e g in
          subst (λ z. InGammaLeaf gamma flow named_too grown z leaf (value_at l n row (leaf_position other j))) (sym g)
          (subst (λ z. InGammaLeaf gamma flow named_too grown b leaf (value_at l n row (leaf_position z j))) (sym same) (own.leaves j leaf (ap (λ z. slice_get z.shape.cells j) (sym same) ∙ f))))
      | inr ne ↦ cell_grows w t gamma flow s.sane.bytes d leaf.class leaf.signed _ _ _ ne (s.leaves d j other leaf e f)
    ]

    class_by : (d c : ℕ) (other : BaseInfo) → slice_get flow.bases.items d ≡ Some other → other.shape.heap ≡ true → c < 6 → InGammaClass gamma flow named_too grown d other (class_at c) (value_at l n row (class_position other c))
    class_by d c other e h small = elim (cases_eq d b) [
      | inl g ↦ subst (λ z. InGammaClass gamma flow named_too grown z other (class_at c) (value_at l n row (class_position other c))) (sym g)
          (subst (λ z. InGammaClass gamma flow named_too grown b z (class_at c) (value_at l n row (class_position z c))) (sym (same_info d other e g)) (own.classes c small))
      | inr ne ↦ cell_grows w t gamma flow s.sane.bytes d (class_at c) true _ _ _ ne (s.classes d c other e h small)
    ]

    zero_by : (d z j : ℕ) (other : BaseInfo) (part : ZeroPart) → slice_get flow.bases.items d ≡ Some other → slice_get other.shape.zeros z ≡ Some part → IsLiveOf named_too grown d j → InGammaZero gamma named_too grown (zero_at l n row (zero_position other z)) (array_bytes part (bytes_at grown j))
    zero_by d z j other part e f h = elim (cases_eq d b) [
      | inl g ↦ (let same = same_info d other e g in
          let mine = own_at j (subst (λ y. IsLiveOf named_too grown y j) g h) in
          let all : bytes_at grown j ≡ bytes = ap (bytes_at grown) mine ∙ own_bytes in
          subst (λ y. InGammaZero gamma named_too grown (zero_at l n row (zero_position other z)) (array_bytes part y)) (sym all)
          (subst (λ y. InGammaZero gamma named_too grown (zero_at l n row (zero_position y z)) (array_bytes part bytes)) (sym same) (own.zeros z part (ap (λ y. slice_get y.shape.zeros z) (sym same) ∙ f))))
      | inr ne ↦ (let was = was_there w t d j ne h in
          subst (λ y. InGammaZero gamma named_too grown (zero_at l n row (zero_position other z)) (array_bytes part y)) (sym (bytes_stay w t j was.0)) (s.zeros d z j other part e f was.1))
    ]

    state_grows : (y : AllocState I) (life : Life) (size : ℕ) → InGammaState gamma naming old y life size → InGammaState gamma named_too grown y life size
    state_grows y live size h = h
    state_grows y ended size h = h
    state_grows y freed size h = h

    state_by : (d j : ℕ) (other : BaseInfo) → slice_get flow.bases.items d ≡ Some other → other.shape.heap ≡ true → named_too j ≡ Some d → InGammaState gamma named_too grown (state_at l n row (state_position other)) (life_at grown j) (length (bytes_at grown j))
    state_by d j other e h named = elim (cases_eq j i) [
      | inl mine ↦ (let g = own_base j d mine named in
          let life : life_at grown j ≡ live = ap (life_at grown) mine ∙ own_life in
          let size : length (bytes_at grown j) ≡ length bytes = ap length (ap (bytes_at grown) mine ∙ own_bytes) in
          subst (λ y. InGammaState gamma named_too grown (state_at l n row (state_position other)) y (length (bytes_at grown j))) (sym life)
          (subst (λ y. InGammaState gamma named_too grown (state_at l n row (state_position other)) live y) (sym size)
          (subst (λ y. InGammaState gamma named_too grown (state_at l n row (state_position y)) live (length bytes)) (sym (same_info d other e g)) own.state_is)))
      | inr ne ↦ subst (λ y. InGammaState gamma named_too grown (state_at l n row (state_position other)) (life_at grown j) (length y)) (sym (bytes_stay w t j ne))
          (subst (λ y. InGammaState gamma named_too grown (state_at l n row (state_position other)) y (length (bytes_at old j))) (sym (life_stays w t j ne))
          (state_grows (state_at l n row (state_position other)) (life_at old j) (length (bytes_at old j)) (s.states d j other e h (old_name j d ne named))))
    ]

    temp_by : (x : ℕ) (scalar : Scalar) → state.temps x ≡ Some scalar → InGammaScalar gamma named_too grown (temp_value l n flow row x) scalar
    temp_by x scalar e = scalar_grows w t gamma (temp_value l n flow row x) scalar (s.held.within x scalar e) (s.temps x scalar e)

    -- ---- the objects that are entered

    entered_there : (d j : ℕ) → state.entered d ≡ Some j → j ≡ i → ⊥
    entered_there d j e f = let k = s.sane.made j d (s.lives.named d j e) in omega (arith, k, f)

    sole_by : (d j : ℕ) (base : BaseInfo) → slice_get flow.bases.items d ≡ Some base → base.kind ≡ Automatic → named_too j ≡ Some d → (life_at grown j ≡ ended → ⊥) → state.entered d ≡ Some j
    sole_by d j base e kind named alive = elim (cases_eq j i) [
      | inl mine ↦ absurd (automatic_storage (ap storage_for (sym kind) ∙ (ap (λ z. storage_for z.kind) (same_info d base e (own_base j d mine named)) ∙ storage)))
      | inr ne ↦ s.lives.sole d j base e kind (old_name j d ne named) (old_life j ne alive)
    ]

    pub grown_stands : InGamma l n gamma flow named_too row (record { memory = grown; temps = state.temps; entered = state.entered })
    grown_stands = record {
      sane = grown_sane;
      held = record { within = λ x scalar e. scalar_in_grows w t scalar (s.held.within x scalar e); named = λ x y e. named_grows w t y (s.held.within x _ e) (s.held.named x y e) };
      lives = record {
        sole = sole_by;
        alive = λ d j e. life_stays w t j (entered_there d j e) ∙ s.lives.alive d j e;
        named = λ d j e. t.others j (entered_there d j e) ∙ s.lives.named d j e;
        objects = s.lives.objects;
      };
      leaves = leaf_by;
      classes = class_by;
      zeros = zero_by;
      states = state_by;
      temps = temp_by;
    }
