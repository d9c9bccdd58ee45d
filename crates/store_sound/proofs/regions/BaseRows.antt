-- Rows that are written base by base.
use Rattle.std.proofs.Common.{◌≡◌, ℕ, zero, suc, ◌+◌, ◌<◌, ◌≤◌, Bool, true, false, cond, Some, List, [], ◌∷◌, length, arith, subst, sym, refl, ap, ◌∙◌, inl, inr}
use Rattle.std.specs.Prelude.{slice_get, ℤ}
use Rattle.std.proofs.lemmas.Bool.{cases_Bool, true≢false}
use Rattle.std.proofs.lemmas.Option.{slice_get_within}
use Rattle.cc_base.specs.Lattices.{LatticeOf, OrderLaws}
use Rattle.cc_base.specs.IntegerDomains.{IntegersOf, BoundLaws}
use Rattle.c_layout.specs.declared.shapes.BaseInfo.{BaseInfo}
use Rattle.cfg.specs.WellFormed.{base_values}
use Rattle.cfg.specs.declared.programs.Flow.{Flow}
use Rattle.pointer_domain.specs.declared.base_sets.Bases.{Bases}
use Rattle.value_domain.specs.declared.values.row_cells.Cell.{Cell}
use Rattle.store_cells.specs.ClassNumbers.{class_at}
use Rattle.store_objects.specs.LiveBases.{has_base}
use Rattle.store_cells.specs.RowPositions.{leaf_position, class_position, zero_position, state_position, cell_at, zero_at, state_at}
use Rattle.store_cells.specs.Walks.{walk}
use Rattle.transfer_checks.specs.Temporaries.{temp_position, temp_value}
use Rattle.memory_model.specs.Memory.Instances.{Memory, Life, live, ended, freed, bytes_at, byte_at, life_at}
use Rattle.store_sound.specs.Concretization.SoundMemory.{IsMemoryOf}
use Rattle.store_sound.specs.Concretization.ValueMeaning.{Naming, InGammaScalar, InGammaZero, InGammaState}
use Rattle.store_sound.specs.Concretization.RowMeaning.{MachineState, array_bytes, InGammaLeaf, InGammaClass, InGamma}
use Rattle.store_sound.specs.Operations.Shapes.{IsLaidOut}
use Rattle.store_sound.proofs.operations.Frames.{live_moves, scalar_in_moves, scalar_moves}
use Rattle.store_sound.proofs.operations.StoreRows.{Fits, leaf_is, class_is, zero_is}
use Rattle.store_sound.proofs.operations.StoreSound.{named_moves}
use Rattle.store_sound.proofs.operations.StoreValues.{same_value, same_zero, same_state}
use Rattle.store_sound.proofs.operations.StoreZeros.{same_slices}
use Rattle.store_sound.specs.Regions.RegionWrites.{IsRegion, WritesWithin, write_base_of, write_bases, InGammaBase}
use Rattle.store_sound.proofs.regions.Regions.{alike_region, cell_apart}

-- ---- walks

module _ {I : Type 0} where
  -- the operation leaves the positions from one to below another
  record Spares (lo hi : ℕ) (f : List (Cell I) → List (Cell I)) : Type 0 where
    long : (row : List (Cell I)) → length (f row) ≡ length row
    keeps : (row : List (Cell I)) (at : ℕ) → lo ≤ at → at < hi → cell_at (f row) at ≡ cell_at row at

  -- a walk does to some positions what one turn does to a row that is the same there
  pub record TurnedIn (lo hi : ℕ) (g : List (Cell I) → List (Cell I)) (row after : List (Cell I)) : Type 0 where
    pub before : List (Cell I)
    pub long : length before ≡ length row
    pub same : (at : ℕ) → lo ≤ at → at < hi → cell_at before at ≡ cell_at row at
    pub turn : (at : ℕ) → lo ≤ at → at < hi → cell_at after at ≡ cell_at (g before) at

module _ {I K : Type 0} (f : K → ℕ → List (Cell I) → List (Cell I)) where
  spares_walk : (lo hi at : ℕ) (ks : List K) → ((j a : ℕ) (k : K) → slice_get ks j ≡ Some k → a ≡ at + j → Spares lo hi (f k a)) → Spares lo hi (walk f at ks)
  spares_walk lo hi at [] h = record { long = λ row. refl; keeps = λ row p u v. refl }
  spares_walk lo hi at (x ∷ xs) h =
      let a = h 0 at x refl (omega arith) in
      let b = spares_walk lo hi (at + 1) xs (λ j i k e d. h (suc j) i k e (omega arith)) in
      record { long = λ row. b.long (f x at row) ∙ a.long row; keeps = λ row p u v. b.keeps (f x at row) p u v ∙ a.keeps row p u v }

  walk_turned : (lo hi at : ℕ) (ks : List K) (j a : ℕ) (k : K) → slice_get ks j ≡ Some k → a ≡ at + j → ((i b : ℕ) (other : K) → slice_get ks i ≡ Some other → b ≡ at + i → (i ≡ j → ⊥) → Spares lo hi (f other b)) → (row : List (Cell I)) → TurnedIn lo hi (f k a) row (walk f at ks row)
  walk_turned lo hi at [] j a k e d h row = cc
  walk_turned lo hi at (x ∷ xs) zero a k e d h row =
      let w : x ≡ k = cc in
      let v : at ≡ a = omega arith in
      let b = spares_walk lo hi (at + 1) xs (λ i b other u t. h (suc i) b other u (omega arith) (λ (z : suc i ≡ 0). cc)) in
      record { before = row; long = refl; same = λ p u v. refl; turn = λ p u t. b.keeps (f x at row) p u t ∙ (ap (λ y. cell_at (f y at row) p) w ∙ ap (λ y. cell_at (f k y row) p) v) }
  walk_turned lo hi at (x ∷ xs) (suc j) a k e d h row =
      let c = h 0 at x refl (omega arith) (λ (z : 0 ≡ suc j). cc) in
      let r = walk_turned lo hi (at + 1) xs j a k e (omega arith) (λ i b other u t ne. h (suc i) b other u (omega arith) (λ (z : suc i ≡ suc j). ne (omega arith))) (f x at row) in
      record { before = r.before; long = r.long ∙ c.long row; same = λ p u v. r.same p u v ∙ c.keeps row p u v; turn = r.turn }

-- ---- bases

module _ {I : Type 0} {l : LatticeOf I} {n : IntegersOf I} {gamma : I → ℤ → Type 0} (flow : Flow) (naming : Naming) where
  -- what stands for a base is in the cells of the base
  pub same_base : (memory : Memory) (b : ℕ) (base : BaseInfo) (row after : List (Cell I)) → Fits base → ((at : ℕ) → base.first ≤ at → at < base.first + base_values base → cell_at after at ≡ cell_at row at) → InGammaBase l n gamma flow naming memory b base row → InGammaBase l n gamma flow naming memory b base after
  same_base memory b base row after f same s = record {
    leaves = λ j leaf e.
        let t = slice_get_within base.shape.cells j leaf e in
        let x = leaf_is base j f t in
        subst (InGammaLeaf gamma flow naming memory b leaf) (sym (same_value l n row after (leaf_position base j) (same (leaf_position base j) (omega (arith, x)) (omega (arith, x, t))))) (s.leaves j leaf e);
    classes = λ c heap h.
        let six : cond {A = ℕ} base.shape.heap 6 0 ≡ 6 = rw heap refl in
        let x = class_is base c f (omega (arith, six, h)) in
        subst (InGammaClass gamma flow naming memory b base (class_at c)) (sym (same_value l n row after (class_position base c) (same (class_position base c) (omega (arith, x)) (omega (arith, x, six, h))))) (s.classes c heap h);
    zeros = λ z i part e h.
        let t = slice_get_within base.shape.zeros z part e in
        let x = zero_is base z f (omega (arith, t)) in
        subst (λ y. InGammaZero gamma naming memory y (array_bytes part (bytes_at memory i))) (sym (same_zero l n row after (zero_position base z) (same (zero_position base z) (omega (arith, x)) (omega (arith, x, t))))) (s.zeros z i part e h);
    states = λ i heap h.
        let one : cond {A = ℕ} base.shape.heap 1 0 ≡ 1 = rw heap refl in
        let x = zero_is base (length base.shape.zeros) f (omega arith) in
        subst (λ y. InGammaState gamma naming memory y (life_at memory i) (length (bytes_at memory i))) (sym (same_state l n row after (state_position base) (same (state_position base) (omega (arith, x)) (omega (arith, x, one))))) (s.states i heap h);
  }

state_moves : {I : Type 0} (gamma : I → ℤ → Type 0) (naming : Naming) (old new : Memory) (y : _) (life : Life) (size : ℕ) → InGammaState gamma naming old y life size → InGammaState gamma naming new y life size
state_moves gamma naming old new y live size h = h
state_moves gamma naming old new y ended size h = h
state_moves gamma naming old new y freed size h = h

module _ {I : Type 0} {l : LatticeOf I} {n : IntegersOf I} {gamma : I → ℤ → Type 0} (o : OrderLaws l) (q : BoundLaws l n gamma) (flow : Flow) (naming : Naming) {old new : Memory} {i offset size : ℕ} (s : IsRegion old new i offset size) where
  pub states_move : (b : ℕ) (base : BaseInfo) (row : List (Cell I)) → ((j : ℕ) → base.shape.heap ≡ true → naming j ≡ Some b → InGammaState gamma naming old (state_at l n row (state_position base)) (life_at old j) (length (bytes_at old j)))
      → (j : ℕ) → base.shape.heap ≡ true → naming j ≡ Some b → InGammaState gamma naming new (state_at l n row (state_position base)) (life_at new j) (length (bytes_at new j))
  states_move b base row h j heap named =
      subst (λ y. InGammaState gamma naming new (state_at l n row (state_position base)) (life_at new j) y) (sym (s.lengths j))
      (subst (λ y. InGammaState gamma naming new (state_at l n row (state_position base)) y (length (bytes_at old j))) (sym (s.lives j))
      (state_moves gamma naming old new (state_at l n row (state_position base)) (life_at old j) (length (bytes_at old j)) (h j heap named)))

  -- a base whose instances have no byte of the region
  pub base_apart : (b : ℕ) (base : BaseInfo) (row : List (Cell I)) → (naming i ≡ Some b → 0 < size → ⊥) → InGammaBase l n gamma flow naming old b base row → InGammaBase l n gamma flow naming new b base row
  unfolding byte_at
  base_apart b base row none t = record {
    leaves = λ j leaf e. cell_apart o q flow naming s b leaf.class leaf.signed _ _ _ (t.leaves j leaf e) (λ u a p z from to. none u.named z) (λ u a k w from to. none u.named (omega (arith, from, to)));
    classes = λ c heap h. cell_apart o q flow naming s b (class_at c) true _ _ _ (t.classes c heap h) (λ u a p z from to. none u.named z) (λ u a k w from to. none u.named (omega (arith, from, to)));
    zeros = λ z j part e h.
        let bytes : bytes_at new j ≡ bytes_at old j = same_slices _ _ (λ y. s.outside j y (λ d from to. none (subst (λ k. naming k ≡ Some b) d h.named) (omega (arith, from, to)))) in
        subst (λ y. InGammaZero gamma naming new (zero_at l n row (zero_position base z)) (array_bytes part y)) (sym bytes) (t.zeros z j part e (live_moves (alike_region s) naming b j h));
    states = states_move b base row t.states;
  }

-- ---- all bases

module _ {I : Type 0} {l : LatticeOf I} {n : IntegersOf I} {gamma : I → ℤ → Type 0} (o : OrderLaws l) (q : BoundLaws l n gamma) (flow : Flow) (naming : Naming) (row : List (Cell I)) (state : MachineState) (k : IsLaidOut flow (length row)) (s : InGamma l n gamma flow naming row state) where
  pub stands_base : (b : ℕ) (base : BaseInfo) → slice_get flow.bases.items b ≡ Some base → InGammaBase l n gamma flow naming state.memory b base row
  stands_base b base e = record {
    leaves = λ j leaf f. s.leaves b j base leaf e f;
    classes = λ c heap h. s.classes b c base e heap h;
    zeros = λ z i part f h. s.zeros b z i base part e f h;
    states = λ i heap h. s.states b i base e heap h;
  }

  base_fits : (b : ℕ) (base : BaseInfo) → slice_get flow.bases.items b ≡ Some base → Fits base
  base_fits b base e = let a = k.laid.close b base e in let c = k.laid.small in omega (arith, a, c)

  module _ (new : Memory) (i offset size : ℕ) (region : IsRegion state.memory new i offset size) (sane : IsMemoryOf flow.model flow.bases.items naming new) where
    -- a row that has the same temporaries, and stands for each base
    pub bases_stand : (after : List (Cell I)) → ((at : ℕ) → k.behind ≤ at → cell_at after at ≡ cell_at row at) → ((b : ℕ) (base : BaseInfo) → slice_get flow.bases.items b ≡ Some base → InGammaBase l n gamma flow naming new b base after)
        → InGamma l n gamma flow naming after (record { memory = new; temps = state.temps; entered = state.entered })
    bases_stand after temps all = record {
      sane = sane;
      held = record {
        within = λ t scalar e. scalar_in_moves (alike_region region) scalar (s.held.within t scalar e);
        named = λ t x e. named_moves naming state.memory new region.lives x (s.held.named t x e);
      };
      lives = record { sole = λ d j base e a m h. s.lives.sole d j base e a m (λ f. h (region.lives j ∙ f)); alive = λ d j e. region.lives j ∙ s.lives.alive d j e; named = s.lives.named; objects = s.lives.objects };
      leaves = λ b j base leaf e f. (all b base e).leaves j leaf f;
      classes = λ b c base e heap h. (all b base e).classes c heap h;
      zeros = λ b z j base part e f h. (all b base e).zeros z j part f h;
      states = λ b j base e heap h. (all b base e).states j heap h;
      temps = λ t scalar e.
          let far = k.temporaries in
          let small = k.laid.small in
          let same = same_value l n row after (temp_position flow t) (temps (temp_position flow t) (omega (arith, far, small))) in
          subst (λ y. InGammaScalar gamma naming new y scalar) (sym same) (scalar_moves (alike_region region) gamma naming (temp_value l n flow row t) scalar (s.temps t scalar e));
    }

    -- nothing was written
    pub none_stands : size ≡ 0 → InGamma l n gamma flow naming row (record { memory = new; temps = state.temps; entered = state.entered })
    none_stands h = bases_stand row (λ at f. refl) (λ b base e. base_apart o q flow naming region b base row (λ named z. omega (arith, h, z)) (stands_base b base e))

    module _ (set : Bases) (f : BaseInfo → ℕ → List (Cell I) → List (Cell I)) (within : (b : ℕ) (base : BaseInfo) → slice_get flow.bases.items b ≡ Some base → WritesWithin base.first (base.first + base_values base) (f base b)) where
      spares : (lo hi : ℕ) (b : ℕ) (base : BaseInfo) → slice_get flow.bases.items b ≡ Some base → ((at : ℕ) → lo ≤ at → at < hi → base.first ≤ at → at < base.first + base_values base → ⊥) → Spares lo hi (write_base_of set f base b)
      spares lo hi b base e apart = by_wanted (has_base set b)
        where
          by_wanted : (wanted : Bool) → Spares lo hi (λ r. cond wanted (f base b r) r)
          by_wanted true = record { long = (within b base e).long; keeps = λ r at u v. (within b base e).keeps r at (apart at u v) }
          by_wanted false = record { long = λ r. refl; keeps = λ r at u v. refl }

      turned : (b : ℕ) (base : BaseInfo) → slice_get flow.bases.items b ≡ Some base → TurnedIn base.first (base.first + base_values base) (write_base_of set f base b) row (write_bases flow.bases.items set f row)
      turned b base e = walk_turned (write_base_of set f) base.first (base.first + base_values base) 0 flow.bases.items b b base e (omega arith)
          (λ c d other g h ne.
          let same : d ≡ c = omega (arith, h) in
          spares base.first (base.first + base_values base) d other (subst (λ z. slice_get flow.bases.items z ≡ Some other) (sym same) g) (λ at u v w x. elim (k.laid.apart c b other base g e ne) [ inl y ↦ omega (arith, y, u, x) | inr y ↦ omega (arith, y, v, w) ]))
          row

      behind_same : (at : ℕ) → k.behind ≤ at → cell_at (write_bases flow.bases.items set f row) at ≡ cell_at row at
      behind_same at h = (spares_walk (write_base_of set f) at (at + 1) 0 flow.bases.items (λ j a other g d.
          let same : a ≡ j = omega (arith, d) in
          let e = subst (λ z. slice_get flow.bases.items z ≡ Some other) (sym same) g in
          let c = k.laid.close a other e in
          spares at (at + 1) a other e (λ y u v w x. omega (arith, u, v, w, x, c, h)))).keeps row at (omega arith) (omega arith)

      pub writes_long : length (write_bases flow.bases.items set f row) ≡ length row
      writes_long = (spares_walk (write_base_of set f) 0 0 0 flow.bases.items (λ j a other g d.
          let same : a ≡ j = omega (arith, d) in
          spares 0 0 a other (subst (λ z. slice_get flow.bases.items z ≡ Some other) (sym same) g) (λ at u v w x. omega (arith, v)))).long row

      module _ (here : (b : ℕ) → naming i ≡ Some b → 0 < size → has_base set b ≡ true)
          (each : (b : ℕ) (base : BaseInfo) (r : List (Cell I)) → slice_get flow.bases.items b ≡ Some base → has_base set b ≡ true → length r ≡ length row → InGammaBase l n gamma flow naming state.memory b base r → InGammaBase l n gamma flow naming new b base (f base b r)) where
        each_base : (b : ℕ) (base : BaseInfo) → slice_get flow.bases.items b ≡ Some base → InGammaBase l n gamma flow naming new b base (write_bases flow.bases.items set f row)
        each_base b base e =
            let t = turned b base e in
            let old = same_base flow naming state.memory b base row t.before (base_fits b base e) t.same (stands_base b base e) in
            same_base flow naming new b base (write_base_of set f base b t.before) (write_bases flow.bases.items set f row) (base_fits b base e) t.turn (elim (cases_Bool (has_base set b)) [
              | inl h ↦ rw h (each b base t.before e h t.long old)
              | inr h ↦ rw h (base_apart o q flow naming region b base t.before (λ named z. true≢false (sym (here b named z) ∙ h)) old)
            ])

        pub writes_stand : InGamma l n gamma flow naming (write_bases flow.bases.items set f row) (record { memory = new; temps = state.temps; entered = state.entered })
        writes_stand = bases_stand (write_bases flow.bases.items set f row) behind_same each_base
