-- A row tells the state behind where the cells of one object tell its bytes, and all else is as it was.
use Rattle.std.proofs.Common.{◌≡◌, ℕ, ◌+◌, ◌<◌, ◌≤◌, Option, Some, None, List, arith, subst, sym, ap, ◌∙◌, inl, inr}
use Rattle.std.specs.Prelude.{slice_get}
use Rattle.std.proofs.lemmas.Bool.{cases_eq}
use Rattle.std.proofs.lemmas.Option.{same_Some, slice_get_within}
use Rattle.cc_base.specs.Lattices.{LatticeOf}
use Rattle.cc_base.specs.IntegerDomains.{IntegersOf}
use Rattle.c_layout.specs.declared.leaf_lists.Class.{Class}
use Rattle.c_layout.specs.declared.leaf_lists.Leaf.{Leaf}
use Rattle.c_layout.specs.declared.shapes.BaseInfo.{BaseInfo}
use Rattle.cfg.specs.WellFormed.{base_values}
use Rattle.cfg.specs.declared.programs.Flow.{Flow}
use Rattle.value_domain.specs.declared.values.values.Value.{Value}
use Rattle.value_domain.specs.declared.values.row_cells.Cell.{Cell}
use Rattle.store_cells.specs.RowPositions.{leaf_position, cell_at, value_at}
use Rattle.transfer_checks.specs.Temporaries.{temp_position, temp_value}
use Rattle.memory_model.specs.Memory.Bytes.{null, into, Content}
use Rattle.memory_model.specs.Memory.Instances.{Memory, byte_at, life_at}
use Rattle.memory_model.specs.Memory.ScalarSizes.{class_bytes}
use Rattle.memory_model.specs.Memory.Scalars.{Scalar, integer, pointer}
use Rattle.store_sound.specs.Concretization.Matching.{Matched}
use Rattle.store_sound.specs.Concretization.Places.{IsPlaceOf}
use Rattle.store_sound.specs.Concretization.RowMeaning.{MachineState}
use Rattle.store_sound.proofs.operations.StoreRows.{leaf_is}
use Rattle.store_sound.proofs.operations.StoreValues.{same_value}
use Rattle.store_sound.specs.Programs.Premises.{HasPremises}
use Rattle.transfer_exact.specs.Values.SingleRows.{HoldsScalar, ExactLeaf, ExactState}
use Rattle.transfer_exact.specs.Values.SingleValues.{ExactByLife, ExactScalar, ExactHeld}

-- ---- scalars

module _ {I : Type 0} (n : IntegersOf I) (entered : ℕ → Option ℕ) (old new : Memory) (lives : (j : ℕ) → life_at new j ≡ life_at old j) where
  pub scalar_moves : (v : Value I) (scalar : Scalar) → ExactScalar n entered old v scalar → ExactScalar n entered new v scalar
  scalar_moves v (integer z labels) h = record { number = h.number; labels_are = h.labels_are; apart = h.apart; determinate = h.determinate }
  scalar_moves v (pointer null) h = record { apart = h.apart; points = h.points; determinate = h.determinate }
  scalar_moves v (pointer (into i offset lo hi)) h = record { apart = h.apart; points = subst (λ z. ExactByLife n entered v.pointer z i offset lo hi) (sym (lives i)) h.points; determinate = h.determinate }

  pub held_moves : (v : Value I) (held : Option Scalar) → ExactHeld n entered old v held → ExactHeld n entered new v held
  held_moves v None h = h
  held_moves v (Some scalar) h = scalar_moves v scalar h

-- ---- the bytes of a leaf

module _ (flow : Flow) (old new : Memory) (i offset : ℕ) (leaf : Leaf) (same : (k : ℕ) → k < class_bytes flow.model leaf.class → byte_at new i (offset + k) ≡ byte_at old i (offset + k)) where
  matched_moves : (k : ℕ) (c : Class) (d : Content) → k < class_bytes flow.model leaf.class → Matched old i (offset + k) c k d → Matched new i (offset + k) c k d
  matched_moves k c d small m = record { tag = m.tag; here = same k small ∙ m.here; fits = m.fits }

  pub holds_moves : (held : Option Scalar) → HoldsScalar flow old i offset leaf held → HoldsScalar flow new i offset leaf held
  holds_moves None h = λ k small. matched_moves k leaf.class _ small (h k small)
  holds_moves (Some (integer z labels)) h = record {
    integral = h.integral;
    numbers = h.numbers;
    bytes = record { size = h.bytes.size; each = λ k m small e. matched_moves k leaf.class _ (let size = h.bytes.size in omega (arith, small, size)) (h.bytes.each k m small e) };
    is = h.is;
    same = h.same;
  }
  holds_moves (Some (pointer null)) h = record { pointing = h.pointing; bytes = λ k small. matched_moves k leaf.class _ small (h.bytes k small) }
  holds_moves (Some (pointer (into j o lo hi))) h = record { pointing = h.pointing; bytes = λ k small. matched_moves k leaf.class _ small (h.bytes k small) }

-- ---- states

module _ {I : Type 0} (l : LatticeOf I) (n : IntegersOf I) (flow : Flow) (p : HasPremises flow) where
  -- the cells of one object and its bytes are other ones
  pub record IsChange (row after : List (Cell I)) (entered : ℕ → Option ℕ) (old new : Memory) (b i : ℕ) (base : BaseInfo) : Type 0 where
    pub lives : (j : ℕ) → life_at new j ≡ life_at old j
    pub others : (j o : ℕ) → (j ≡ i → ⊥) → byte_at new j o ≡ byte_at old j o
    pub outside : (x : ℕ) → (base.first ≤ x → x < base.first + base_values base → ⊥) → cell_at after x ≡ cell_at row x
    -- the names of entered objects are different
    pub apart : (d j : ℕ) → entered d ≡ Some j → (d ≡ b → ⊥) → j ≡ i → ⊥

  module _ (row after : List (Cell I)) (state : MachineState) (new : Memory) (b i : ℕ) (base : BaseInfo) (at : slice_get flow.bases.items b ≡ Some base) (named : state.entered b ≡ Some i) (t : ExactState l n flow row state) (c : IsChange row after state.entered state.memory new b i base) where
    abbrev behind : MachineState
    behind = record { memory = new; temps = state.temps; entered = state.entered }

    temp_same : (x : ℕ) → temp_value l n flow after x ≡ temp_value l n flow row x
    temp_same x =
        let k = p.laid.laid.close b base at in
        let small = p.laid.laid.small in
        let far = p.laid.temporaries in
        same_value l n row after (temp_position flow x) (c.outside (temp_position flow x) (λ f g. omega (arith, k, small, far, f, g)))

    other_same : (d j : ℕ) (info : BaseInfo) (leaf : Leaf) → slice_get flow.bases.items d ≡ Some info → slice_get info.shape.cells j ≡ Some leaf → (d ≡ b → ⊥) → value_at l n after (leaf_position info j) ≡ value_at l n row (leaf_position info j)
    other_same d j info leaf e f ne =
        let k = p.laid.laid.close b base at in
        let m = p.laid.laid.close d info e in
        let small = p.laid.laid.small in
        let top = slice_get_within info.shape.cells j leaf f in
        let x = leaf_is info j (omega (arith, m, small)) top in
        let sides = p.laid.laid.apart d b info base e at ne in
        same_value l n row after (leaf_position info j) (c.outside (leaf_position info j) (λ g h. elim sides [ inl u ↦ omega (arith, u, g, h, x, top) | inr u ↦ omega (arith, u, g, h, x, top) ]))

    pub change_tells : ((j : ℕ) (leaf : Leaf) (offset : ℕ) → slice_get base.shape.cells j ≡ Some leaf → IsPlaceOf leaf offset → ExactLeaf l n flow behind (value_at l n after (leaf_position base j)) i offset leaf) → ExactState l n flow after behind
    change_tells own = record {
      temps = λ x scalar e. subst (λ z. ExactScalar n state.entered new z scalar) (sym (temp_same x)) (scalar_moves n state.entered state.memory new c.lives (temp_value l n flow row x) scalar (t.temps x scalar e));
      leaves = λ d j k offset info leaf e f g place. elim (cases_eq d b) [
        | inl u ↦ (let same : base ≡ info = same_Some base info (sym at ∙ (ap (slice_get flow.bases.items) (sym u) ∙ e)) in
            let inst : i ≡ k = same_Some i k (sym named ∙ (ap state.entered (sym u) ∙ g)) in
            subst (λ z. ExactLeaf l n flow behind (value_at l n after (leaf_position z j)) k offset leaf) same
            (subst (λ z. ExactLeaf l n flow behind (value_at l n after (leaf_position base j)) z offset leaf) inst (own j leaf offset (subst (λ z. slice_get z.shape.cells j ≡ Some leaf) (sym same) f) place)))
        | inr u ↦ (let h = t.leaves d j k offset info leaf e f g place in
            let ne = c.apart d k g u in
            subst (λ z. ExactLeaf l n flow behind z k offset leaf) (sym (other_same d j info leaf e f u)) (record {
              held = h.held;
              holds = holds_moves flow state.memory new k offset leaf (λ y small. c.others k (offset + y) ne) h.held h.holds;
              tells = held_moves n state.entered state.memory new c.lives (value_at l n row (leaf_position info j)) h.held h.tells;
            }))
      ];
    }
