-- A row with another value in a temporary stands for the state with another scalar there.
use Rattle.std.proofs.Common.{◌≡◌, ℕ, ◌<◌, true, cond, Some, List, length, arith, sym, subst, refl, ◌∙◌, inl, inr}
use Rattle.std.specs.Prelude.{slice_get, ℤ, Option, ◌==◌}
use Rattle.std.proofs.lemmas.Bool.{cases_Bool, eqb-true, eqb-false}
use Rattle.std.proofs.lemmas.List.{length-set}
use Rattle.std.proofs.lemmas.Option.{same_Some, slice_get_within}
use Rattle.cc_base.specs.Lattices.{LatticeOf}
use Rattle.cc_base.specs.IntegerDomains.{IntegersOf, BoundLaws}
use Rattle.c_layout.specs.declared.shapes.BaseInfo.{BaseInfo}
use Rattle.c_layout.specs.declared.shapes.ZeroPart.{ZeroPart}
use Rattle.cfg.specs.declared.programs.Flow.{Flow}
use Rattle.value_domain.specs.declared.values.values.Value as values
use Rattle.value_domain.specs.declared.values.row_cells.Cell.{Cell}
use Rattle.value_domain.specs.declared.values.row_cells.Cell.TheVariants.{Value}
use Rattle.store_cells.specs.ClassNumbers.{class_at}
use Rattle.store_cells.specs.NearValues.{near_value}
use Rattle.store_cells.specs.RowPositions.{leaf_position, class_position, zero_position, state_position}
use Rattle.transfer_checks.specs.Temporaries.{temp_position, temp_value, put_temp}
use Rattle.memory_model.specs.Memory.Instances.{Memory, bytes_at, life_at}
use Rattle.memory_model.specs.Memory.Scalars.{Scalar, pointer}
use Rattle.memory_model.specs.Memory.Bytes.{MachinePointer}
use Rattle.memory_model.specs.Effects.NumberedTables.{set_at, put_at}
use Rattle.store_sound.specs.Concretization.ValueMeaning.{Naming, InGammaScalar, InGammaZero, InGammaState}
use Rattle.store_sound.specs.Concretization.SoundMemory.{IsScalarIn, IsNamed}
use Rattle.store_sound.specs.Concretization.RowMeaning.{MachineState, array_bytes, InGammaLeaf, InGammaClass, InGamma}
use Rattle.store_sound.specs.Operations.Scalars.{IsScalarNamed}
use Rattle.store_sound.proofs.operations.StoreRows.{class_is, zero_is}
use Rattle.store_sound.proofs.operations.StoreSound.{scalar_named}
use Rattle.store_sound.proofs.operations.StoreValues.{same_value, same_zero, same_state}
use Rattle.store_sound.specs.Programs.Premises.{HasPremises}
use Rattle.transfer_sound.proofs.values.TempRows.{leaf_below, base_keeps, own_value, other_value}
use Rattle.transfer_sound.proofs.values.NearScalars.{IsNearScalar, near_scalar_stands}

-- what a table has with something at a number
pub data PutCases (t to : ℕ) (v scalar : Scalar) (old : Option Scalar) : Type 0 where
  here : t ≡ to → v ≡ scalar → PutCases t to v scalar old
  there : (t ≡ to → ⊥) → old ≡ Some scalar → PutCases t to v scalar old

pub put_cases : (f : ℕ → Option Scalar) (to : ℕ) (v : Scalar) (t : ℕ) (scalar : Scalar) → put_at f to v t ≡ Some scalar → PutCases t to v scalar (f t)
put_cases f to v t scalar e = elim (cases_Bool (t == to)) [
  | inl g ↦ (let h : Some v ≡ Some scalar = rw (set_at, g) at e in here (eqb-true t to g) (same_Some v scalar h))
  | inr g ↦ (let h : f t ≡ Some scalar = rw (set_at, g) at e in there (eqb-false t to g) h)
]

-- the state with a scalar in a temporary
abbrev pub with_scalar : MachineState → ℕ → Scalar → MachineState
with_scalar state to v = record state { temps = put_at state.temps to v }

module _ {I : Type 0} {l : LatticeOf I} {n : IntegersOf I} {gamma : I → ℤ → Type 0} (q : BoundLaws l n gamma) (flow : Flow) (p : HasPremises flow) where
  -- what a step gives, and what stands for it
  pub record IsResult (naming : Naming) (memory : Memory) (x : values.Value I) (v : Scalar) : Type 0 where
    pub stands_for : InGammaScalar gamma naming memory x v
    pub near : IsNearScalar v
    pub within : IsScalarIn memory v

  module _ (naming : Naming) (row : List (Cell I)) (long : length row ≡ flow.width) (state : MachineState) (s : InGamma l n gamma flow naming row state) (to : ℕ) (few : to < flow.temps) (x : values.Value I) (v : Scalar) (r : IsResult naming state.memory x v) where
    abbrev after : List (Cell I)
    after = put_temp flow row to x

    class_below : (b c : ℕ) (base : BaseInfo) → slice_get flow.bases.items b ≡ Some base → base.shape.heap ≡ true → c < 6 → class_position base c < p.laid.behind
    class_below b c base e heap h =
        let d = p.laid.laid.close b base e in
        let k = p.laid.laid.small in
        let six : cond {A = ℕ} base.shape.heap 6 0 ≡ 6 = rw heap refl in
        let i = class_is base c (omega (arith, d, k)) (omega (arith, six, h)) in
        omega (arith, d, i, h, six)

    zero_below : (b z : ℕ) (base : BaseInfo) (part : ZeroPart) → slice_get flow.bases.items b ≡ Some base → slice_get base.shape.zeros z ≡ Some part → zero_position base z < p.laid.behind
    zero_below b z base part e f =
        let d = p.laid.laid.close b base e in
        let k = p.laid.laid.small in
        let t = slice_get_within base.shape.zeros z part f in
        let i = zero_is base z (omega (arith, d, k)) (omega (arith, t)) in
        omega (arith, d, t, i)

    state_below : (b : ℕ) (base : BaseInfo) → slice_get flow.bases.items b ≡ Some base → base.shape.heap ≡ true → state_position base < p.laid.behind
    state_below b base e heap =
        let d = p.laid.laid.close b base e in
        let k = p.laid.laid.small in
        let one : cond {A = ℕ} base.shape.heap 1 0 ≡ 1 = rw heap refl in
        let i = zero_is base (length base.shape.zeros) (omega (arith, d, k)) (omega arith) in
        omega (arith, d, i, one)

    -- ---- temporaries

    temp_by : (t : ℕ) (scalar : Scalar) → PutCases t to v scalar (state.temps t) → InGammaScalar gamma naming state.memory (temp_value l n flow after t) scalar
    temp_by t scalar (here e f) =
        subst (λ z. InGammaScalar gamma naming state.memory (temp_value l n flow after z) scalar) (sym e)
        (subst (λ z. InGammaScalar gamma naming state.memory z scalar) (sym (own_value p row to x l n few long))
        (subst (InGammaScalar gamma naming state.memory (near_value l n x)) f (near_scalar_stands q flow.model flow.bases.items naming state.memory s.sane x v r.within r.near r.stands_for)))
    temp_by t scalar (there ne f) = subst (λ z. InGammaScalar gamma naming state.memory z scalar) (sym (other_value p row to x l n few t ne)) (s.temps t scalar f)

    within_by : (t : ℕ) (scalar : Scalar) → PutCases t to v scalar (state.temps t) → IsScalarIn state.memory scalar
    within_by t scalar (here e f) = subst (IsScalarIn state.memory) f r.within
    within_by t scalar (there ne f) = s.held.within t scalar f

    named_by : (t : ℕ) (at : MachinePointer) → PutCases t to v (pointer at) (state.temps t) → IsNamed naming state.memory at
    named_by t at (here e f) = subst (IsScalarNamed naming state.memory) f (scalar_named gamma naming state.memory x v r.stands_for)
    named_by t at (there ne f) = s.held.named t at f

    pub put_stands : InGamma l n gamma flow naming after (with_scalar state to v)
    put_stands = record {
      sane = s.sane;
      held = record {
        within = λ t scalar e. within_by t scalar (put_cases state.temps to v t scalar e);
        named = λ t at e. named_by t at (put_cases state.temps to v t (pointer at) e);
      };
      lives = s.lives;
      leaves = λ b j base leaf e f. subst (InGammaLeaf gamma flow naming state.memory b leaf) (sym (same_value l n row after (leaf_position base j) (base_keeps p row to x (leaf_position base j) (leaf_below p b j base leaf e f)))) (s.leaves b j base leaf e f);
      classes = λ b c base e heap h. subst (InGammaClass gamma flow naming state.memory b base (class_at c)) (sym (same_value l n row after (class_position base c) (base_keeps p row to x (class_position base c) (class_below b c base e heap h)))) (s.classes b c base e heap h);
      zeros = λ b z i base part e f h. subst (λ y. InGammaZero gamma naming state.memory y (array_bytes part (bytes_at state.memory i))) (sym (same_zero l n row after (zero_position base z) (base_keeps p row to x (zero_position base z) (zero_below b z base part e f)))) (s.zeros b z i base part e f h);
      states = λ b i base e heap h. subst (λ y. InGammaState gamma naming state.memory y (life_at state.memory i) (length (bytes_at state.memory i))) (sym (same_state l n row after (state_position base) (base_keeps p row to x (state_position base) (state_below b base e heap)))) (s.states b i base e heap h);
      temps = λ t scalar e. temp_by t scalar (put_cases state.temps to v t scalar e);
    }

    pub put_long : length after ≡ flow.width
    put_long = length-set row (temp_position flow to) (Value x) ∙ long
