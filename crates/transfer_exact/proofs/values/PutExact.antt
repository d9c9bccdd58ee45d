-- A row with a value in a temporary tells the state with the scalar there that the value tells.
use Rattle.std.proofs.Common.{◌≡◌, ℕ, ◌<◌, Some, Option, List, length, sym, subst}
use Rattle.std.specs.Prelude.{slice_get, ℤ}
use Rattle.cc_base.specs.Lattices.{LatticeOf}
use Rattle.cc_base.specs.IntegerDomains.{IntegersOf, BoundLaws}
use Rattle.c_layout.specs.declared.leaf_lists.Leaf.{Leaf}
use Rattle.c_layout.specs.declared.shapes.BaseInfo.{BaseInfo}
use Rattle.cfg.specs.declared.programs.Flow.{Flow}
use Rattle.value_domain.specs.declared.values.values.Value as values
use Rattle.value_domain.specs.declared.values.row_cells.Cell.{Cell}
use Rattle.value_domain.specs.declared.values.row_cells.Cell.TheVariants.{Value}
use Rattle.store_cells.specs.NearValues.{near_value}
use Rattle.store_cells.specs.RowPositions.{leaf_position, value_at}
use Rattle.transfer_checks.specs.Temporaries.{temp_value, put_temp}
use Rattle.memory_model.specs.Memory.Scalars.{Scalar}
use Rattle.memory_model.specs.Memory.Instances.{Memory}
use Rattle.store_sound.specs.Concretization.SoundMemory.{IsScalarIn, IsMemoryOf}
use Rattle.store_sound.specs.Concretization.ValueMeaning.{Naming}
use Rattle.store_sound.specs.Concretization.RowMeaning.{MachineState}
use Rattle.store_sound.proofs.operations.StoreValues.{same_value}
use Rattle.store_sound.specs.Programs.Premises.{HasPremises}
use Rattle.transfer_sound.proofs.values.TempRows.{leaf_below, base_keeps, own_value, other_value}
use Rattle.transfer_sound.proofs.values.NearScalars.{IsNearScalar}
use Rattle.transfer_sound.proofs.values.PutTemps.{PutCases, here, there, put_cases, with_scalar}
use Rattle.transfer_exact.specs.Values.SingleValues.{ExactScalar}
use Rattle.transfer_exact.specs.Values.SingleRows.{ExactLeaf, ExactState}
use Rattle.transfer_exact.proofs.values.NearExact.{near_scalar_tells}

module _ {I : Type 0} {l : LatticeOf I} {n : IntegersOf I} {gamma : I → ℤ → Type 0} (q : BoundLaws l n gamma) (flow : Flow) (p : HasPremises flow) where
  -- what a step gives, and what tells it
  pub record IsExactResult (entered : ℕ → Option ℕ) (memory : Memory) (x : values.Value I) (v : Scalar) : Type 0 where
    pub tells : ExactScalar n entered memory x v
    pub near : IsNearScalar v
    pub within : IsScalarIn memory v

  module _ (naming : Naming) (row : List (Cell I)) (long : length row ≡ flow.width) (state : MachineState) (sane : IsMemoryOf flow.model flow.bases.items naming state.memory) (s : ExactState l n flow row state) (to : ℕ) (few : to < flow.temps) (x : values.Value I) (v : Scalar) (r : IsExactResult state.entered state.memory x v) where
    abbrev after : List (Cell I)
    after = put_temp flow row to x

    leaf_keeps : (b j : ℕ) (base : BaseInfo) (leaf : Leaf) → slice_get flow.bases.items b ≡ Some base → slice_get base.shape.cells j ≡ Some leaf → value_at l n after (leaf_position base j) ≡ value_at l n row (leaf_position base j)
    leaf_keeps b j base leaf e f =
        same_value l n row after (leaf_position base j) (base_keeps p row to x (leaf_position base j) (leaf_below p b j base leaf e f))

    temp_by : (t : ℕ) (scalar : Scalar) → PutCases t to v scalar (state.temps t) → ExactScalar n state.entered state.memory (temp_value l n flow after t) scalar
    temp_by t scalar (here e f) =
        subst (λ z. ExactScalar n state.entered state.memory (temp_value l n flow after z) scalar) (sym e)
        (subst (λ z. ExactScalar n state.entered state.memory z scalar) (sym (own_value p row to x l n few long))
        (subst (ExactScalar n state.entered state.memory (near_value l n x)) f (near_scalar_tells q state.entered state.memory sane.small x v r.within r.near r.tells)))
    temp_by t scalar (there ne f) = subst (λ z. ExactScalar n state.entered state.memory z scalar) (sym (other_value p row to x l n few t ne)) (s.temps t scalar f)

    pub put_tells : ExactState l n flow after (with_scalar state to v)
    put_tells = record {
      temps = λ t scalar e. temp_by t scalar (put_cases state.temps to v t scalar e);
      leaves = λ b j i offset base leaf e f g h.
          let a = s.leaves b j i offset base leaf e f g h in
          let m = subst (λ y. ExactLeaf l n flow state y i offset leaf) (sym (leaf_keeps b j base leaf e f)) a in
          record { held = m.held; holds = m.holds; tells = m.tells };
    }
