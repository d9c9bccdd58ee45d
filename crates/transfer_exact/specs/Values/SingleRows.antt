-- Rows that tell exactly what a state is: its temporaries, and the scalars of the objects that are there.
use Rattle.std.specs.Prelude.{◌≡◌, ℕ, ◌+◌, ◌<◌, ℤ, true, false, Option, Some, None, List, slice_get}
use Rattle.cc_base.specs.Lattices.{LatticeOf}
use Rattle.cc_base.specs.IntegerDomains.{IntegersOf}
use Rattle.c_layout.specs.declared.leaf_lists.Leaf.{Leaf}
use Rattle.c_layout.specs.declared.shapes.BaseInfo.{BaseInfo}
use Rattle.cfg.specs.declared.programs.Flow.{Flow}
use Rattle.value_domain.specs.declared.values.values.Value.{Value}
use Rattle.value_domain.specs.declared.values.row_cells.Cell.{Cell}
use Rattle.store_cells.specs.RowPositions.{leaf_position, value_at}
use Rattle.transfer_checks.specs.Temporaries.{temp_value}
use Rattle.memory_model.specs.Memory.Labels.{Labels, no_labels}
use Rattle.memory_model.specs.Memory.Bytes.{MachinePointer, null, into, Content, indeterminate, number, part}
use Rattle.memory_model.specs.Memory.Instances.{Memory}
use Rattle.memory_model.specs.Memory.Numbers.{Labelled, number_of}
use Rattle.memory_model.specs.Memory.ScalarSizes.{class_bytes, is_pointer}
use Rattle.memory_model.specs.Memory.Scalars.{Scalar, integer, pointer}
use Rattle.store_sound.specs.Concretization.Matching.{Matched, Holds}
use Rattle.store_sound.specs.Concretization.Places.{IsPlaceOf}
use Rattle.store_sound.specs.Concretization.RowMeaning.{MachineState}
use Rattle.transfer_exact.specs.Values.SingleValues.{ExactScalar, ExactHeld}

-- each scalar of an object has a cell of its own, and nothing is allocated
pub record IsPlainProgram (flow : Flow) : Type 0 where
  pub apart : (b j : ℕ) (base : BaseInfo) (leaf : Leaf) → slice_get flow.bases.items b ≡ Some base → slice_get base.shape.cells j ≡ Some leaf → leaf.count ≡ 1
  pub no_heap : (b : ℕ) (base : BaseInfo) → slice_get flow.bases.items b ≡ Some base → base.shape.heap ≡ false

-- ---- the bytes of a leaf

module _ (flow : Flow) (memory : Memory) (i offset : ℕ) (leaf : Leaf) where
  -- all bytes hold what a number of the byte in the scalar says
  abbrev pub AreAll : (ℕ → Content) → Type 0
  AreAll content = (k : ℕ) → k < class_bytes flow.model leaf.class → Matched memory i (offset + k) leaf.class k (content k)

  -- bytes of one number, all with its labels
  pub record HoldsNumber (z : ℤ) (labels : Labels) : Type 0 where
    pub integral : is_pointer leaf.class ≡ false
    pub numbers : List Labelled
    pub bytes : Holds flow.model memory i offset leaf.class numbers
    pub is : number_of leaf.signed numbers ≡ z
    pub same : (k : ℕ) (m : Labelled) → slice_get numbers k ≡ Some m → m.labels ≡ labels

  -- null is zero bytes
  abbrev pub HoldsPointer : MachinePointer → Type 0
  HoldsPointer null = AreAll (λ k. number 0 no_labels)
  HoldsPointer (into j o lo hi) = AreAll (λ k. part (into j o lo hi) k)

  pub record HoldsPointing (p : MachinePointer) : Type 0 where
    pub pointing : is_pointer leaf.class ≡ true
    pub bytes : HoldsPointer p

  -- indeterminate bytes, or those of a scalar
  abbrev pub HoldsScalar : Option Scalar → Type 0
  HoldsScalar None = AreAll (λ k. indeterminate)
  HoldsScalar (Some (integer z labels)) = HoldsNumber z labels
  HoldsScalar (Some (pointer p)) = HoldsPointing p

-- ---- rows

module _ {I : Type 0} (l : LatticeOf I) (n : IntegersOf I) (flow : Flow) where
  -- a cell tells what the bytes of its leaf are
  pub record ExactLeaf (state : MachineState) (v : Value I) (i offset : ℕ) (leaf : Leaf) : Type 0 where
    pub held : Option Scalar
    pub holds : HoldsScalar flow state.memory i offset leaf held
    pub tells : ExactHeld n state.entered state.memory v held

  pub record ExactState (row : List (Cell I)) (state : MachineState) : Type 0 where
    pub temps : (t : ℕ) (scalar : Scalar) → state.temps t ≡ Some scalar → ExactScalar n state.entered state.memory (temp_value l n flow row t) scalar
    pub leaves : (b j i offset : ℕ) (base : BaseInfo) (leaf : Leaf) → slice_get flow.bases.items b ≡ Some base → slice_get base.shape.cells j ≡ Some leaf → state.entered b ≡ Some i → IsPlaceOf leaf offset → ExactLeaf state (value_at l n row (leaf_position base j)) i offset leaf
