-- Accesses of memory that are of the kind of what lies there.
use Rattle.std.specs.Prelude.{◌≡◌, ℕ, ◌+◌, ◌≤◌, Option, Some, slice_get}
use Rattle.c_layout.specs.declared.leaf_lists.Leaf.{Leaf}
use Rattle.c_layout.specs.declared.shapes.BaseInfo.{BaseInfo}
use Rattle.cfg.specs.declared.machine_instructions.Operation.{Operation}
use Rattle.cfg.specs.declared.machine_instructions.Operation.TheVariants as op
use Rattle.cfg.specs.declared.machine_instructions.Scalar as declared
use Rattle.cfg.specs.declared.programs.Flow.{Flow}
use Rattle.memory_model.specs.Memory.ScalarSizes.{class_bytes}
use Rattle.memory_model.specs.Memory.Bytes.{MachinePointer, null, into}
use Rattle.memory_model.specs.Memory.Scalars.{pointer}
use Rattle.memory_model.specs.Effects.Accesses.{class_in}
use Rattle.semantics.specs.CfgMachine.FlowStates.{ProgramState}
use Rattle.store_sound.specs.Operations.Scalars.{signed_in}
use Rattle.struct_copies_sound.specs.Leaves.StructLeaves.{IsStruct}

-- the leaves of each object share no byte, and lie within it
abbrev pub HasObjects : Flow → Type 0
HasObjects flow = (b : ℕ) (base : BaseInfo) → slice_get flow.bases.items b ≡ Some base → IsStruct flow.model base.shape.cells base.size

-- a leaf of the kind stands at the offset
pub record IsAtLeaf (kind : declared.Scalar) (base : BaseInfo) (offset : ℕ) : Type 0 where
  pub number : ℕ
  pub leaf : Leaf
  pub among : slice_get base.shape.cells number ≡ Some leaf
  pub class : class_in kind ≡ leaf.class
  pub signed : signed_in kind ≡ leaf.signed
  pub there : leaf.offset ≡ offset

-- where a scalar of the kind lies within the bounds of a pointer into an object, it is one of the object's
abbrev pub PointsToKind : Flow → (ℕ → Option ℕ) → declared.Scalar → MachinePointer → Type 0
PointsToKind flow entered kind null = Unit {0}
PointsToKind flow entered kind (into i offset lo hi) = (b : ℕ) (base : BaseInfo) → slice_get flow.bases.items b ≡ Some base → entered b ≡ Some i → lo ≤ offset → offset + class_bytes flow.model (class_in kind) ≤ hi → IsAtLeaf kind base offset

abbrev pub IsTyped : Flow → ProgramState → ℕ → declared.Scalar → Type 0
IsTyped flow s temp kind = (p : MachinePointer) → s.temps temp ≡ Some (pointer p) → PointsToKind flow s.bases kind p

abbrev pub IsTypedLoad : Flow → Operation → ProgramState → Type 0
IsTypedLoad flow (op.Load to from kind) s = IsTyped flow s from kind
IsTypedLoad flow _ s = ⊥

abbrev pub IsTypedStore : Flow → Operation → ProgramState → Type 0
IsTypedStore flow (op.Store to from kind kept) s = IsTyped flow s to kind
IsTypedStore flow _ s = ⊥
