-- Copies of structs between places of structs of that type.
use Rattle.std.specs.Prelude.{◌≡◌, ℕ, ◌+◌, ◌<◌, ◌≤◌, Option, Some, slice_get}
use Rattle.c_layout.specs.Leaves.{leaves_of}
use Rattle.c_layout.specs.StructViews.{StructView, structs_view}
use Rattle.c_layout.specs.Types.{Struct}
use Rattle.c_layout.specs.declared.leaf_lists.Leaf.{Leaf}
use Rattle.c_layout.specs.declared.shapes.BaseInfo.{BaseInfo}
use Rattle.cfg.specs.declared.machine_instructions.Operation.{Operation}
use Rattle.cfg.specs.declared.machine_instructions.Operation.TheVariants as op
use Rattle.cfg.specs.declared.programs.Flow.{Flow}
use Rattle.memory_model.specs.Memory.Bytes.{MachinePointer, null, into}
use Rattle.memory_model.specs.Memory.Scalars.{pointer}
use Rattle.store_sound.specs.Concretization.Places.{OwnedByLeaf}
use Rattle.semantics.specs.CfgMachine.FlowStates.{ProgramState}

-- a leaf of an object stands where a leaf of a struct that begins at the offset does
pub record IsSameLeaf (leaf own : Leaf) (offset : ℕ) : Type 0 where
  pub alone : leaf.count ≡ 1
  pub class : own.class ≡ leaf.class
  pub signed : own.signed ≡ leaf.signed
  pub there : own.offset ≡ offset + leaf.offset

module _ (flow : Flow) (index : ℕ) (view : StructView) (base : BaseInfo) (offset : ℕ) where
  pub record HasOwnLeaf (leaf : Leaf) : Type 0 where
    pub number : ℕ
    pub own : Leaf
    pub among : slice_get base.shape.cells number ≡ Some own
    pub same : IsSameLeaf leaf own offset

  pub record HasStructLeaf (own : Leaf) : Type 0 where
    pub number : ℕ
    pub leaf : Leaf
    pub among : slice_get (leaves_of (structs_view flow.structs) flow.model.pointer (Struct index)) number ≡ Some leaf
    pub same : IsSameLeaf leaf own offset

  -- a struct stands at the offset: the leaves of the object in its bytes are those of the struct
  pub record IsAtStruct : Type 0 where
    pub leaves : (number : ℕ) (leaf : Leaf) → slice_get (leaves_of (structs_view flow.structs) flow.model.pointer (Struct index)) number ≡ Some leaf → HasOwnLeaf leaf
    pub only : (number x k : ℕ) (own : Leaf) → slice_get base.shape.cells number ≡ Some own → offset ≤ x → x < offset + view.size → OwnedByLeaf flow.model own x k → HasStructLeaf own

-- where a struct lies within the bounds of a pointer into an object, it is one of the object's
abbrev pub PointsToStruct : Flow → (ℕ → Option ℕ) → ℕ → MachinePointer → Type 0
PointsToStruct flow entered index null = Unit {0}
PointsToStruct flow entered index (into i offset lo hi) = (b : ℕ) (base : BaseInfo) (view : StructView) → slice_get flow.bases.items b ≡ Some base → slice_get (structs_view flow.structs) index ≡ Some view → entered b ≡ Some i → lo ≤ offset → offset + view.size ≤ hi → IsAtStruct flow index view base offset

abbrev pub HasStructType : Flow → ProgramState → ℕ → ℕ → Type 0
HasStructType flow s temp index = (p : MachinePointer) → s.temps temp ≡ Some (pointer p) → PointsToStruct flow s.bases index p

-- two places of a struct type in one instance, each within its bounds, are one place, or share no byte (6.5.16.1)
abbrev pub AreOneOrApart : Flow → ℕ → MachinePointer → MachinePointer → Type 0
AreOneOrApart flow index null q = Unit {0}
AreOneOrApart flow index (into i offset lo hi) null = Unit {0}
AreOneOrApart flow index (into i offset lo hi) (into j at below above) = (x : ℕ) (view : StructView) → slice_get (structs_view flow.structs) index ≡ Some view → i ≡ j → lo ≤ offset → offset + view.size ≤ hi → below ≤ at → at + view.size ≤ above → offset ≤ x → x < offset + view.size → at ≤ x → x < at + view.size → offset ≡ at

abbrev pub HasPlaces : Flow → ProgramState → ℕ → ℕ → ℕ → Type 0
HasPlaces flow s to from index = (p q : MachinePointer) → s.temps to ≡ Some (pointer p) → s.temps from ≡ Some (pointer q) → AreOneOrApart flow index p q

abbrev pub IsTypedCopy : Flow → Operation → ProgramState → Type 0
IsTypedCopy flow (op.Copy to from index) s = HasStructType flow s to index × HasStructType flow s from index × HasPlaces flow s to from index
IsTypedCopy flow _ s = ⊥
