-- The steps and edges of a program grow with the row, and leave own rows of consistent pointer parts.
use Rattle.std.specs.Prelude.{◌≡◌, ℕ, ◌<◌, true, Option, Some, None, length, slice_get}
use Rattle.cc_base.specs.Lattices.{LatticeOf}
use Rattle.cc_base.specs.IntegerDomains.{IntegersOf}
use Rattle.c_layout.specs.declared.shapes.BaseInfo.{BaseInfo}
use Rattle.cfg.specs.declared.programs.Flow.{Flow}
use Rattle.cfg.specs.declared.basic_blocks.BasicBlock.{BasicBlock}
use Rattle.cfg.specs.declared.flow_edges.Edge.{Edge}
use Rattle.cfg.specs.declared.flow_edges.EdgeKind.{EdgeKind}
use Rattle.cfg.specs.declared.flow_edges.EdgeKind.TheVariants as kind
use Rattle.cfg.specs.declared.flow_edges.Side.{Side}
use Rattle.cfg.specs.declared.flow_edges.Side.TheVariants.{Object, Number, Null}
use Rattle.cfg.specs.declared.flow_edges.Test.{Test}
use Rattle.cfg.specs.declared.machine_instructions.Instruction.{Instruction}
use Rattle.cfg.specs.declared.machine_instructions.Operation.{Operation}
use Rattle.cfg.specs.declared.machine_instructions.Operation.TheVariants as op
use Rattle.cfg.specs.WellFormed.{names_of, fits_operation, fits_edge}
use Rattle.pointer_domain.specs.declared.base_sets.Bases.{Bases}
use Rattle.store_monotone.specs.Operations.StoreLaws.{AreBytes}
use Rattle.transfer_system.specs.Steps.{step}
use Rattle.transfer_system.specs.StepViolations.{violations_at}
use Rattle.transfer_system.specs.Edges.{edge}
use Rattle.transfer_monotone.specs.Values.StepLaws.{Rises, Violates}
use Rattle.transfer_monotone.specs.Edges.CallLaws.{CallRises, LineRises, CopyRises}

-- the characters of a text that is spelled are bytes
abbrev pub HasBytes : Operation → Type 0
HasBytes (op.Spell base offset room text) = AreBytes text
HasBytes _ = Unit {0}

-- a base has a leaf
abbrev pub HasLeaf : Flow → ℕ → Type 0
HasLeaf flow base = (info : BaseInfo) → slice_get flow.bases.items base ≡ Some info → 0 < length info.shape.cells

abbrev pub NamesLeaf : Flow → Side → Type 0
NamesLeaf flow (Object base kind) = HasLeaf flow base
NamesLeaf flow (Number number) = Unit {0}
NamesLeaf flow Null = Unit {0}

abbrev pub TestsLeaves : Flow → Option Test → Type 0
TestsLeaves flow None = Unit {0}
TestsLeaves flow (Some test) = NamesLeaf flow test.left × NamesLeaf flow test.right

abbrev pub MatchesLeaf : Flow → Option ℕ → Type 0
MatchesLeaf flow None = Unit {0}
MatchesLeaf flow (Some base) = HasLeaf flow base

-- the objects that an edge names have leaves
abbrev pub FollowsLeaves : Flow → EdgeKind → Type 0
FollowsLeaves flow (kind.When truth test kept) = TestsLeaves flow test
FollowsLeaves flow (kind.Case test) = MatchesLeaf flow test.object
FollowsLeaves flow _ = Unit {0}

-- instructions and edges that name what is there
pub record IsNamed (flow : Flow) : Type 0 where
  pub instructions : (block at : ℕ) (b : BasicBlock) (i : Instruction) → slice_get flow.blocks.items block ≡ Some b → slice_get b.instructions.items at ≡ Some i → (fits_operation (names_of flow) i.operation ≡ true) × HasBytes i.operation
  pub edges : (number : ℕ) (e : Edge) → slice_get flow.edges.items number ≡ Some e → (fits_edge (names_of flow) e.kind ≡ true) × FollowsLeaves flow e.kind

module _ {I : Type 0} (l : LatticeOf I) (n : IntegersOf I) (all : Bases) (flow : Flow) where
  -- library calls and copies of structs grow where it is asked here
  abbrev pub IsRising : Operation → Type 0
  IsRising (op.Library to function arguments newest wanted) = CallRises l n all flow function
  IsRising (op.ReadLine to line count stream) = LineRises l n all flow
  IsRising (op.Copy to from index) = CopyRises l n all flow
  IsRising _ = Unit {0}

  abbrev pub IsRisingEdge : EdgeKind → Type 0
  IsRisingEdge kind.Line = LineRises l n all flow
  IsRisingEdge _ = Unit {0}

  -- the calls and the copies of a program grow
  pub record AreRising : Type 0 where
    pub instructions : (block at : ℕ) (b : BasicBlock) (i : Instruction) → slice_get flow.blocks.items block ≡ Some b → slice_get b.instructions.items at ≡ Some i → IsRising i.operation
    pub edges : (number : ℕ) (e : Edge) → slice_get flow.edges.items number ≡ Some e → IsRisingEdge e.kind

  -- instructions, the rules that they may violate, and edges
  pub record StepsRise : Type 0 where
    pub step : (block at : ℕ) → Rises l n all flow (λ row. step l n flow row block at)
    pub violations : (block at : ℕ) → Violates l n all flow (λ row. violations_at l n flow row block at)
    pub edge : (number : ℕ) → Rises l n all flow (λ row. edge l n flow row number)
