-- The laws of edges in rows that tell the state: along the edge that is taken the row tells the state behind, along
-- each other one there is none.
use Rattle.std.specs.Prelude.{◌≡◌, ℕ, ℤ, true, Option, Some, None, List, slice_get}
use Rattle.cc_base.specs.Lattices.{LatticeOf}
use Rattle.cc_base.specs.IntegerDomains.{IntegersOf}
use Rattle.cc_base.specs.declared.limit_table.Limits.{Limits}
use Rattle.cfg.specs.WellFormed.{is_well_formed}
use Rattle.cfg.specs.declared.flow_edges.Edge.{Edge}
use Rattle.cfg.specs.declared.flow_edges.EdgeKind.{EdgeKind}
use Rattle.cfg.specs.declared.flow_edges.EdgeKind.TheVariants as kind
use Rattle.cfg.specs.declared.flow_edges.Test.{Test}
use Rattle.cfg.specs.declared.machine_instructions.Instruction.{Instruction}
use Rattle.cfg.specs.declared.machine_instructions.Operation.{Operation}
use Rattle.cfg.specs.declared.machine_instructions.Operation.TheVariants as op
use Rattle.cfg.specs.declared.programs.Flow.{Flow}
use Rattle.value_domain.specs.declared.values.row_cells.Cell.{Cell}
use Rattle.transfer_edges.specs.Edges.{edge, last_instruction}
use Rattle.transfer_edges.specs.Refinements.{refine, refine_case}
use Rattle.transfer_checks.specs.ViolationSets.{no_violations}
use Rattle.memory_model.specs.Memory.Scalars.{Scalar}
use Rattle.memory_model.specs.Effects.Worlds.{World, goes}
use Rattle.lower_templates.specs.Worklist.Acts.{act}
use Rattle.lower_templates.specs.Worklist.Pieces.{way}
use Rattle.lower_templates.specs.Views.ProgramViews.{flow_view}
use Rattle.semantics.specs.CfgMachine.FlowStates.{ProgramState}
use Rattle.semantics.specs.CfgMachine.FlowEdges.{is_taken, testing, matching}
use Rattle.semantics.specs.CfgMachine.FlowSteps.{act_step}
use Rattle.store_sound.specs.Concretization.Coverage.{state_of}
use Rattle.store_sound.specs.Concretization.ValueMeaning.{Naming}
use Rattle.store_sound.specs.Programs.Premises.{HasPremises}
use Rattle.transfer_sound.specs.Values.SoundSteps.{IsReached}
use Rattle.transfer_sound.specs.Edges.EdgeSteps.{TestsAreSound}
use Rattle.transfer_exact.specs.Values.SingleRows.{ExactState}
use Rattle.transfer_exact.specs.Values.SingleSteps.{IsDefined, ExactAfter, IsExact}

-- no scalar takes two edges of one block
pub record WaysAreApart (flow : Flow) : Type 0 where
  pub apart : (j k : ℕ) (d e : Edge) (v : Scalar) → slice_get flow.edges.items j ≡ Some d → slice_get flow.edges.items k ≡ Some e → d.from ≡ e.from → (k ≡ j → ⊥) → is_taken v (way d.kind) ≡ true → is_taken v (way e.kind) ≡ true → ⊥

-- an edge of a kind that leads on from the instruction
abbrev pub FitsWay : Operation → EdgeKind → Type 0
FitsWay op.Jump kind.Jump = Unit {0}
FitsWay (op.Branch temp scalar) (kind.When truth test kept) = Unit {0}
FitsWay (op.Switch temp int_type) (kind.Case test) = Unit {0}
FitsWay (op.Switch temp int_type) (kind.Other values) = Unit {0}
FitsWay _ _ = ⊥

-- a jump, a branch or a switch
abbrev pub IsWay : Operation → Type 0
IsWay op.Jump = Unit {0}
IsWay (op.Branch temp scalar) = Unit {0}
IsWay (op.Switch temp int_type) = Unit {0}
IsWay _ = ⊥

module _ {I : Type 0} (l : LatticeOf I) (n : IntegersOf I) (gamma : I → ℤ → Type 0) (flow : Flow) where
  -- ---- tests

  -- where a test agrees with memory, what it makes of the row tells what it makes of memory
  abbrev pub TestIsExact : Option Test → Type 0
  TestIsExact None = Unit {0}
  TestIsExact (Some test) = (naming : Naming) (row : List (Cell I)) (s : ProgramState) → IsReached l n gamma flow naming row s → ExactState l n flow row (state_of s) → IsDefined (testing (flow_view flow) s (Some test)) → IsExact l n flow (refine l n flow test row) no_violations (testing (flow_view flow) s (Some test))

  -- where the object that is switched on has a label's value
  abbrev pub CaseIsExact : ℤ → Option ℕ → Type 0
  CaseIsExact value None = Unit {0}
  CaseIsExact value (Some base) = (naming : Naming) (row : List (Cell I)) (s : ProgramState) → IsReached l n gamma flow naming row s → ExactState l n flow row (state_of s) → IsDefined (matching (flow_view flow) s value (Some base)) → IsExact l n flow (refine_case l n flow base value row) no_violations (matching (flow_view flow) s value (Some base))

  abbrev pub KindIsExact : EdgeKind → Type 0
  KindIsExact (kind.When truth test kept) = TestIsExact test
  KindIsExact (kind.Case test) = CaseIsExact test.value test.object
  KindIsExact _ = Unit {0}

  -- the tests and the cases of all edges
  abbrev pub TestsAreExact : Type 0
  TestsAreExact = (number : ℕ) (e : Edge) → slice_get flow.edges.items number ≡ Some e → KindIsExact e.kind

  -- ---- ways

  -- along one edge of the block the row comes to the state behind, along each other one there is none
  pub record EdgeExact (row : List (Cell I)) (o : Operation) (from : ℕ) (s : ProgramState) : Type 0 where
    pub number : ℕ
    pub taken : Edge
    pub is : slice_get flow.edges.items number ≡ Some taken
    pub leaves : taken.from ≡ from
    pub enters : s.block ≡ taken.to
    pub behind : ExactAfter l n flow (edge l n flow row number) s
    pub others : (other : ℕ) (e : Edge) → slice_get flow.edges.items other ≡ Some e → e.from ≡ from → FitsWay o e.kind → (other ≡ number → ⊥) → edge l n flow row other ≡ None

  pub record EdgeIsExact (row : List (Cell I)) (o : Operation) (s : ProgramState) : Type 0 where
    pub goes_on : (t : ProgramState) (w : World) → act_step (flow_view flow) (act o) s ≡ goes t w → EdgeExact row o s.block (record t { world = w })

  abbrev pub EdgesAreExact : Limits → Type 0
  EdgesAreExact limits = HasPremises flow → WaysAreApart flow → TestsAreSound l n gamma flow → TestsAreExact → is_well_formed limits flow ≡ true → (naming : Naming) (row : List (Cell I)) (s : ProgramState) (i : Instruction) → last_instruction flow s.block ≡ Some i → IsWay i.operation → IsReached l n gamma flow naming row s → ExactState l n flow row (state_of s) → IsDefined (act_step (flow_view flow) (act i.operation) s) → EdgeIsExact row i.operation s
