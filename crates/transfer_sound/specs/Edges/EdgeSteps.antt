-- When edges with tests and cases are sound, and which instructions end a block without the library.
use Rattle.std.specs.Prelude.{◌≡◌, ℕ, ℤ, List, Option, Some, None, slice_get}
use Rattle.cc_base.specs.Lattices.{LatticeOf}
use Rattle.cc_base.specs.IntegerDomains.{IntegersOf}
use Rattle.cc_base.specs.declared.limit_table.Limits.{Limits}
use Rattle.cfg.specs.declared.flow_edges.Edge.{Edge}
use Rattle.cfg.specs.declared.flow_edges.EdgeKind.{EdgeKind}
use Rattle.cfg.specs.declared.flow_edges.EdgeKind.TheVariants as kind
use Rattle.cfg.specs.declared.flow_edges.Test.{Test}
use Rattle.cfg.specs.declared.machine_instructions.Operation.{Operation}
use Rattle.cfg.specs.declared.machine_instructions.Operation.TheVariants as op
use Rattle.cfg.specs.declared.programs.Flow.{Flow}
use Rattle.value_domain.specs.declared.values.row_cells.Cell.{Cell}
use Rattle.transfer_system.specs.Refinements.{refine, refine_case}
use Rattle.transfer_checks.specs.ViolationSets.{no_violations}
use Rattle.lower_templates.specs.Views.ProgramViews.{flow_view}
use Rattle.semantics.specs.CfgMachine.FlowStates.{ProgramState}
use Rattle.semantics.specs.CfgMachine.FlowEdges.{testing, matching}
use Rattle.store_sound.specs.Concretization.ValueMeaning.{Naming}
use Rattle.store_sound.specs.Programs.Premises.{HasPremises}
use Rattle.transfer_sound.specs.Values.SoundSteps.{IsReached, IsStoodFor}
use Rattle.transfer_sound.specs.Induction.SoundEnds.{EndsAreSound}

-- a jump, a branch, a switch or the end of the run; not a call of `fgets`
abbrev pub IsPlainEnd : Operation → Type 0
IsPlainEnd op.Jump = Unit {0}
IsPlainEnd (op.Branch temp scalar) = Unit {0}
IsPlainEnd (op.Switch temp int_type) = Unit {0}
IsPlainEnd op.Stop = Unit {0}
IsPlainEnd _ = ⊥

module _ {I : Type 0} (l : LatticeOf I) (n : IntegersOf I) (gamma : I → ℤ → Type 0) (flow : Flow) where
  -- where a test agrees with memory, what it makes of the row stands for what it makes of memory
  abbrev pub TestIsSound : Option Test → Type 0
  TestIsSound None = Unit {0}
  TestIsSound (Some test) = (naming : Naming) (row : List (Cell I)) (s : ProgramState) → IsReached l n gamma flow naming row s → IsStoodFor l n gamma flow (refine l n flow test row) no_violations (testing (flow_view flow) s (Some test))

  -- where the object that is switched on has a label's value
  abbrev pub CaseIsSound : ℤ → Option ℕ → Type 0
  CaseIsSound value None = Unit {0}
  CaseIsSound value (Some base) = (naming : Naming) (row : List (Cell I)) (s : ProgramState) → IsReached l n gamma flow naming row s → IsStoodFor l n gamma flow (refine_case l n flow base value row) no_violations (matching (flow_view flow) s value (Some base))

  abbrev pub KindIsSound : EdgeKind → Type 0
  KindIsSound (kind.When truth test kept) = TestIsSound test
  KindIsSound (kind.Case test) = CaseIsSound test.value test.object
  KindIsSound _ = Unit {0}

  -- the tests and the cases of all edges
  abbrev pub TestsAreSound : Type 0
  TestsAreSound = (number : ℕ) (e : Edge) → slice_get flow.edges.items number ≡ Some e → KindIsSound e.kind

  abbrev pub PlainEndsAreSound : Type 0
  PlainEndsAreSound = (limits : Limits) → HasPremises flow → TestsAreSound → EndsAreSound l n gamma flow limits IsPlainEnd
