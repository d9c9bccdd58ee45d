-- Programs whose one run passes each block once at most, on rows that tell its states; and that an analysis of such
-- a program finds no more than this run violates.
use Rattle.std.specs.Prelude.{◌≡◌, ℕ, ℤ, true, false, List, [], Option, Some, slice_get}
use Rattle.std.specs.List.{Contains}
use Rattle.cc_base.specs.InductiveMap.{IsInductive}
use Rattle.cc_base.specs.Lattices.{LatticeOf}
use Rattle.cc_base.specs.IntegerDomains.{IntegersOf}
use Rattle.cc_base.specs.declared.diagnostics.Place.{Place}
use Rattle.cc_base.specs.declared.diagnostics.Rule.{Rule}
use Rattle.cc_base.specs.declared.limit_table.Limits.{Limits}
use Rattle.c_layout.specs.CheckedUnits.{UnitView}
use Rattle.cfg.specs.WellFormed.{is_well_formed}
use Rattle.cfg.specs.declared.flow_edges.CaseTest.{CaseTest}
use Rattle.cfg.specs.declared.flow_edges.Edge.{Edge}
use Rattle.cfg.specs.declared.flow_edges.EdgeKind.TheVariants as kind
use Rattle.cfg.specs.declared.machine_instructions.Instruction.{Instruction}
use Rattle.cfg.specs.declared.machine_instructions.Operation.{Operation}
use Rattle.cfg.specs.declared.machine_instructions.Operation.TheVariants as op
use Rattle.cfg.specs.declared.programs.Flow.{Flow}
use Rattle.value_domain.specs.declared.values.row_cells.Cell.{Cell}
use Rattle.value_domain.specs.Values.Cells.{cell_lattice}
use Rattle.transfer_edges.specs.Edges.{has_label}
use Rattle.diagnose.specs.Diagnostics.AdmittedRules.{instructions_of}
use Rattle.memory_model.specs.Effects.Worlds.{World, Stuck, Violation}
use Rattle.lower_templates.specs.Views.ProgramViews.{flow_view}
use Rattle.semantics.specs.CfgMachine.FlowStates.{ProgramState, running, stopped, found_in}
use Rattle.semantics.specs.CfgMachine.FlowSteps.{flow_steps}
use Rattle.semantics.specs.CfgMachine.FlowStarts.{flow_begin}
use Rattle.transfer_system.specs.BoundedRows.OwnRows.{is_own_row}
use Rattle.transfer_system.specs.System.BlockPasses.{edge_end}
use Rattle.transfer_system.specs.System.FlowMachines.{edge_at, is_head_at, start_of, through, flow_machine}
use Rattle.store_sound.specs.Concretization.Coverage.{state_of}
use Rattle.store_sound.specs.Programs.Premises.{HasPremises}
use Rattle.transfer_sound.specs.Values.SoundSteps.{InGammaAfter}
use Rattle.struct_copies_sound.specs.Structs.StructTables.{HasStructs}
use Rattle.transfer_sound.specs.Edges.EdgeSteps.{TestsAreSound}
use Rattle.analysis_sound.specs.Programs.OpenSteps.{SpellsOverCharacters}
use Rattle.transfer_sound.specs.Induction.SoundEnds.{IsDoneIn, StepsGoOnSoundly, EndsGoOnSoundly}
use Rattle.transfer_sound.specs.Induction.Covering.{HasTypedRuns, Admits}
use Rattle.transfer_exact.specs.Values.SingleLaws.{HasRight, IsPlainCall, ValueStepsAreExact, PointerStepsAreExact, CallsAreExact}
use Rattle.transfer_exact.specs.Values.SingleRows.{IsPlainProgram, ExactState}
use Rattle.transfer_exact.specs.Accesses.TypedAccesses.{HasObjects, IsTyped}
use Rattle.transfer_exact.specs.Accesses.StoreLaws.{LoadsAreExact, StoresAreExact, EntersAreExact, LeavesAreExact, ForgetsAreExact, ClearsAreExact}
use Rattle.transfer_exact.specs.Spelling.TypedCopies.{IsTypedCopy}
use Rattle.transfer_exact.specs.Spelling.CopyLaws.{SpellsAreExact, CopiesAreExact}
use Rattle.transfer_exact.specs.Edges.WayLaws.{EdgesAreExact, TestsAreExact}

-- ---- programs

-- calls are of few functions
abbrev pub IsPlainOperation : Operation → Type 0
IsPlainOperation (op.Library to name arguments newest size) = IsPlainCall (op.Library to name arguments newest size)
IsPlainOperation (op.ReadLine to text count stream) = ⊥
IsPlainOperation _ = Unit {0}

-- accesses are of the kind of what lies there
abbrev pub IsTypedStep : Flow → Operation → ProgramState → Type 0
IsTypedStep flow (op.Load to from kind) s = IsTyped flow s from kind
IsTypedStep flow (op.Store to from kind kept) s = IsTyped flow s to kind
IsTypedStep flow (op.Copy to from index) s = IsTypedCopy flow (op.Copy to from index) s
IsTypedStep flow _ s = Unit {0}

-- the labels of each switch are apart, and the way for other values knows them
pub record SwitchesAreApart (flow : Flow) : Type 0 where
  pub cases : (j k : ℕ) (d e : Edge) (a b : CaseTest) → slice_get flow.edges.items j ≡ Some d → slice_get flow.edges.items k ≡ Some e → d.from ≡ e.from → (k ≡ j → ⊥) → d.kind ≡ kind.Case a → e.kind ≡ kind.Case b → a.value ≡ b.value → ⊥
  pub others : (j k : ℕ) (d e : Edge) (a : CaseTest) (values : _) → slice_get flow.edges.items j ≡ Some d → slice_get flow.edges.items k ≡ Some e → d.from ≡ e.from → d.kind ≡ kind.Case a → e.kind ≡ kind.Other values → has_label values.items a.value ≡ true

-- each access in the run under no numbers of the outside is of the kind of what lies there
abbrev pub HasTypedAccesses : Flow → UnitView → Type 0
HasTypedAccesses flow u = (count : ℕ) (s : ProgramState) (found : List Violation) (i : Instruction) → flow_steps (flow_view flow) count (flow_begin u (flow_view flow) []) ≡ running s found → slice_get (instructions_of flow s.block) s.at ≡ Some i → IsTypedStep flow i.operation s

-- what the laws suppose of a program, and of its run under no numbers of the outside
pub record IsSingleProgram (flow : Flow) (u : UnitView) : Type 0 where
  pub plain : IsPlainProgram flow
  pub parameters : flow.parameters.items ≡ []
  pub calls : (o : Operation) → IsDoneIn flow o → IsPlainOperation o
  -- no edge enters a block from that block or a later one
  pub headless : (b : ℕ) → is_head_at flow.blocks.items b ≡ false
  pub steps : HasTypedAccesses flow u

-- the run under no numbers of the outside enters no block from that block or a later one
abbrev pub EntersNoHead : Flow → UnitView → Type 0
EntersNoHead flow u = (count : ℕ) (s : ProgramState) (found : List Violation) → flow_steps (flow_view flow) count (flow_begin u (flow_view flow) []) ≡ running s found → is_head_at flow.blocks.items s.block ≡ false

-- the same of a program that may have ways back, none of which the run takes
pub record IsSingleRun (flow : Flow) (u : UnitView) : Type 0 where
  pub plain : IsPlainProgram flow
  pub parameters : flow.parameters.items ≡ []
  pub calls : (o : Operation) → IsDoneIn flow o → IsPlainOperation o
  pub headless : EntersNoHead flow u
  pub steps : HasTypedAccesses flow u

-- right operands are of the operators' types in this run
abbrev pub HasRightOperands : Flow → UnitView → Type 0
HasRightOperands flow u = (count : ℕ) (s : ProgramState) (found : List Violation) (i : Instruction) → flow_steps (flow_view flow) count (flow_begin u (flow_view flow) []) ≡ running s found → slice_get (instructions_of flow s.block) s.at ≡ Some i → HasRight i.operation s.temps

-- each step of the run is defined
abbrev pub IsNeverStuckAlone : Flow → UnitView → Type 0
IsNeverStuckAlone flow u = (count : ℕ) (w : World) (found : List Violation) → flow_steps (flow_view flow) count (flow_begin u (flow_view flow) []) ≡ stopped Stuck w found → ⊥

-- ---- violations

-- the run under no numbers of the outside violates the rule at the place
pub record IsViolatedAlone (flow : Flow) (u : UnitView) (place : Place) (rule : Rule) : Type 0 where
  pub count : ℕ
  pub there : Contains (found_in (flow_steps (flow_view flow) count (flow_begin u (flow_view flow) []))) (record { at = place; rule = rule })

-- ---- the laws on single instructions together

module _ {I : Type 0} (l : LatticeOf I) (n : IntegersOf I) (gamma : I → ℤ → Type 0) (flow : Flow) where
  pub record SingleLaws (limits : Limits) : Type 0 where
    pub values : ValueStepsAreExact l n gamma flow
    pub pointers : PointerStepsAreExact l n gamma flow
    pub calls : CallsAreExact l n gamma flow
    pub loads : LoadsAreExact l n gamma flow
    pub stores : StoresAreExact l n gamma flow
    pub copies : CopiesAreExact l n gamma flow
    pub spells : SpellsAreExact l n gamma flow
    pub enters : EntersAreExact l n gamma flow
    pub leaves : LeavesAreExact l n gamma flow
    pub forgets : ForgetsAreExact l n gamma flow
    pub clears : ClearsAreExact l n gamma flow
    pub ways : EdgesAreExact l n gamma flow limits

-- ---- maps

module _ {I : Type 0} (l : LatticeOf I) (n : IntegersOf I) (flow : Flow) where
  -- each pair that every inductive map admits is violated by the run
  abbrev pub AdmitOnlyRun : List ℤ → UnitView → Type 0
  AdmitOnlyRun list u = (place : Place) (rule : Rule) → ((rows : List (Option (List (Cell I)))) → IsInductive (cell_lattice l) (flow_machine l n flow list) rows → Admits l n flow rows place rule) → IsViolatedAlone flow u place rule

-- ---- what is supposed beside

module _ {I : Type 0} (l : LatticeOf I) (n : IntegersOf I) (gamma : I → ℤ → Type 0) (flow : Flow) (list : List ℤ) (limits : Limits) where
  -- a well-formed program for which the analysis is sound and the laws hold, on whose own rows the fit changes nothing
  pub record HasLaws : Type 0 where
    pub good : is_well_formed limits flow ≡ true
    pub premises : HasPremises flow
    pub objects : HasObjects flow
    pub structs : HasStructs flow
    pub texts : SpellsOverCharacters flow
    pub steps : StepsGoOnSoundly l n gamma flow
    pub ends : EndsGoOnSoundly l n gamma flow limits
    pub sound : TestsAreSound l n gamma flow
    pub laws : SingleLaws l n gamma flow limits
    pub told : TestsAreExact l n gamma flow
    pub leaves : (number : ℕ) (row : List (Cell I)) → is_own_row l n list flow.bases.items flow.width row ≡ true → through l n flow list number row ≡ edge_end l n flow (edge_at flow.edges.items number).from number row
    pub owns : (block number : ℕ) (row x : List (Cell I)) → is_own_row l n list flow.bases.items flow.width row ≡ true → edge_end l n flow block number row ≡ Some x → is_own_row l n list flow.bases.items flow.width x ≡ true
    pub start : is_own_row l n list flow.bases.items flow.width (start_of l n flow list) ≡ true

  -- where the row of the entry stands for the state in which the run begins and tells it, and operands are of their types
  abbrev pub MapsAdmitOnlyRun : Type 0
  MapsAdmitOnlyRun = HasLaws → SwitchesAreApart flow → (u : UnitView) → HasTypedRuns flow u → HasRightOperands flow u → IsNeverStuckAlone flow u → IsSingleRun flow u → (first : ProgramState) → flow_begin u (flow_view flow) [] ≡ running first []
      → InGammaAfter l n gamma flow (Some (start_of l n flow list)) first → ExactState l n flow (start_of l n flow list) (state_of first) → AdmitOnlyRun l n flow list u
