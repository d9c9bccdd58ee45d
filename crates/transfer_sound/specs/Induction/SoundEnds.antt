-- When the analysis is sound on an instruction that ends its block: the row that comes along the edge that is taken stands for
-- the state there, and each rule that is violated is admitted.
use Rattle.std.specs.Prelude.{◌≡◌, ℕ, ℤ, true, List, Some, slice_get}
use Rattle.std.specs.List.{Contains}
use Rattle.cc_base.specs.Lattices.{LatticeOf}
use Rattle.cc_base.specs.IntegerDomains.{IntegersOf}
use Rattle.cc_base.specs.declared.diagnostics.Rule.{Rule}
use Rattle.cc_base.specs.declared.limit_table.Limits.{Limits}
use Rattle.cfg.specs.WellFormed.{On, leads, is_well_formed}
use Rattle.cfg.specs.declared.flow_edges.Edge.{Edge}
use Rattle.cfg.specs.declared.machine_instructions.Instruction.{Instruction}
use Rattle.cfg.specs.declared.machine_instructions.Operation.{Operation}
use Rattle.cfg.specs.declared.programs.Flow.{Flow}
use Rattle.value_domain.specs.declared.values.row_cells.Cell.{Cell}
use Rattle.transfer_checks.specs.ViolationSets.{violates}
use Rattle.transfer_system.specs.Steps.{operate}
use Rattle.transfer_system.specs.StepViolations.{operation_violations}
use Rattle.transfer_system.specs.Edges.{edge, last_instruction}
use Rattle.row_bounds.specs.AdmittedRules.{instructions_of}
use Rattle.memory_model.specs.Effects.Worlds.{World, goes, world_of}
use Rattle.lower_templates.specs.Worklist.Acts.{act}
use Rattle.lower_templates.specs.Views.ProgramViews.{flow_view}
use Rattle.semantics.specs.CfgMachine.FlowStates.{ProgramState}
use Rattle.semantics.specs.CfgMachine.FlowSteps.{act_step}
use Rattle.store_sound.specs.Concretization.ValueMeaning.{Naming}
use Rattle.transfer_sound.specs.Values.SoundSteps.{IsReached, InGammaAfter, AreSound}

-- the instruction goes on in its block, or ends it
abbrev pub GoesOn : Operation → Type 0
GoesOn o = leads o ≡ On

-- an instruction of the program does it
pub record IsDoneIn (flow : Flow) (o : Operation) : Type 0 where
  pub block : ℕ
  pub at : ℕ
  pub instruction : Instruction
  pub is : slice_get (instructions_of flow block) at ≡ Some instruction
  pub does : instruction.operation ≡ o

abbrev pub EndsBlock : Operation → Type 0
EndsBlock o = leads o ≡ On → ⊥

module _ {I : Type 0} (l : LatticeOf I) (n : IntegersOf I) (gamma : I → ℤ → Type 0) (flow : Flow) where
  -- along an edge from the block that is left, to the start of the block that is entered; the row at the end of the block is
  -- that before the instruction
  pub record EdgeBehind (row : List (Cell I)) (o : Operation) (from : ℕ) (s : ProgramState) : Type 0 where
    pub stays : operate l n flow row o ≡ Some row
    pub number : ℕ
    pub taken : Edge
    pub is : slice_get flow.edges.items number ≡ Some taken
    pub leaves : taken.from ≡ from
    pub enters : s.block ≡ taken.to
    pub starts : s.at ≡ 0
    pub behind : InGammaAfter l n gamma flow (edge l n flow row number) s

  pub record EndIsSound (row : List (Cell I)) (o : Operation) (s : ProgramState) : Type 0 where
    pub goes_on : (t : ProgramState) (w : World) → act_step (flow_view flow) (act o) s ≡ goes t w → EdgeBehind row o s.block (record t { world = w })
    pub admits : (r : Rule) → Contains (world_of (act_step (flow_view flow) (act o) s)).violated r → violates (operation_violations l n flow row o) r ≡ true

  -- instructions that end the blocks of a well-formed program
  abbrev pub EndsAreSound : Limits → (Operation → Type 0) → Type 0
  EndsAreSound limits Is = is_well_formed limits flow ≡ true → (naming : Naming) (row : List (Cell I)) (s : ProgramState) (i : Instruction) → last_instruction flow s.block ≡ Some i → Is i.operation → IsReached l n gamma flow naming row s → EndIsSound row i.operation s

  abbrev pub StepsGoOnSoundly : Type 0
  StepsGoOnSoundly = AreSound l n gamma flow (λ o. GoesOn o × IsDoneIn flow o)

  abbrev pub EndsGoOnSoundly : Limits → Type 0
  EndsGoOnSoundly limits = EndsAreSound limits EndsBlock
