-- When a map from the program's points to rows covers a run: what holds of a run of which the analysis speaks.
use Rattle.std.specs.Prelude.{◌≡◌, ℕ, ℤ, Option, Some, List}
use Rattle.std.specs.List.{Contains}
use Rattle.cc_base.specs.Lattices.{LatticeOf}
use Rattle.cc_base.specs.IntegerDomains.{IntegersOf}
use Rattle.cc_base.specs.declared.diagnostics.Place.{Place}
use Rattle.cc_base.specs.declared.diagnostics.Rule.{Rule}
use Rattle.c_layout.specs.CheckedUnits.{UnitView}
use Rattle.cfg.specs.declared.programs.Flow.{Flow}
use Rattle.value_domain.specs.declared.values.row_cells.Cell.{Cell}
use Rattle.memory_model.specs.Effects.Worlds.{Violation}
use Rattle.lower_templates.specs.Views.ProgramViews.{flow_view}
use Rattle.semantics.specs.CfgMachine.FlowStates.{ProgramState, FlowRun, running, found_in}
use Rattle.semantics.specs.CfgMachine.FlowSteps.{flow_steps}
use Rattle.semantics.specs.CfgMachine.FlowStarts.{flow_begin}
use Rattle.store_sound.specs.Concretization.ValueMeaning.{Naming}
use Rattle.store_sound.specs.Concretization.RowMeaning.{MachineState, InGamma}

abbrev pub state_of : ProgramState → MachineState
state_of s = record { memory = s.world.memory; temps = s.temps; entered = s.bases }

-- `row_before block at` is the row before an instruction, where the analysis comes to it; `Admits` says at which
-- places it admits which rules
module _ {I : Type 0} (l : LatticeOf I) (n : IntegersOf I) (gamma : I → ℤ → Type 0) (flow : Flow) (row_before : ℕ → ℕ → Option (List (Cell I))) (Admits : Place → Rule → Type 0) where
  -- the row before the next instruction, and the names by which it stands for the state
  pub record StandsAt (s : ProgramState) : Type 0 where
    pub row : List (Cell I)
    pub naming : Naming
    pub before : row_before s.block s.at ≡ Some row
    pub stands_for : InGamma l n gamma flow naming row (state_of s)

  -- where a run goes on, the row there stands for its state; what it has violated is admitted
  pub record Covers (r : FlowRun) : Type 0 where
    pub here : (s : ProgramState) (found : List Violation) → r ≡ running s found → StandsAt s
    pub all : (v : Violation) → Contains (found_in r) v → Admits v.at v.rule

  -- the statement for a closed map of a unit's program: each of its runs is covered. It is not proved yet
  abbrev pub EachRunIsCovered : UnitView → Type 0
  EachRunIsCovered u = (draws : List ℤ) (steps : ℕ) → Covers (flow_steps (flow_view flow) steps (flow_begin u (flow_view flow) draws))
