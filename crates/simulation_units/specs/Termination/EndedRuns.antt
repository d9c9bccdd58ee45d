-- Runs of units whose programs have no loops come to an end.
use Rattle.std.specs.Prelude.{◌≡◌, ℕ, ℤ, false, List}
use Rattle.cc_base.specs.declared.limit_table.Limits.{Limits}
use Rattle.c_layout.specs.CheckedUnits.{UnitView}
use Rattle.cfg.specs.FlowSystems.{is_head_at}
use Rattle.cfg.specs.declared.programs.Flow.{Flow}
use Rattle.memory_model.specs.Effects.Worlds.{World, Why, Violation}
use Rattle.semantics.specs.SourceMachine.SourceRuns.{SourceRun, stopped, Run}
use Rattle.simulation_units.specs.Units.UnitRuns.{IsProgramOf}

-- a run has stopped
pub record HasStopped (r : SourceRun) : Type 0 where
  pub why : Why
  pub world : World
  pub found : List Violation
  pub steps : ℕ
  pub is : r ≡ stopped why world found steps

-- no edge enters a block from that block or a later one
abbrev pub HasNoLoops : Flow → Type 0
HasNoLoops program = (b : ℕ) → is_head_at program.blocks.items b ≡ false

-- whatever comes from the outside, the run of the unit stops after some turns
abbrev pub UnitsWithoutLoopsEnd : Type 0
UnitsWithoutLoopsEnd = (u : UnitView) (limits : Limits) (program : Flow) → IsProgramOf u limits program → HasNoLoops program → (draws : List ℤ) → (turns : ℕ) × HasStopped (Run u draws turns)
