-- When what an analysis finds holds each pair that a run violates.
use Rattle.std.specs.Prelude.{ℕ, ℤ, List}
use Rattle.std.specs.List.{Contains}
use Rattle.cc_base.specs.declared.diagnostics.Diag.{Diag}
use Rattle.c_layout.specs.CheckedUnits.{UnitView}
use Rattle.cfg.specs.declared.programs.Flow.{Flow}
use Rattle.interval_domain.specs.Intervals.Spans.{Stands}
use Rattle.interval_domain.specs.Intervals.IntervalLattice.{interval_lattice}
use Rattle.interval_domain.specs.Intervals.IntervalNumbers.{interval_numbers}
use Rattle.memory_model.specs.Effects.Worlds.{Violation}
use Rattle.lower_templates.specs.Views.ProgramViews.{flow_view}
use Rattle.semantics.specs.CfgMachine.FlowStates.{found_in}
use Rattle.semantics.specs.CfgMachine.FlowSteps.{flow_steps}
use Rattle.semantics.specs.CfgMachine.FlowStarts.{flow_begin}
use Rattle.transfer_sound.specs.OwnLists.{ReachesTypes}
use Rattle.transfer_sound.specs.Values.SoundSteps.{AreSound}
use Rattle.transfer_sound.specs.InvariantMaps.CarriedMaps.{EntryInGamma}
use Rattle.transfer_sound.specs.Induction.SoundEnds.{IsDoneIn}
use Rattle.analysis_sound.specs.Programs.OpenSteps.{IsOpenStep, SpellsOverCharacters, AllocatesAtSites, CopiesListed, OpenTestsAreSound}

-- what the theorems on single instructions and edges suppose of a program and of a list
pub record Suffices (flow : Flow) (list : List ℤ) : Type 0 where
  pub reaches : ReachesTypes list
  pub texts : SpellsOverCharacters flow
  pub sites : AllocatesAtSites flow
  pub copies : CopiesListed flow
  pub steps : AreSound interval_lattice interval_numbers Stands flow (λ o. IsOpenStep o × IsDoneIn flow o)
  pub tests : OpenTestsAreSound interval_lattice interval_numbers Stands flow

-- a pair that a run of the program violates, under some numbers of the outside, after some steps
pub record IsViolatedIn (flow : Flow) (u : UnitView) (v : Violation) : Type 0 where
  pub draws : List ℤ
  pub steps : ℕ
  pub there : Contains (found_in (flow_steps (flow_view flow) steps (flow_begin u (flow_view flow) draws))) v

-- each pair that a run of a unit by this program violates is found, where the row of the entry stands for the start of
-- the unit
abbrev pub FindsEachPair : Flow → List ℤ → List Diag → Type 0
FindsEachPair flow list found = (u : UnitView) → EntryInGamma interval_lattice interval_numbers Stands flow list u
    → (v : Violation) → IsViolatedIn flow u v → Contains found (record { place = v.at; rule = v.rule })
