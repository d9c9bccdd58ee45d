-- What the theorems on the runs that an analysis finds say.
use Rattle.std.specs.Prelude.{ℤ, List}
use Rattle.cc_base.specs.declared.diagnostics.Diag.{Diag}
use Rattle.cfg.specs.declared.programs.Flow.{Flow}
use Rattle.analysis_determined.specs.Analyses.{IsAnalysis}
use Rattle.analysis_sound.specs.Analyses.SoundAnalyses.{FindsEachPair}
use Rattle.analysis_sound.specs.Analyses.SoundParts.{CallsHaveSites, TextsLieOverCharacters, TestsAreProved, NoStepIsOpen}
use Rattle.cc_base.specs.Lattices.{LatticeOf}
use Rattle.cc_base.specs.IntegerDomains.{IntegersOf}
use Rattle.cc_base.specs.IntegerLaws.{SoundLaws}
use Rattle.analysis_sound.specs.Programs.OpenSteps.{CoversButForOpenSteps}
use Rattle.analysis_sound.specs.Units.SoundUnits.{FindsPairsOfUnits, FindsPairsOfLowered}
use Rattle.analysis_sound.specs.Units.CheckedUnits.{FindsPairsOfChecked}
use Rattle.c_layout.specs.CheckedUnits.{UnitView}
use Rattle.memory_model.specs.Effects.Worlds.{Violation}
use Rattle.transfer_sound.specs.CutStarts.{type_list}
use Rattle.analysis_sound.specs.Units.WorkedPrograms.{MeetsAllPremises, IsFoundIn}
pub use Rattle.analysis_sound.specs.Units.CheckedUnits.{FindsUnrolledPairsOfChecked}
pub use Rattle.analysis_sound.specs.Units.UnrolledSound.{FindsUnrolledPairs}

abbrev pub AnalysesFindEveryRun : Type 0
AnalysesFindEveryRun = (flow : Flow) (list : List ℤ) (found : List Diag) → IsAnalysis flow list found → FindsEachPair flow list found

abbrev pub CallsHaveSitesEverywhere : Type 0
CallsHaveSitesEverywhere = (flow : Flow) → CallsHaveSites flow

abbrev pub TextsLieOverCharactersEverywhere : Type 0
TextsLieOverCharactersEverywhere = (flow : Flow) → TextsLieOverCharacters flow

abbrev pub TestsAreProvedEverywhere : Type 0
TestsAreProvedEverywhere = (flow : Flow) → TestsAreProved flow

abbrev pub UnitRunsAreFound : Type 0
UnitRunsAreFound = (flow : Flow) (list : List ℤ) (found : List Diag) → IsAnalysis flow list found → FindsPairsOfUnits flow found

abbrev pub LoweredRunsAreFound : Type 0
LoweredRunsAreFound = (flow : Flow) (list : List ℤ) (found : List Diag) → IsAnalysis flow list found → FindsPairsOfLowered flow found

abbrev pub CheckedRunsAreFound : Type 0
CheckedRunsAreFound = (flow : Flow) (list : List ℤ) (found : List Diag) → IsAnalysis flow list found → FindsPairsOfChecked flow found

abbrev pub PremisesCanBeMet : Type 0
PremisesCanBeMet = Flow → (flow : Flow) × (u : UnitView) × MeetsAllPremises flow type_list u × (v : Violation) × IsFoundIn flow type_list u v

module _ {I : Type 0} (l : LatticeOf I) (n : IntegersOf I) (stands : I → ℤ → Type 0) where
  abbrev pub NoStepIsOpenAnywhere : Type 0
  NoStepIsOpenAnywhere = (flow : Flow) → NoStepIsOpen l n stands flow

  abbrev pub RunsAreCoveredButForOpenSteps : Type 0
  RunsAreCoveredButForOpenSteps = (flow : Flow) → SoundLaws l n stands → CoversButForOpenSteps l n stands flow
