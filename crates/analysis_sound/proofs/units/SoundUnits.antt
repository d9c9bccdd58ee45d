-- The row of the entry stands for the start of each run of a unit, so an analysis holds each pair.
use Rattle.std.specs.Prelude.{ℤ, List}
use Rattle.cc_base.specs.declared.diagnostics.Diag.{Diag}
use Rattle.cfg.specs.declared.programs.Flow.{Flow}
use Rattle.analysis_determined.specs.Analyses.{IsAnalysis}
use Rattle.analysis_sound.proofs.analyses.FoundRuns.{finds_each_pair}
use Rattle.entry_sound.proofs.entries.EntryRows.{entry_stands}
use Rattle.entry_sound.proofs.lowered.LoweredStarts.{lowered_starts}
use Rattle.analysis_sound.specs.Units.SoundUnits.{FindsPairsOfUnits, FindsPairsOfLowered}

module _ (flow : Flow) (list : List ℤ) (found : List Diag) (a : IsAnalysis flow list found) where
  pub units_found : FindsPairsOfUnits flow found
  units_found u starts v there = finds_each_pair flow list found a u (entry_stands flow list a.regular a.checked.reaches a.started u starts) v there

  pub lowered_found : FindsPairsOfLowered flow found
  lowered_found u limits is initializers integers = units_found u (lowered_starts u limits flow is initializers integers)
