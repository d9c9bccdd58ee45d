-- A certificate that is accepted, of a program that has an analysis.
use Rattle.std.specs.Prelude.{◌≡◌, ℤ, false, List, Some}
use Rattle.std.specs.Global.{Vec}
use Rattle.cc_base.specs.InductiveMap.{row_at}
use Rattle.cc_base.specs.declared.diagnostics.Diag.{Diag}
use Rattle.c_layout.specs.CheckedUnits.{UnitView}
use Rattle.cfg.specs.declared.programs.Flow.{Flow}
use Rattle.interval_domain.specs.declared.intervals.intervals.Interval.{Interval}
use Rattle.value_domain.specs.declared.values.row_cells.Cell.{Cell}
use Rattle.analysis_determined.specs.Analyses.{machine_of, IsAnalysis}
use Rattle.memory_model.specs.Effects.Worlds.{Violation}
use Rattle.certificate_text.specs.Lines.LineWords.{Bytes}
use Rattle.certificate_check.specs.Reading.MapReading.{map_rows}
use Rattle.certificate_programs.specs.Programs.Certificates.{IsVerified}
use Rattle.certificate_programs.specs.declared.programs.checked_maps.Verified.TheVariants.{Found}
use Rattle.analysis_sound.specs.Analyses.SoundAnalyses.{IsViolatedIn}
use Rattle.entry_sound.specs.Tables.UnitStarts.{StartsAs}

-- what is found is what an analysis finds, the unit has a run with the violation, and the text is accepted with a row that
-- is none of the analysis's system
pub record IsAcceptedBeyond (flow : Flow) (list : List ℤ) (text : Bytes) (found : Vec Diag) (u : UnitView) (v : Violation) : Type 0 where
  pub analysed : IsAnalysis flow list found.items
  pub verified : IsVerified flow text (Found found)
  pub starts : StartsAs u flow
  pub violated : IsViolatedIn flow u v
  pub row : List (Cell Interval)
  pub has : row_at (map_rows flow text) 0 ≡ Some row
  pub beyond : (machine_of flow list).own row ≡ false
