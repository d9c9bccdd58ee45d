-- What the theorems on certificates say.
use Rattle.std.specs.Prelude.{Some, ◌≡◌, ℤ, true, List}
use Rattle.certificate_text.specs.declared.lines.map_lines.MapLine.{MapLine}
use Rattle.certificate_text.specs.Lines.MapLines.{line_of, line_text}
use Rattle.certificate_theorems.specs.Lines.NearCells.{IsNearLine}
use Rattle.interval_domain.specs.Intervals.IntervalLattice.{interval_lattice}
use Rattle.interval_domain.specs.Intervals.IntervalNumbers.{interval_numbers}
use Rattle.transfer_system.specs.System.FlowMachines.{has_start}
use Rattle.transfer_system.specs.System.RegularPrograms.{is_regular}
use Rattle.row_bounds.specs.Edges.OwnLists.{ReachesTypes}
use Rattle.certificate_theorems.specs.Proved.AnalysedMaps.{InductiveMapsAreClosed}
use Rattle.certificate_theorems.specs.RoundTrip.ReadMaps.{OwnMapsAreReadBack}
use Rattle.cc_base.specs.declared.diagnostics.Diag.{Diag}
use Rattle.cfg.specs.declared.programs.Flow.{Flow}
use Rattle.analysis_sound.specs.Analyses.SoundAnalyses.{FindsEachPair}
use Rattle.certificate_text.specs.Lines.LineWords.{Bytes}
use Rattle.certificate_programs.specs.Programs.Certificates.{look_numbers, IsShown}
use Rattle.cc_base.specs.Lattices.{LatticeOf}
use Rattle.cc_base.specs.IntegerDomains.{IntegersOf}
use Rattle.certificate_theorems.specs.Sound.FittedRows.{FittedRowsStandForMore}
use Rattle.certificate_theorems.specs.Sound.CertifiedMaps.{ClosedMapsAreCarried, ClosedMapsBegin}
use Rattle.certificate_theorems.specs.Sound.SoundCertificates.{HoldsPairsOfUnits, HoldsPairsOfLowered, HoldsPairsOfChecked}
use Rattle.std.specs.Global.{Vec}
use Rattle.c_layout.specs.CheckedUnits.{UnitView}
use Rattle.memory_model.specs.Effects.Worlds.{Violation}
use Rattle.row_bounds.specs.Entries.CutStarts.{type_list}
use Rattle.certificate_theorems.specs.Sound.WorkedCertificates.{IsAcceptedBeyond}
pub use Rattle.certificate_theorems.specs.Proved.ProvedTexts.{CertificatesAreLeast, CertificatesAreAccepted, ProvedProgramsPass, NothingIsCut, CertificatesGiveAnalyses, CertificatesShowWhatIsFound}
pub use Rattle.certificate_theorems.specs.Reading.LineLaws.{LinesDecide, RefusedLinesBeginNoText}
pub use Rattle.certificate_theorems.specs.Verdicts.VerdictLaws.{AcceptsClosedMaps, HasOneVerdict, ReadsMapTexts}

abbrev pub LinesAreReadBack : Type 0
LinesAreReadBack = (line : MapLine) → IsNearLine line → line_of (line_text line) ≡ Some line

abbrev pub EachInductiveMapIsClosed : Type 0
EachInductiveMapIsClosed = (flow : Flow) (list : List ℤ) → is_regular flow list ≡ true → ReachesTypes list → has_start interval_lattice interval_numbers flow ≡ true → InductiveMapsAreClosed flow list

abbrev pub EachOwnMapIsReadBack : Type 0
EachOwnMapIsReadBack = (flow : Flow) → OwnMapsAreReadBack flow

abbrev pub AcceptedCertificatesHoldRuns : Type 0
AcceptedCertificatesHoldRuns = (flow : Flow) (text : Bytes) (found : List Diag) → IsShown flow text found → FindsEachPair flow look_numbers found

abbrev pub AcceptedCertificatesHoldUnits : Type 0
AcceptedCertificatesHoldUnits = (flow : Flow) (text : Bytes) (found : List Diag) → IsShown flow text found → HoldsPairsOfUnits flow found

abbrev pub AcceptedCertificatesHoldLowered : Type 0
AcceptedCertificatesHoldLowered = (flow : Flow) (text : Bytes) (found : List Diag) → IsShown flow text found → HoldsPairsOfLowered flow found

abbrev pub AcceptedCertificatesHoldChecked : Type 0
AcceptedCertificatesHoldChecked = (flow : Flow) (text : Bytes) (found : List Diag) → IsShown flow text found → HoldsPairsOfChecked flow found

abbrev pub PremisesCanBeMet : Type 0
PremisesCanBeMet = Flow → (flow : Flow) × (text : Bytes) × (found : Vec Diag) × (u : UnitView) × (v : Violation) × IsAcceptedBeyond flow type_list text found u v

module _ {I : Type 0} (l : LatticeOf I) (n : IntegersOf I) (stands : I → ℤ → Type 0) where
  abbrev pub FittedRowsStandForMoreEverywhere : Type 0
  FittedRowsStandForMoreEverywhere = (flow : Flow) (list : List ℤ) → FittedRowsStandForMore l n stands flow list

  abbrev pub ClosedMapsAreCarriedEverywhere : Type 0
  ClosedMapsAreCarriedEverywhere = (flow : Flow) (list : List ℤ) → ClosedMapsAreCarried l n stands flow list

  abbrev pub ClosedMapsBeginEverywhere : Type 0
  ClosedMapsBeginEverywhere = (flow : Flow) (list other : List ℤ) → ClosedMapsBegin l n stands flow list other
