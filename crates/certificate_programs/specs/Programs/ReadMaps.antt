-- What is read of the text of a map, before it is told.
use Rattle.std.specs.Prelude.{◌≡◌, true, None}
use Rattle.cc_base.specs.DiagnosticOrder.{IsOrderedSet}
use Rattle.cfg.specs.declared.programs.Flow.{Flow}
use Rattle.interval_domain.specs.Intervals.IntervalLattice.{interval_lattice}
use Rattle.interval_domain.specs.Intervals.IntervalNumbers.{interval_numbers}
use Rattle.diagnose.specs.Operands.TypedRows.{is_typed_map}
use Rattle.analysis.specs.Analyses.{admitted_pairs}
use Rattle.certificate_text.specs.Lines.LineWords.{Bytes}
use Rattle.certificate_check.specs.Reading.MapReading.{map_rows}
use Rattle.certificate_check.specs.declared.verdicts.verdicts.Verdict.TheVariants.{Yes, No}
use Rattle.certificate_check.specs.Verdicts.Verdicts.{IsVerdictOn}
use Rattle.certificate_programs.specs.declared.programs.checked_maps.Reading.{Reading}
use Rattle.certificate_programs.specs.declared.programs.checked_maps.Reading.TheVariants as reading
use Rattle.certificate_programs.specs.declared.programs.checked_maps.Told.{Told}

-- the text is that of a closed map with these pairs, by which operands lie within their types just where no smaller
-- map is asked
pub record IsToldOf (flow : Flow) (text : Bytes) (told : Told) : Type 0 where
  pub accepted : IsVerdictOn flow text Yes
  pub pairs : IsOrderedSet (admitted_pairs flow (map_rows flow text)) told.found.items
  pub typed : told.smaller ≡ None → is_typed_map interval_lattice interval_numbers flow (map_rows flow text) ≡ true
  pub kept : is_typed_map interval_lattice interval_numbers flow (map_rows flow text) ≡ true → told.smaller ≡ None

abbrev pub IsRead : Flow → Bytes → Reading → Type 0
IsRead flow text (reading.Closed told) = IsToldOf flow text told
IsRead flow text (reading.Refused fault) = IsVerdictOn flow text (No fault)
