-- Certificates of control-flow programs.
use Rattle.std.specs.Prelude.{◌≡◌, ◌-◌, ◌^◌, ℤ, pos, negsuc, true, List, [], ◌∷◌, Option}
use Rattle.cc_base.specs.DiagnosticOrder.{IsOrderedSet}
use Rattle.cc_base.specs.InductiveMap.{IsInductive, IsLeast}
use Rattle.cc_base.specs.Machine.{IsMonotone}
use Rattle.cc_base.specs.declared.diagnostics.Diag.{Diag}
use Rattle.cfg.specs.declared.programs.Flow.{Flow}
use Rattle.value_domain.specs.declared.values.row_cells.Cell.{Cell}
use Rattle.interval_domain.specs.declared.intervals.intervals.Interval.{Interval}
use Rattle.interval_domain.specs.Intervals.IntervalLattice.{interval_lattice}
use Rattle.interval_domain.specs.Intervals.IntervalNumbers.{interval_numbers}
use Rattle.transfer_system.specs.System.FlowMachines.{has_start}
use Rattle.transfer_system.specs.System.RegularPrograms.{is_regular}
use Rattle.diagnose.specs.Operands.TypedRows.{is_typed_map}
use Rattle.analysis.specs.Analyses.{row_lattice, machine_of, admitted_pairs}
use Rattle.analysis.specs.CheckedPrograms.{IsChecked}
use Rattle.certificate_text.specs.Lines.LineWords.{Bytes}
use Rattle.certificate_text.specs.Maps.MapTexts.{text_of_map}
use Rattle.certificate_check.specs.Reading.MapReading.{map_rows}
use Rattle.certificate_check.specs.declared.verdicts.verdicts.Verdict.TheVariants.{Yes, No}
use Rattle.certificate_check.specs.Verdicts.Verdicts.{IsVerdictOn}
use Rattle.certificate_programs.specs.declared.programs.checked_maps.Verified.{Verified}
use Rattle.certificate_programs.specs.declared.programs.checked_maps.Verified.TheVariants.{Found, Refused}

-- the text is that of an inductive map of the program, with bounds rounded to the numbers of a list at heads; it is the
-- least such map where the system is monotone; the program is such as soundness asks, and by the rows of the map operands
-- lie within the types that instructions name
pub record IsCertificate (flow : Flow) (list : List ℤ) (text : Bytes) : Type 0 where
  pub rows : List (Option (List (Cell Interval)))
  -- there is a row of the entry, and rows of the program are cut in order
  pub started : has_start interval_lattice interval_numbers flow ≡ true
  pub regular : is_regular flow list ≡ true
  -- what soundness asks beside that
  pub checked : IsChecked flow list
  pub inductive : IsInductive row_lattice (machine_of flow list) rows
  pub least : IsMonotone row_lattice (machine_of flow list) → IsLeast row_lattice (machine_of flow list) rows
  pub typed : is_typed_map interval_lattice interval_numbers flow rows ≡ true
  pub is_text : text ≡ text_of_map flow rows

-- the text is that of a closed map by whose rows operands lie within the types that instructions name
pub record IsTyping (flow : Flow) (text : Bytes) : Type 0 where
  pub accepted : IsVerdictOn flow text Yes
  pub typed : is_typed_map interval_lattice interval_numbers flow (map_rows flow text) ≡ true

-- the ends of the bounds of certificates, and 0
abbrev pub look_numbers : List ℤ
look_numbers = negsuc (2 ^ 64 - 1) ∷ (pos 0 ∷ (pos (2 ^ 64) ∷ []))

-- the program is such as soundness asks beside its operands
pub record IsLookedAt (flow : Flow) : Type 0 where
  pub started : has_start interval_lattice interval_numbers flow ≡ true
  pub regular : is_regular flow look_numbers ≡ true
  pub checked : IsChecked flow look_numbers

-- the text is that of a closed map, which admits just these pairs, in order and each once; the program was looked
-- at, and by some closed map, maybe a smaller one, its operands lie within their types
pub record IsShown (flow : Flow) (text : Bytes) (found : List Diag) : Type 0 where
  pub accepted : IsVerdictOn flow text Yes
  pub pairs : IsOrderedSet (admitted_pairs flow (map_rows flow text)) found
  pub looked_at : IsLookedAt flow
  pub typing : Bytes
  pub typed : IsTyping flow typing

-- what a text comes to for a program: the pairs that its map admits where it is closed; else why it is refused
abbrev pub IsVerified : Flow → Bytes → Verified → Type 0
IsVerified flow text (Found found) = IsShown flow text found.items
IsVerified flow text (Refused fault) = IsVerdictOn flow text (No fault)
