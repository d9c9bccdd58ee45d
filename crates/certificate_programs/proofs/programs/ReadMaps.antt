-- What is read of a text, as it is told of a program that was looked at.
use Rattle.std.specs.Prelude.{◌≡◌, true, List, Option, None}
use Rattle.std.proofs.Common.{subst, sym}
use Rattle.cc_base.specs.DiagnosticOrder.{IsOrderedSet}
use Rattle.cfg.specs.declared.programs.Flow.{Flow}
use Rattle.value_domain.specs.declared.values.row_cells.Cell.{Cell}
use Rattle.interval_domain.specs.declared.intervals.intervals.Interval.{Interval}
use Rattle.interval_domain.specs.Intervals.IntervalLattice.{interval_lattice}
use Rattle.interval_domain.specs.Intervals.IntervalNumbers.{interval_numbers}
use Rattle.diagnose.specs.Operands.TypedRows.{is_typed_map}
use Rattle.analysis.specs.Analyses.{admitted_pairs}
use Rattle.certificate_text.specs.Lines.LineWords.{Bytes}
use Rattle.certificate_check.specs.Reading.MapReading.{map_rows}
use Rattle.certificate_check.specs.declared.verdicts.verdicts.Verdict.TheVariants.{Yes}
use Rattle.certificate_check.specs.Verdicts.Verdicts.{IsVerdictOn}
use Rattle.certificate_programs.specs.declared.programs.checked_maps.Told.{Told}
use Rattle.certificate_programs.specs.Programs.Certificates.{IsLookedAt, IsShown, IsTyping}
use Rattle.certificate_programs.specs.Programs.ReadMaps.{IsToldOf}

abbrev Rows : Type 0
Rows = List (Option (List (Cell Interval)))

-- what is told of the rows of a map that was read
pub told_of : (flow : Flow) (text : Bytes) (rows : Rows) (told : Told) → IsVerdictOn flow text Yes → rows ≡ map_rows flow text → IsOrderedSet (admitted_pairs flow rows) told.found.items
    → (told.smaller ≡ None → is_typed_map interval_lattice interval_numbers flow rows ≡ true) → (is_typed_map interval_lattice interval_numbers flow rows ≡ true → told.smaller ≡ None) → IsToldOf flow text told
told_of flow text rows told accepted same pairs typed kept = record {
  accepted = accepted;
  pairs = subst (λ rs. IsOrderedSet (admitted_pairs flow rs) told.found.items) same pairs;
  typed = λ e. subst (λ rs. is_typed_map interval_lattice interval_numbers flow rs ≡ true) same (typed e);
  kept = λ e. kept (subst (λ rs. is_typed_map interval_lattice interval_numbers flow rs ≡ true) (sym same) e);
}

pub typing_of : (flow : Flow) (text : Bytes) (told : Told) → IsToldOf flow text told → told.smaller ≡ None → IsTyping flow text
typing_of flow text told h e = record { accepted = h.accepted; typed = h.typed e }

-- by the map itself, or by a smaller one
pub by_own : (flow : Flow) (text : Bytes) (told : Told) → IsLookedAt flow → IsToldOf flow text told → told.smaller ≡ None → IsShown flow text told.found.items
by_own flow text told look h e = record { accepted = h.accepted; pairs = h.pairs; looked_at = look; typing = text; typed = typing_of flow text told h e }

pub by_smaller : (flow : Flow) (text other : Bytes) (told : Told) → IsLookedAt flow → IsToldOf flow text told → IsTyping flow other → IsShown flow text told.found.items
by_smaller flow text other told look h typed = record { accepted = h.accepted; pairs = h.pairs; looked_at = look; typing = other; typed = typed }
