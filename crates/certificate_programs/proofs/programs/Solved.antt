-- The text of a map that was found is a certificate.
use Rattle.std.specs.Prelude.{◌≡◌, ℤ, true, List, Option, Result, Ok, Err, IfOk}
use Rattle.cfg.specs.declared.programs.Flow.{Flow}
use Rattle.value_domain.specs.declared.values.row_cells.Cell.{Cell}
use Rattle.interval_domain.specs.declared.intervals.intervals.Interval.{Interval}
use Rattle.interval_domain.specs.Intervals.IntervalLattice.{interval_lattice}
use Rattle.interval_domain.specs.Intervals.IntervalNumbers.{interval_numbers}
use Rattle.transfer_system.specs.System.FlowMachines.{has_start}
use Rattle.transfer_system.specs.System.RegularPrograms.{is_regular}
use Rattle.diagnose.specs.Operands.TypedRows.{is_typed_map}
use Rattle.analysis.specs.CheckedPrograms.{IsChecked}
use Rattle.analysis.proofs.SolvedMaps.{IsSolved}
use Rattle.certificate_text.specs.Lines.LineWords.{Bytes}
use Rattle.certificate_text.specs.Maps.MapTexts.{text_of_map}
use Rattle.certificate_programs.specs.Programs.Certificates.{IsCertificate}

module _ (flow : Flow) (list : List ℤ) (rows : List (Option (List (Cell Interval)))) (start : has_start interval_lattice interval_numbers flow ≡ true) (regular : is_regular flow list ≡ true) (checked : IsChecked flow list) (s : IsSolved flow list rows) where
  certificate_of : (text : Bytes) → is_typed_map interval_lattice interval_numbers flow rows ≡ true → text ≡ text_of_map flow rows → IsCertificate flow list text
  certificate_of text typed is = record {
    rows = rows;
    started = start;
    regular = regular;
    checked = checked;
    inductive = s.inductive;
    least = s.least;
    typed = typed;
    is_text = is;
  }

  pub certified : {V E : Type 0} (items : V → Bytes) (result : Result V E) → IfOk result (λ v. is_typed_map interval_lattice interval_numbers flow rows ≡ true) → IfOk result (λ v. items v ≡ text_of_map flow rows) → IfOk result (λ v. IsCertificate flow list (items v))
  certified items (Ok v) typed is = certificate_of (items v) typed is
  certified items (Err e) typed is = tt
