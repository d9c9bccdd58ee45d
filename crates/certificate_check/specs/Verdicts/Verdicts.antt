-- The verdict on the text of a map.
use Rattle.std.specs.Prelude.{◌≡◌, Bool, true, false, Option, Some, None, Result, Ok, Err}
use Rattle.cc_base.specs.Lattices.{LatticeOf}
use Rattle.cc_base.specs.Machine.{Machine}
use Rattle.cc_base.specs.declared.refusals.Memory.{Memory}
use Rattle.interval_domain.specs.declared.intervals.intervals.Interval.{Interval}
use Rattle.interval_domain.specs.Intervals.IntervalLattice.{interval_lattice}
use Rattle.interval_domain.specs.Intervals.IntervalNumbers.{interval_numbers}
use Rattle.value_domain.specs.declared.values.row_cells.Cell.{Cell}
use Rattle.value_domain.specs.Values.Cells.{cell_lattice}
use Rattle.cfg.specs.declared.programs.Flow.{Flow}
use Rattle.transfer_system.specs.System.FlowMachines.{flow_machine}
use Rattle.certificate_text.specs.Lines.LineWords.{Bytes}
use Rattle.certificate_check.specs.declared.closed_maps.closed_maps.MapFault.{MapFault}
use Rattle.certificate_check.specs.declared.closed_maps.closed_maps.MapFault.TheVariants as map_fault
use Rattle.certificate_check.specs.ClosedMaps.MapFaults.{IsFirstFault}
use Rattle.certificate_check.specs.Reading.GreatestRows.{cert_numbers}
use Rattle.certificate_check.specs.Reading.TextPlaces.{line_number}
use Rattle.certificate_check.specs.Reading.MapReading.{map_rows, map_reading, is_whole}
use Rattle.certificate_check.specs.declared.verdicts.verdicts.Verdict.{Verdict}
use Rattle.certificate_check.specs.declared.verdicts.verdicts.Verdict.TheVariants.{Yes, No}
use Rattle.certificate_check.specs.declared.verdicts.verdicts.CertFault.{CertFault}
use Rattle.certificate_check.specs.declared.verdicts.verdicts.CertFault.TheVariants.{Form, Start, Edge}

-- the lattice of a row's cells
abbrev pub cert_cells : LatticeOf (Cell Interval)
cert_cells = cell_lattice interval_lattice

-- the system of a program whose own rows are those that certificates can give
abbrev pub cert_machine : Flow → Machine (Cell Interval)
cert_machine flow = flow_machine interval_lattice interval_numbers flow cert_numbers

abbrev pub fault_of : MapFault → CertFault
fault_of map_fault.Start = Start
fault_of (map_fault.Edge e) = Edge e

abbrev pub is_yes : Result Verdict Memory → Bool
is_yes (Ok Yes) = true
is_yes (Ok (No fault)) = false
is_yes (Err e) = false

-- the text is that of a map of own rows with this first fault, or none
abbrev pub IsOfForm : Flow → Bytes → Option MapFault → Type 0
IsOfForm flow text fault = (is_whole text (map_reading flow text) ≡ true) × IsFirstFault cert_cells (cert_machine flow) (map_rows flow text) fault

-- the text is refused for this
abbrev pub IsRefusedFor : Flow → Bytes → CertFault → Type 0
IsRefusedFor flow text (Form n) = (is_whole text (map_reading flow text) ≡ false) × (n ≡ line_number text (map_reading flow text).at)
IsRefusedFor flow text Start = IsOfForm flow text (Some map_fault.Start)
IsRefusedFor flow text (Edge e) = IsOfForm flow text (Some (map_fault.Edge e))

-- the verdict of a program on a text
abbrev pub IsVerdictOn : Flow → Bytes → Verdict → Type 0
IsVerdictOn flow text Yes = IsOfForm flow text None
IsVerdictOn flow text (No fault) = IsRefusedFor flow text fault
