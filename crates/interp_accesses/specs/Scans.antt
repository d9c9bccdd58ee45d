-- What scans of strings of a program are to the machines.
use Rattle.std.specs.Prelude.{ℕ, zero, suc, ◌+◌}
use Rattle.memory_model.specs.Memory.Bytes.{Content, indeterminate, number, part}
use Rattle.memory_model.specs.Effects.LibraryChecks.{Scanned, ends, unended, broken, one_further}
use Rattle.interp_accesses.specs.declared.string_scans.Scan.{Scan}
use Rattle.interp_accesses.specs.declared.string_scans.Scan.TheVariants as scan

abbrev pub scan_view : Scan → Scanned
scan_view (scan.Ends n) = ends n
scan_view scan.Unended = unended
scan_view scan.Broken = broken

-- what a scan comes to behind so many characters
abbrev pub behind_characters : ℕ → Scanned → Scanned
behind_characters k (ends n) = ends (k + n)
behind_characters k unended = unended
behind_characters k broken = broken

-- a content before what is scanned later
abbrev pub scan_step : Content → Scanned → Scanned
scan_step indeterminate later = unended
scan_step (number zero labels) later = ends 0
scan_step (number (suc n) labels) later = one_further later
scan_step (part p k) later = broken
