use Rattle.std.proofs.Common.{◌≡◌, ◌++◌, drop, map, string_bytes}
use Rattle.cli_texts.specs.Reports.{lines_of}
use Rattle.cli_texts.proofs.text_report.diagnostic_lines.Given as goal

abbrev pub invariant-loop-at : goal.invariant-loop-at
invariant-loop-at l = l.text.items ++ lines_of (map string_bytes l.files) l.unit (drop l.at l.diags) ≡ lines_of (map string_bytes l.files) l.unit l.diags
