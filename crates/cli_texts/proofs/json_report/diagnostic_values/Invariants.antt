use Rattle.std.proofs.Common.{◌≡◌, ◌++◌, drop, map, string_bytes}
use Rattle.serde_json.specs.View.{view}
use Rattle.cli_texts.specs.JsonReports.{diagnostics_data}
use Rattle.cli_texts.proofs.json_report.diagnostic_values.Given as goal

abbrev pub invariant-loop-at : goal.invariant-loop-at
invariant-loop-at l = map view l.values.items ++ diagnostics_data (map string_bytes l.files) l.unit (drop l.at l.diags) ≡ diagnostics_data (map string_bytes l.files) l.unit l.diags
