use Rattle.std.proofs.Common.{◌≡◌, ◌++◌, drop, map, string_bytes}
use Rattle.serde_json.specs.View.{view}
use Rattle.sarif.specs.Reports.{results_data}
use Rattle.sarif.proofs.report.result_values.Given as goal

abbrev pub invariant-loop-at : goal.invariant-loop-at
invariant-loop-at l = map view l.values.items ++ results_data (map string_bytes l.files) (drop l.at l.diags) ≡ results_data (map string_bytes l.files) l.diags
