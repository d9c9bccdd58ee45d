use Rattle.std.proofs.Common.{◌∙◌, ap, map, string_bytes}
use Rattle.serde_json.specs.Written.{has_float}
use Rattle.sarif.specs.Reports.{report_data}
use Rattle.sarif.proofs.Fractions.{report_is_whole}
use Rattle.sarif.proofs.report.write_sarif.Goals as goal

pub line_of-requires : goal.line_of-requires
line_of-requires c =
    ap has_float (c.in_ok-report.ensures ∙ ap report_data c.in_ok-results.ensures) ∙ report_is_whole (map string_bytes c.args.files.now) c.args.diags.now
