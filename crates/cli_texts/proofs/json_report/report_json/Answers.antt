use Rattle.std.proofs.Common.{◌∙◌, ap, map, string_bytes}
use Rattle.serde_json.specs.Written.{has_float}
use Rattle.cli_texts.proofs.Fractions.{report_is_whole}
use Rattle.cli_texts.proofs.json_report.report_json.Goals as goal

pub line_of-requires : goal.line_of-requires
line_of-requires c = ap has_float c.in_ok-report.ensures ∙ report_is_whole (map string_bytes c.args.files.now) c.args.unit.now c.args.diags.now
