use Rattle.std.proofs.Common.{arith}
use Rattle.json.specs.Lex.{tokens}
use Rattle.json.specs.Json.{value}
use Rattle.sarif.proofs.Streaming.{no_report_in}
use Rattle.sarif.proofs.baseline.read_text.Goals as goal

pub returns-in_err-report-clause-shape : goal.returns-in_err-report-clause-shape
returns-in_err-report-clause-shape c refused =
    no_report_in (value 127 (tokens c.args.text.now)) (rw c.in_ok-reader.ensures.ok at (c.read_report.ensures.shape (grind arith)))
