use Rattle.std.proofs.Common.{◌∙◌}
use Rattle.std.proofs.lemmas.Result.{MatchResult-weaker}
use Rattle.sarif.proofs.Values.{utf8_tested}
use Rattle.sarif.proofs.uris.is_utf8.Goals as goal

pub returns : goal.returns
returns c = c.is_ok.ensures.value ∙ utf8_tested _ c.args.bytes.now (MatchResult-weaker c.from_utf8.result c.from_utf8.ensures.cases (λ s h. h.1) (λ e h. h.0))
