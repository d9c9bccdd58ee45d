use Rattle.std.proofs.Common.{inr}
use Rattle.std.proofs.lemmas.Result.{IfOk-weaker}
use Rattle.cli_answers.proofs.certificate_decision.proved.Goals as goal

pub returns-in-Ok-clause-called : goal.returns-in-Ok-clause-called
returns-in-Ok-clause-called c =
    IfOk-weaker c.with_text.result _ _ (λ a h. inr (record { cert = c.in-Ok.cert.items; proved = rw c.as_str.ensures.value at c.in-Ok.ensures.proved; answers = rw c.as_str-name.ensures.value at h })) c.with_text.ensures.called
