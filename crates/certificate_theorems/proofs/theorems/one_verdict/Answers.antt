use Rattle.certificate_theorems.proofs.verdicts.VerdictProofs.{one_verdict_alone}
use Rattle.certificate_theorems.proofs.theorems.one_verdict.Goals as goal

pub returns : goal.returns
returns c = one_verdict_alone
