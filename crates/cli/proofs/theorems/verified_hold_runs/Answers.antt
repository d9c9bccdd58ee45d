use Rattle.cli.proofs.command.VerifiedRuns.{verified_hold}
use Rattle.cli.proofs.theorems.verified_hold_runs.Goals as goal

pub returns : goal.returns
returns c = λ seen command cert sink status is ok. verified_hold c.answered_runs_are_defined.ensures c.certificates_hold_runs.ensures seen command cert sink status is ok
