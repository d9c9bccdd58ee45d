use Rattle.cli.proofs.verified.VerifiedRuns.{verified_hold_just}
use Rattle.cli.proofs.theorems.verified_hold_just_runs.Goals as goal

pub returns : goal.returns
returns c = λ seen command cert sink status h told. verified_hold_just c.proved_texts_show_just_runs.ensures seen command cert sink status h told
