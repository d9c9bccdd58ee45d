-- What answers tell, by what the words ask for.
use Rattle.std.proofs.Common.{◌≡◌, ℕ, subst}
use Rattle.c_preproc.specs.Causes.{Seen}
use Rattle.cli_words.specs.Words.Requests.{Asked}
use Rattle.cli_answers.specs.Outcomes.{Took, Answers}
use Rattle.cli.specs.Command.AnsweredRuns.{AnswersHoldRuns}
use Rattle.cli.specs.Command.GatedRuns.{GatesHoldRuns}
use Rattle.cli.specs.Command.VerifiedRuns.{VerifiedHoldRuns}
use Rattle.cli.specs.Command.ToldReplays.{ReplaysStandInReports}
use Rattle.cli.specs.Command.Clauses.{RunsAreTold, FreshRunsAreTold, VerifiedRunsAreTold, ReplayIsTold}

module _ (seen : Seen) (words : Asked) (sink : Took) (status : ℕ) (is : Answers seen words sink status) where
  asking : (w : Asked) → words ≡ w → Answers seen w sink status
  asking w asks = subst (λ (w : Asked). Answers seen w sink status) asks is

  pub runs_told : AnswersHoldRuns → RunsAreTold seen words sink status
  runs_told holds c asks ok = holds seen c sink status (asking _ asks) ok

  pub fresh_told : GatesHoldRuns → FreshRunsAreTold seen words sink status
  fresh_told holds c base asks ok = holds seen c base sink status (asking _ asks) ok

  pub verified_told : VerifiedHoldRuns → VerifiedRunsAreTold seen words sink status
  verified_told holds c cert asks ok = holds seen c cert sink status (asking _ asks) ok

  pub replay_told : ReplaysStandInReports → ReplayIsTold seen words sink status
  replay_told holds c draws asks ok = holds seen c draws sink status (asking _ asks) ok
