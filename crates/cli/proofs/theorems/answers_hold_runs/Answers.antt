use Rattle.cli.proofs.command.AnsweredRuns.{answers_hold}
use Rattle.cli.proofs.theorems.answers_hold_runs.Goals as goal

pub returns : goal.returns
returns c = λ seen command sink status is ok. answers_hold c.answered_runs_are_defined.ensures c.reports_hold_runs.ensures c.reports_hold_just_runs.ensures seen command sink status is ok
