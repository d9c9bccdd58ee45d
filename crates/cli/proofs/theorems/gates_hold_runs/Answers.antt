use Rattle.cli.proofs.command.GatedRuns.{gates_hold}
use Rattle.cli.proofs.theorems.gates_hold_runs.Goals as goal

pub returns : goal.returns
returns c = λ seen command base sink status is ok. gates_hold c.answered_runs_are_defined.ensures c.reports_hold_runs.ensures c.reports_hold_just_runs.ensures seen command base sink status is ok
