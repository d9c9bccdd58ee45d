use Rattle.cli.proofs.command.FoundRuns.{reports_hold}
use Rattle.cli.proofs.theorems.reports_hold_runs.Goals as goal

pub returns : goal.returns
returns c = λ files dirs model main s names diags report v violated. reports_hold c.judged_runs_are_found.ensures files dirs model main s names diags report v violated
