use Rattle.cli.proofs.command.PlainRuns.{reports_hold_just}
use Rattle.cli.proofs.theorems.reports_hold_just_runs.Goals as goal

pub returns : goal.returns
returns c = λ files dirs model main s names diags report plain d there. reports_hold_just c.judged_pairs_are_violated.ensures files dirs model main s names diags report plain d there
