use Rattle.cli.proofs.command.FoundRuns.{judged_runs}
use Rattle.cli.proofs.theorems.judged_runs_are_found.Goals as goal

pub returns : goal.returns
returns c = judged_runs c.looked_runs_are_program_runs.ensures c.typed_units_pass_looks.ensures c.checked_runs_are_found.ensures.runs c.checked_runs_are_found.ensures.turned
