use Rattle.cli.proofs.command.DefinedRuns.{runs_defined}
use Rattle.cli.proofs.theorems.answered_runs_are_defined.Goals as goal

pub returns : goal.returns
returns c = runs_defined c.typed_units_pass_looks.ensures c.looked_units_are_never_stuck.ensures
