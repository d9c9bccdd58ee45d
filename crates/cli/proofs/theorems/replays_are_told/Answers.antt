use Rattle.cli.proofs.command.ReplayedRuns.{replays_told}
use Rattle.cli.proofs.theorems.replays_are_told.Goals as goal

pub returns : goal.returns
returns c = replays_told c.one_parse.ensures.checked c.judged_runs_are_found.ensures
