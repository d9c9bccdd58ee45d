use Rattle.cli.proofs.command.ToldReplays.{replays_stand}
use Rattle.cli.proofs.theorems.replays_stand_in_reports.Goals as goal

pub returns : goal.returns
returns c = λ seen command draws sink status is ok. replays_stand c.answered_runs_are_defined.ensures c.replays_are_told.ensures seen command draws sink status is ok
