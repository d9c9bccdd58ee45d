use Rattle.cli_units.proofs.Answered.{entry_place}
use Rattle.cli_units.proofs.unit_replays.entry_place.Goals as goal

pub returns-clause-place : goal.returns-clause-place
returns-clause-place c = entry_place _ _ _ c.in_ok-flow.ensures.lowered.lowers

pub returns-clause-lowered : goal.returns-clause-lowered
returns-clause-lowered c = (c.in_ok-flow.flow, c.in_ok-flow.ensures.lowered)
