use Rattle.simulation_units.proofs.checked_units.LookedRuns.{never_stuck}
use Rattle.simulation_units.proofs.theorems.looked_units_are_never_stuck.Goals as goal

pub returns : goal.returns
returns c = never_stuck c.looks_mark.ensures c.looks_scope.ensures c.looks_stand.ensures c.runs_are_never_stuck.ensures
