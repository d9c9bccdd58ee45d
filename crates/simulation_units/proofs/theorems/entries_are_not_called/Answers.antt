use Rattle.simulation_units.proofs.calls.CountedCallees.{entry_not_called}
use Rattle.simulation_units.proofs.theorems.entries_are_not_called.Goals as goal

pub returns : goal.returns
returns c = entry_not_called
