use Rattle.simulation_layout.specs.Normalized.NormalizedRuns.{NamesNothing}
use Rattle.simulation_units.proofs.returns.Reached.{returns_simulated}
use Rattle.simulation_units.proofs.theorems.returns_are_simulated.Goals as goal

pub returns : goal.returns
returns c = λ t all start draws ends j. returns_simulated t all start draws NamesNothing ends j
