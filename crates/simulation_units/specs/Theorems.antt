-- What the theorems on runs of units say.
pub use Rattle.simulation_units.specs.Calls.ReachedCalls.{EntriesAreNotCalled}
pub use Rattle.simulation_units.specs.CheckedUnits.LookedRuns.{LookedUnitsAreNeverStuck, LookedRunsAreProgramRuns}
pub use Rattle.simulation_units.specs.Preconditions.RegularFunctions.{RegularFunctionsSuit}
pub use Rattle.simulation_units.specs.Returns.QuietTurns.{QuietTurnsEnd}
pub use Rattle.simulation_units.specs.Returns.Returns.{ReturnsAreSimulated}
pub use Rattle.simulation_units.specs.Termination.EndedRuns.{UnitsWithoutLoopsEnd}
pub use Rattle.simulation_units.specs.Units.UnitRuns.{UnitRunsAreProgramRuns}
