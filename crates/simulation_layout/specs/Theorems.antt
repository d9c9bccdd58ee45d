-- What the theorems on programs with calls inlined say.
pub use Rattle.simulation_layout.specs.FunctionChecks.UnitParts.{FunctionsAreRegular}
pub use Rattle.simulation_layout.specs.FunctionChecks.LabelsOnce.{LabelsStandOnce, FunctionsAreLabelled}
pub use Rattle.simulation_layout.specs.FunctionChecks.NewObjects.{ScopesAreOwn, ScopesAreApart}
pub use Rattle.simulation_layout.specs.FunctionChecks.NamesThere.{NamesAreThere, SwitchesAreOnIntegers, TermsHaveRoom, PlacesHaveRoom}
pub use Rattle.simulation_layout.specs.InlinedLayout.LaidRuns.{LaidRunsAreTheSame}
pub use Rattle.simulation_layout.specs.InlinedRuns.InlinedRuns.{InlinedRunsAreTheSame, LoweredRunsAreTheSame}
pub use Rattle.simulation_layout.specs.JumpChecks.RegularJumps.{RegularJumpsStand}
pub use Rattle.simulation_layout.specs.Normalized.NormalizedRuns.{NormalizedRunsAreTheSame, NormalizedRunsReturnAlike}
pub use Rattle.simulation_layout.specs.Temporaries.LowPrograms.{WellFormedProgramsAreLow}
pub use Rattle.simulation_layout.specs.Temporaries.EntryLocals.{EntriesHaveLocals}
pub use Rattle.simulation_layout.specs.Units.CheckedRuns.{CheckedRunsAreTheSame}
