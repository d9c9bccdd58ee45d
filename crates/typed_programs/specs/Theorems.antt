-- What the theorems on typed programs say.
pub use Rattle.typed_programs.specs.Types.StandingTypes.{TypesStandInThemselves, StandingIsTransitive, ElementsStand, MembersStand}
pub use Rattle.typed_programs.specs.Types.CopyLaws.{StructuresAreApart}
pub use Rattle.typed_programs.specs.Types.LeafTypes.{ScalarsAreLeaves, LeavesAreScalars}
pub use Rattle.typed_programs.specs.Leaves.StructureLeaves.{StructuresHaveLeaves}
pub use Rattle.typed_programs.specs.Types.EffectLaws.{NarrowsAreTyped, ShiftsAreTyped, LoadsAreTyped, StoresKeepTypes, CopiesKeepTypes, EntersKeepTypes, LeavesKeepTypes, ForgetsKeepTypes, ClearsKeepTypes, SpellsKeepTypes, TestsKeepTypes, CasesKeepTypes, StartsAreTyped}
pub use Rattle.typed_programs.specs.PlainTemplates.LeadingTemplates.{TemplatesLeadOn}
pub use Rattle.typed_programs.specs.Runs.TypedRuns.{TypedProgramsHaveTypedAccesses}
