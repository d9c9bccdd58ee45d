-- What the theorems on checked units say.
pub use Rattle.c_types_well_formed_units.specs.Heads.HeadLaws.{UnitsHaveHeads}
pub use Rattle.c_types_well_formed_units.specs.Parameters.BodyObjects.{HeadsMakeObjects, BodiesKeepTypes}
pub use Rattle.c_types_well_formed_units.specs.Scoped.ScopedLaws.{ExpressionsAreScoped, InitializersAreScoped}
pub use Rattle.c_types_well_formed_units.specs.ScopedBodies.ScopedBodies.{BodiesAreScoped}
pub use Rattle.c_types_well_formed_units.specs.ScopedUnits.ScopedChecks.{ChecksAreScoped}
pub use Rattle.c_types_well_formed_units.specs.Sizes.SmallChecks.{ChecksAreSmall}
pub use Rattle.c_types_well_formed_units.specs.Trees.ByteTokens.{TreesAreProper, TreesDeclareInBlocks}
pub use Rattle.c_types_well_formed_units.specs.Units.WellTypedUnits.{ChecksAreWellTyped}
