-- What the theorems on checked terms and statements say.
pub use Rattle.c_types_well_formed.specs.ConstantFolding.FoldingLaws.{FoldsAsComputed}
pub use Rattle.c_types_well_formed.specs.WellFormed.MadeLaws.{SwitchesSelect, OperatorsMake, ValuesAreMade, ConversionsGive, UnusedIsWellTyped}
pub use Rattle.c_types_well_formed.specs.Initializers.WellTypedInitializers.{InitializersAreWellTyped}
pub use Rattle.c_types_well_formed.specs.Initializers.WellTypedDeclarations.{DeclarationsAreWellTyped}
pub use Rattle.c_types_well_formed.specs.Layouts.LaidStructs.{ExpressionsLay, DeclaratorsLay, SpecifiersLay, StoresAreNear}
pub use Rattle.c_types_well_formed.specs.Statements.WellTypedBodies.{BodiesAreWellTyped}
pub use Rattle.c_types_well_formed.specs.Stores.StaticStores.{StaticStoresAreProper}
pub use Rattle.c_types_well_formed.specs.Terms.TermLaws.{RulesMakeExpressions, LengthsKeep}
pub use Rattle.c_types_well_formed.specs.WellFormed.TypingLaws.{ExpressionsKeep}
pub use Rattle.c_types_well_formed.specs.Types.TypeLaws.{SpecifiersKeep, DeclaratorsKeep, HeadsKeep}
