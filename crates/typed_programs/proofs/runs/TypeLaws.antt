-- The laws of types and of effects that runs of typed programs rest on, together.
use Rattle.typed_programs.specs.Types.StandingTypes.{TypesStandInThemselves, StandingIsTransitive, ElementsStand}
use Rattle.typed_programs.specs.Types.LeafTypes.{ScalarsAreLeaves}
use Rattle.typed_programs.specs.Types.EffectLaws.{NarrowsAreTyped, ShiftsAreTyped, LoadsAreTyped, StoresKeepTypes, CopiesKeepTypes, EntersKeepTypes, LeavesKeepTypes, ForgetsKeepTypes, ClearsKeepTypes, SpellsKeepTypes, TestsKeepTypes, CasesKeepTypes, StartsAreTyped}
use Rattle.typed_programs.specs.Types.CopyLaws.{StructuresAreApart}
use Rattle.typed_programs.specs.Leaves.StructureLeaves.{StructuresHaveLeaves}

pub record TypeLaws : Type 0 where
  pub themselves : TypesStandInThemselves
  pub transitive : StandingIsTransitive
  pub elements : ElementsStand
  pub scalars : ScalarsAreLeaves
  pub apart : StructuresAreApart
  pub structures : StructuresHaveLeaves
  pub narrows : NarrowsAreTyped
  pub shifts : ShiftsAreTyped
  pub loads : LoadsAreTyped
  pub stores : StoresKeepTypes
  pub copies : CopiesKeepTypes
  pub enters : EntersKeepTypes
  pub leaves : LeavesKeepTypes
  pub forgets : ForgetsKeepTypes
  pub clears : ClearsKeepTypes
  pub spells : SpellsKeepTypes
  pub tests : TestsKeepTypes
  pub cases : CasesKeepTypes
  pub starts : StartsAreTyped
