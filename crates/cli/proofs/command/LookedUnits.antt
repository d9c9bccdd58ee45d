-- Units that are typed from tokens, and looked at, pass the looks at their terms and scopes.
use Rattle.std.proofs.Common.{subst}
use Rattle.c_layout.specs.CheckedUnits.{unit_view}
use Rattle.c_layout.specs.DeclarationTrees.{unit_tree}
use Rattle.c_layout.specs.declared.data_model.Model.{Model}
use Rattle.c_parser.specs.Externals.{IsUnit}
use Rattle.c_types_well_formed_units.specs.Trees.ByteTokens.{TreesAreProper, TreesDeclareInBlocks}
use Rattle.c_types_well_formed_units.specs.Units.WellTypedUnits.{ChecksAreWellTyped}
use Rattle.c_types_well_formed_units.specs.ScopedUnits.ScopedChecks.{ChecksAreScoped}
use Rattle.c_types_well_formed_units.specs.Sizes.SmallChecks.{ChecksAreSmall}
use Rattle.cli.specs.Command.DefinedRuns.{TypedUnitsPassLooks}

pub typed_units_pass : TreesAreProper → TreesDeclareInBlocks → ChecksAreWellTyped → ChecksAreSmall → ChecksAreScoped → TypedUnitsPassLooks
typed_units_pass proper blocks well_typed small scoped unit s tree checked parsed typed looked regular =
    let is = subst (λ (m : Model). IsUnit m unit.tokens (unit_tree tree)) looked.model parsed in
    let bytes = proper s.model unit.tokens (unit_tree tree) looked.proper looked.bytes is in
    let fits = small s.model s.entry (unit_tree tree) (unit_view checked) looked.proper bytes typed.checks in
    record {
      well_typed = well_typed s.model s.entry (unit_tree tree) (unit_view checked) looked.proper bytes typed.checks regular fits;
      scoped = scoped s.model s.entry (unit_tree tree) (unit_view checked) (blocks s.model unit.tokens (unit_tree tree) is) typed.checks;
    }
