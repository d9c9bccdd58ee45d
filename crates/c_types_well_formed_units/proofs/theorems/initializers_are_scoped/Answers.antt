use Rattle.c_types_well_formed_units.proofs.scoped.Filled.{initializer_yields}
use Rattle.c_types_well_formed_units.proofs.theorems.initializers_are_scoped.Goals as goal

pub returns : goal.returns
returns c = initializer_yields
