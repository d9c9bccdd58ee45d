use Rattle.c_types_well_formed_units.proofs.scoped_units.Units.{checks_are_scoped}
use Rattle.c_types_well_formed_units.proofs.theorems.checks_are_scoped.Goals as goal

pub returns : goal.returns
returns c = checks_are_scoped
