use Rattle.c_types_well_formed_units.proofs.scoped_bodies.Stated.{items_scoped}
use Rattle.c_types_well_formed_units.proofs.theorems.bodies_are_scoped.Goals as goal

pub returns : goal.returns
returns c = items_scoped
