use Rattle.c_types_well_formed_units.proofs.parameters.Heads.{bodies_keep_types}
use Rattle.c_types_well_formed_units.proofs.theorems.bodies_keep_types.Goals as goal

pub returns : goal.returns
returns c = bodies_keep_types
