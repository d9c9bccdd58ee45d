use Rattle.c_types_well_formed.proofs.statements.Bodies.{bodies_are_well_typed}
use Rattle.c_types_well_formed.proofs.theorems.bodies_are_well_typed.Goals as goal

pub returns : goal.returns
returns c = bodies_are_well_typed
