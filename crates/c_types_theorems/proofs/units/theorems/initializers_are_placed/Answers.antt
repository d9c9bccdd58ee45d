use Rattle.c_types_theorems.proofs.units.Units.{initializers_placed}
use Rattle.c_types_theorems.proofs.units.theorems.initializers_are_placed.Goals as goal

pub returns : goal.returns
returns c = initializers_placed
