use Rattle.c_types_well_formed.proofs.initializers.Initializing.{initializer_goes}
use Rattle.c_types_well_formed.proofs.theorems.initializers_are_well_typed.Goals as goal

pub returns : goal.returns
returns c = initializer_goes
