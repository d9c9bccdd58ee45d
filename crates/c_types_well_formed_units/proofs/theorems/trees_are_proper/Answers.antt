use Rattle.c_types_well_formed_units.proofs.trees.Units.{trees_are_proper}
use Rattle.c_types_well_formed_units.proofs.theorems.trees_are_proper.Goals as goal

pub returns : goal.returns
returns c = trees_are_proper
