use Rattle.c_types_well_formed_units.proofs.trees.Units.{trees_in_blocks}
use Rattle.c_types_well_formed_units.proofs.theorems.trees_declare_in_blocks.Goals as goal

pub returns : goal.returns
returns c = trees_in_blocks
