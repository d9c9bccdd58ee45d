use Rattle.c_types_well_formed_units.proofs.heads.Units.{units_have_heads}
use Rattle.c_types_well_formed_units.proofs.theorems.units_have_heads.Goals as goal

pub returns : goal.returns
returns c = units_have_heads
