use Rattle.c_types_well_formed_units.proofs.parameters.Heads.{heads_make_objects}
use Rattle.c_types_well_formed_units.proofs.theorems.heads_make_objects.Goals as goal

pub returns : goal.returns
returns c = heads_make_objects
