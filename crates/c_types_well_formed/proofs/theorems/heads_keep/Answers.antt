use Rattle.c_types_well_formed.proofs.types.Heads.{heads_keep}
use Rattle.c_types_well_formed.proofs.theorems.heads_keep.Goals as goal

pub returns : goal.returns
returns c = heads_keep
