use Rattle.c_types_theorems.proofs.stores.Initials.{stores_placed}
use Rattle.c_types_theorems.proofs.stores.theorems.stores_are_placed.Goals as goal

pub returns : goal.returns
returns c = stores_placed
