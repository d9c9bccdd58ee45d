use Rattle.c_types_well_formed.proofs.layouts.NearStores.{stores_are_near}
use Rattle.c_types_well_formed.proofs.theorems.stores_are_near.Goals as goal

pub returns : goal.returns
returns c = stores_are_near
