use Rattle.c_types_well_formed.proofs.stores.Addresses.{static_stores_proper}
use Rattle.c_types_well_formed.proofs.theorems.static_stores_are_proper.Goals as goal

pub returns : goal.returns
returns c = static_stores_proper
