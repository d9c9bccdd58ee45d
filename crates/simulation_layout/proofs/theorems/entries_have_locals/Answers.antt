use Rattle.simulation_layout.proofs.temporaries.EntryLocals.{checked_few}
use Rattle.simulation_layout.proofs.theorems.entries_have_locals.Goals as goal

pub returns : goal.returns
returns c = λ m name es u is f among. checked_few m name es u is f among
