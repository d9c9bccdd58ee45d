use Rattle.c_types_theorems.proofs.entries.Entries.{entries_take_integers}
use Rattle.c_types_theorems.proofs.entries.theorems.entries_take_integers.Goals as goal

pub returns : goal.returns
returns c = entries_take_integers
