use Rattle.store_sound.proofs.operations.Freed.{freed_shows}
use Rattle.store_sound.proofs.operations.theorems.freed_pointers_show.Goals as goal

pub returns : goal.returns
returns g c = λ flow shaped naming row state s x v h f. freed_shows flow shaped naming row state s x v h f
