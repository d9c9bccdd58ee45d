use Rattle.entry_sound.proofs.starts.StaticBytes.{bytes_are_stored}
use Rattle.entry_sound.proofs.theorems.static_bytes_are_stored.Goals as goal

pub returns : goal.returns
returns c = λ u. bytes_are_stored u
