use Rattle.struct_copies_sound.proofs.memory.CopyGoes.{copies_keep}
use Rattle.struct_copies_sound.proofs.theorems.copies_keep_memory.Goals as goal

pub returns : goal.returns
returns g m = copies_keep m
