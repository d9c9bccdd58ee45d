use Rattle.struct_copies_sound.proofs.ordered_structs.OrderedStructs.{numbered}
use Rattle.struct_copies_sound.proofs.theorems.ordered_structs_are_numbered.Goals as goal

pub returns : goal.returns
returns g = numbered
