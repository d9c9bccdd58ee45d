use Rattle.struct_copies_sound.proofs.ordered_structs.OrderedStructs.{has_structs}
use Rattle.struct_copies_sound.proofs.theorems.ordered_programs_have_structs.Goals as goal

pub returns : goal.returns
returns g = has_structs
