use Rattle.struct_copies_sound.proofs.structs.LostLeaves.{loses_leaf}
use Rattle.struct_copies_sound.proofs.theorems.circular_structs_lose_leaves.Goals as goal

pub returns : goal.returns
returns g = loses_leaf
