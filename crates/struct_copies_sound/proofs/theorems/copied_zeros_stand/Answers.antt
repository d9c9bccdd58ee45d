use Rattle.struct_copies_sound.proofs.memory.CopiedZeros.{copied_zeros_stand}
use Rattle.struct_copies_sound.proofs.theorems.copied_zeros_stand.Goals as goal

pub returns : goal.returns
returns g c = copied_zeros_stand g.met.I.Lattice.order g.met.I.IntDomain.bounding
