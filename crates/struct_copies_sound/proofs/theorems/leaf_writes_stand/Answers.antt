use Rattle.struct_copies_sound.proofs.cells.LeafWrites.{leaf_writes_stand as all_stand}
use Rattle.struct_copies_sound.proofs.theorems.leaf_writes_stand.Goals as goal

pub returns : goal.returns
returns g c = all_stand g.met.I.Lattice.order g.met.I.IntDomain.bounding
