use Rattle.entry_sound.proofs.starts.LiteralCells as cells
use Rattle.entry_sound.proofs.theorems.literals_stand.Goals as goal

pub returns : goal.returns
returns g c = λ flow. cells.literals_stand g.met.I.Lattice.order g.met.I.IntDomain.bounding flow
