use Rattle.entry_sound.proofs.starts.ParameterCells as cells
use Rattle.entry_sound.proofs.theorems.parameters_stand.Goals as goal

pub returns : goal.returns
returns g c = λ flow. cells.parameters_stand g.met.I.Lattice.order g.met.I.IntDomain.bounding flow
