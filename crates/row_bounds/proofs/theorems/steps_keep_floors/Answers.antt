use Rattle.row_bounds.proofs.steps.Systems.{steps_keep}
use Rattle.row_bounds.proofs.theorems.steps_keep_floors.Goals as goal

pub returns : goal.returns
returns g c = λ floor low flow. steps_keep g.met.I.Lattice.order g.met.I.IntDomain.bounding g.met.I.IntDomain.ranges floor low flow
