use Rattle.row_bounds.proofs.stores.StoreFloors.{objects_keep}
use Rattle.row_bounds.proofs.theorems.objects_keep_floors.Goals as goal

pub returns : goal.returns
returns g c = λ floor low m bases. objects_keep g.met.I.Lattice.order g.met.I.IntDomain.bounding g.met.I.IntDomain.ranges floor low m bases
