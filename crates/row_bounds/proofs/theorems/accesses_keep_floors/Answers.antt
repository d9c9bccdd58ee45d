use Rattle.row_bounds.proofs.stores.StoreFloors.{accesses_keep}
use Rattle.row_bounds.proofs.theorems.accesses_keep_floors.Goals as goal

pub returns : goal.returns
returns g c = λ floor low m bases. accesses_keep g.met.I.Lattice.order g.met.I.IntDomain.bounding g.met.I.IntDomain.ranges floor low m bases
