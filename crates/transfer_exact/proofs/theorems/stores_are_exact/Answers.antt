use Rattle.transfer_exact.proofs.accesses.ExactStores.{store_step_told}
use Rattle.transfer_exact.proofs.theorems.stores_are_exact.Goals as goal

pub returns : goal.returns
returns g c = λ flow sound exact p objects plain naming row s o is fits typed r t d. store_step_told g.met.I.Lattice.order g.met.I.IntDomain.bounding sound g.met.I.IntDomain.ranges exact flow p objects plain naming row s r t o is fits d
