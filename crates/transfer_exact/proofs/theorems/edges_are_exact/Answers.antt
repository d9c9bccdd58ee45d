use Rattle.transfer_exact.proofs.edges.EdgesExact.{way_told}
use Rattle.transfer_exact.proofs.theorems.edges_are_exact.Goals as goal

pub returns : goal.returns
returns g c = λ flow limits sound exact p apart tests told good naming row s i last is r t d. way_told g.met.I.IntDomain.bounding sound exact flow p naming row s r t limits good apart tests told i last is d
