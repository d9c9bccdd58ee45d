use Rattle.run_exact.proofs.entries.ExactStarts as told
use Rattle.run_exact.proofs.theorems.start_is_exact.Goals as goal

pub returns : goal.returns
returns g c = λ flow sound exact. told.start_is_exact g.met.I.Lattice.order g.met.I.IntDomain.bounding sound g.met.I.IntDomain.ranges exact flow
