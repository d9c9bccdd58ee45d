use Rattle.system_monotone.proofs.library_writes.FillCalls.{memset_rises}
use Rattle.system_monotone.proofs.theorems.fills_are_monotone.Goals as goal

pub returns : goal.returns
returns g c = λ mono all flow k. memset_rises g.met.I.Lattice.order g.met.I.IntDomain.bounding mono g.met.I.IntDomain.ranges all flow k
