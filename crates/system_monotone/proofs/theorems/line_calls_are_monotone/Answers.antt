use Rattle.system_monotone.proofs.library_writes.LineCalls.{lines_rise}
use Rattle.system_monotone.proofs.theorems.line_calls_are_monotone.Goals as goal

pub returns : goal.returns
returns g c = λ mono all flow k. lines_rise g.met.I.Lattice.order g.met.I.IntDomain.bounding mono g.met.I.IntDomain.ranges all flow k
