use Rattle.system_monotone.proofs.library_writes.CopyCalls.{memcpy_rises, memmove_rises}
use Rattle.system_monotone.proofs.theorems.memory_calls_are_monotone.Goals as goal

pub returns : goal.returns
returns g c = λ mono all flow k. record {
  memcpy = memcpy_rises g.met.I.Lattice.order g.met.I.IntDomain.bounding mono g.met.I.IntDomain.ranges all flow k;
  memmove = memmove_rises g.met.I.Lattice.order g.met.I.IntDomain.bounding mono g.met.I.IntDomain.ranges all flow k;
}
