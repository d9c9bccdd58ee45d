use Rattle.system_monotone.proofs.library_writes.TextCopyCalls.{strcpy_rises, strncpy_rises}
use Rattle.system_monotone.proofs.library_writes.AppendCalls.{strcat_rises}
use Rattle.system_monotone.proofs.theorems.text_calls_are_monotone.Goals as goal

pub returns : goal.returns
returns g c = λ mono all flow k. record {
  strcpy = strcpy_rises g.met.I.Lattice.order g.met.I.IntDomain.bounding mono g.met.I.IntDomain.ranges all flow k;
  strncpy = strncpy_rises g.met.I.Lattice.order g.met.I.IntDomain.bounding mono g.met.I.IntDomain.ranges all flow k;
  strcat = strcat_rises g.met.I.Lattice.order g.met.I.IntDomain.bounding mono g.met.I.IntDomain.ranges all flow k;
}
