use Rattle.system_monotone.proofs.library_writes.TextCalls.{texts_rise, one_text_rises}
use Rattle.system_monotone.proofs.theorems.text_writes_are_monotone.Goals as goal

pub returns : goal.returns
returns g c = record {
  both = λ mono all flow k. texts_rise g.met.I.Lattice.order g.met.I.IntDomain.bounding mono g.met.I.IntDomain.ranges all flow k;
  alone = λ mono all flow k. one_text_rises g.met.I.Lattice.order g.met.I.IntDomain.bounding mono g.met.I.IntDomain.ranges all flow k;
}
