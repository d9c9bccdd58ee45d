use Rattle.transfer_monotone.proofs.library.StringResults.{strlen_rises, strcmp_rises, puts_rises, printf_rises}
use Rattle.transfer_monotone.proofs.library.theorems.string_calls_are_monotone.Goals as goal

pub returns : goal.returns
returns g c = λ mono all flow k. record {
  strlen = strlen_rises g.met.I.Lattice.order g.met.I.IntDomain.bounding mono g.met.I.IntDomain.ranges all flow k;
  strcmp = strcmp_rises g.met.I.Lattice.order g.met.I.IntDomain.bounding mono g.met.I.IntDomain.ranges all flow k;
  puts = puts_rises g.met.I.Lattice.order g.met.I.IntDomain.bounding mono g.met.I.IntDomain.ranges all flow k;
  printf = printf_rises g.met.I.Lattice.order g.met.I.IntDomain.bounding mono g.met.I.IntDomain.ranges all flow k;
}
