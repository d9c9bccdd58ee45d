use Rattle.transfer_monotone.proofs.library.ResultCalls.{getchar_rises, putchar_call, exit_rises, abort_rises}
use Rattle.transfer_monotone.proofs.library.CharacterCalls.{isalpha_rises, isdigit_rises, isspace_rises, isupper_rises, islower_rises, isalnum_rises, toupper_rises, tolower_rises}
use Rattle.transfer_monotone.proofs.library.theorems.simple_calls_are_monotone.Goals as goal

pub returns : goal.returns
returns g c = λ mono all flow k. record {
  exit = exit_rises g.met.I.Lattice.order g.met.I.IntDomain.bounding mono g.met.I.IntDomain.ranges all flow k;
  abort = abort_rises g.met.I.Lattice.order g.met.I.IntDomain.bounding mono g.met.I.IntDomain.ranges all flow k;
  getchar = getchar_rises g.met.I.Lattice.order g.met.I.IntDomain.bounding mono g.met.I.IntDomain.ranges all flow k;
  putchar = putchar_call g.met.I.Lattice.order g.met.I.IntDomain.bounding mono g.met.I.IntDomain.ranges all flow k;
  isalpha = isalpha_rises g.met.I.Lattice.order g.met.I.IntDomain.bounding mono g.met.I.IntDomain.ranges all flow k;
  isdigit = isdigit_rises g.met.I.Lattice.order g.met.I.IntDomain.bounding mono g.met.I.IntDomain.ranges all flow k;
  isspace = isspace_rises g.met.I.Lattice.order g.met.I.IntDomain.bounding mono g.met.I.IntDomain.ranges all flow k;
  isupper = isupper_rises g.met.I.Lattice.order g.met.I.IntDomain.bounding mono g.met.I.IntDomain.ranges all flow k;
  islower = islower_rises g.met.I.Lattice.order g.met.I.IntDomain.bounding mono g.met.I.IntDomain.ranges all flow k;
  isalnum = isalnum_rises g.met.I.Lattice.order g.met.I.IntDomain.bounding mono g.met.I.IntDomain.ranges all flow k;
  toupper = toupper_rises g.met.I.Lattice.order g.met.I.IntDomain.bounding mono g.met.I.IntDomain.ranges all flow k;
  tolower = tolower_rises g.met.I.Lattice.order g.met.I.IntDomain.bounding mono g.met.I.IntDomain.ranges all flow k;
}
