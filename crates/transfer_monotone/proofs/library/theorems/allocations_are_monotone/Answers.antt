use Rattle.transfer_monotone.proofs.library.AllocationCalls.{malloc_rises}
use Rattle.transfer_monotone.proofs.library.Products.{calloc_rises}
use Rattle.transfer_monotone.proofs.library.Releases.{realloc_rises, free_rises}
use Rattle.transfer_monotone.proofs.library.theorems.allocations_are_monotone.Goals as goal

pub returns : goal.returns
returns g c = λ mono all flow k sites. record {
  malloc = malloc_rises g.met.I.Lattice.order g.met.I.IntDomain.bounding mono g.met.I.IntDomain.ranges all flow k sites;
  calloc = calloc_rises g.met.I.Lattice.order g.met.I.IntDomain.bounding mono g.met.I.IntDomain.ranges all flow k sites;
  realloc = realloc_rises g.met.I.Lattice.order g.met.I.IntDomain.bounding mono g.met.I.IntDomain.ranges all flow k sites;
  free = free_rises g.met.I.Lattice.order g.met.I.IntDomain.bounding mono g.met.I.IntDomain.ranges all flow k;
}
