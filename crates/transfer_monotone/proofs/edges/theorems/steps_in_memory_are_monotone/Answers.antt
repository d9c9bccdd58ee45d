use Rattle.transfer_monotone.proofs.edges.MemorySteps.{memory_steps, memory_checks}
use Rattle.transfer_monotone.proofs.edges.theorems.steps_in_memory_are_monotone.Goals as goal

pub returns : goal.returns
returns g c = record {
  steps = λ mono all flow k. memory_steps g.met.I.Lattice.order g.met.I.IntDomain.bounding mono g.met.I.IntDomain.ranges all flow k;
  checks = λ mono all flow k. memory_checks g.met.I.Lattice.order g.met.I.IntDomain.bounding mono g.met.I.IntDomain.ranges all flow k;
}
