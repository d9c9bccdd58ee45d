use Rattle.std.proofs.Common.{◌≡◌, drop}
use Rattle.pointer_domain.specs.BaseSets.{no_base}
use Rattle.store.specs.Walks.{walk}
use Rattle.transfer_checks.specs.AllocationChecks.{with_heap}
use Rattle.transfer_checks.proofs.allocation_checks.heap_of.Given as goal

abbrev pub invariant-loop-n : goal.invariant-loop-n
invariant-loop-n l = walk (with_heap l.set) l.n (drop l.n l.bases) l.found ≡ walk (with_heap l.set) 0 l.bases no_base
