use Rattle.std.proofs.Common.{◌≡◌, length}
use Rattle.cc_base.proofs.standard_sink.write_whole.Given as goal

abbrev pub invariant-loop-rest : goal.invariant-loop-rest
invariant-loop-rest g l = l.faults ≡ l.initial.faults

abbrev pub decreases-loop-rest : goal.decreases-loop-rest
decreases-loop-rest g l = length l.rest
