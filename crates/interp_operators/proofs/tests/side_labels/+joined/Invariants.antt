use Rattle.std.proofs.Common.{length}
use Rattle.interp_operators.proofs.tests.side_labels.+joined.Given as goal

abbrev pub decreases-joined : goal.decreases-joined
decreases-joined l = length l.bytes.now
