use Rattle.std.proofs.Common.{length}
use Rattle.interp_memory.proofs.byte_reading.+fit.Given as goal

abbrev pub decreases-fit : goal.decreases-fit
decreases-fit l = length l.bytes.now
