use Rattle.std.proofs.Common.{length}
use Rattle.interp_memory.proofs.byte_reading.+are_zeros.Given as goal

abbrev pub decreases-are_zeros : goal.decreases-are_zeros
decreases-are_zeros l = length l.bytes.now
