use Rattle.std.proofs.Common.{length}
use Rattle.interp_memory.proofs.byte_reading.+has_blank.Given as goal

abbrev pub decreases-has_blank : goal.decreases-has_blank
decreases-has_blank l = length l.bytes.now
