use Rattle.std.proofs.lemmas.Nat.{xor_lt}
use Rattle.interval_domain.proofs.intervals.span_bits.exclusives.Goals as goal

pub with_bits-requires-clause-small : goal.with_bits-requires-clause-small
with_bits-requires-clause-small c = xor_lt 64 _ _ c.bits_in.ensures.bound c.bits_in-then-are_single.ensures.bound
