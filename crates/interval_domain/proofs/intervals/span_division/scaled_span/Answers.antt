use Rattle.std.proofs.Common.{arith, to_z, of_z}
use Rattle.std.specs.Int.{w128}
use Rattle.std.proofs.lemmas.Int.{ints}
use Rattle.interval_domain.proofs.intervals.Ranges.{scaled_fits}
use Rattle.interval_domain.proofs.intervals.span_division.scaled_span.Goals as goal

pub into-requires-clause-lo_fits : goal.into-requires-clause-lo_fits
into-requires-clause-lo_fits c = scaled_fits c.args.kind (to_z w128 (of_z w128 c.args.s.lo)) _ c.requires.size (omega (arith, ints)) (omega (arith, ints)) (omega (arith, ints, c.scaled.ensures)) (omega (arith, ints, c.scaled.ensures))

pub into-requires-clause-hi_fits : goal.into-requires-clause-hi_fits
into-requires-clause-hi_fits c = scaled_fits c.args.kind (to_z w128 (of_z w128 c.args.s.hi)) _ c.requires.size (omega (arith, ints)) (omega (arith, ints)) (omega (arith, ints, c.scaled-2.ensures)) (omega (arith, ints, c.scaled-2.ensures))
