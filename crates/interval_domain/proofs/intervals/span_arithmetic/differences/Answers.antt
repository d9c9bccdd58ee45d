use Rattle.std.proofs.Common.{arith, ap₂, ◌∙◌}
use Rattle.std.proofs.lemmas.Int.{ints}
use Rattle.interval_domain.specs.Intervals.Arithmetic.{into}
use Rattle.interval_domain.proofs.intervals.Ranges.{range_facts}
use Rattle.interval_domain.proofs.intervals.span_arithmetic.differences.Goals as goal

pub into-requires-clause-lo_fits : goal.into-requires-clause-lo_fits
into-requires-clause-lo_fits c = let r = range_facts c.args.kind c.requires.size in omega (arith, ints)

pub into-requires-clause-hi_fits : goal.into-requires-clause-hi_fits
into-requires-clause-hi_fits c = let r = range_facts c.args.kind c.requires.size in omega (arith, ints)

pub returns : goal.returns
returns c = c.into.ensures ∙ ap₂ (into c.args.kind) (omega (arith, ints)) (omega (arith, ints))
