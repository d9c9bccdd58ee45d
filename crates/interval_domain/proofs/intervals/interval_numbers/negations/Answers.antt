use Rattle.std.proofs.Common.{arith, ap₂, ◌∙◌}
use Rattle.std.proofs.lemmas.Int.{ints}
use Rattle.interval_domain.specs.Intervals.Arithmetic.{into}
use Rattle.interval_domain.proofs.intervals.interval_numbers.negations.Goals as goal

pub returns : goal.returns
returns c = c.into.ensures ∙ ap₂ (into c.args.kind) (omega (arith, ints)) (omega (arith, ints))
