use Rattle.std.proofs.Common.{◌≡◌, arith, sym, subst, ap, ◌∙◌, ◌^◌, ◌+◌, ◌*◌, Some}
use Rattle.std.proofs.lemmas.Int.{ints}
use Rattle.value_domain.proofs.values.Lies.{bounds_lie}
use Rattle.value_domain.proofs.values.Counts.{are_shift_counts, width_small}
use Rattle.value_domain.proofs.values.value_operators.shift_counts.Goals as goal

pub returns-clause-range : goal.returns-clause-range
returns-clause-range c = let w = width_small c.args.kind.bytes c.requires.size in are_shift_counts c.args.counts _ _ c.range_met.ensures (omega (arith, ints, c.width.ensures))
