use Rattle.std.proofs.Common.{◌≡◌, arith, sym, subst, ap, ◌∙◌, ◌^◌, ◌+◌, ◌*◌, Some}
use Rattle.std.proofs.lemmas.Int.{ints}
use Rattle.value_domain.proofs.values.Lies.{bounds_lie}
use Rattle.value_domain.proofs.values.Counts.{are_shift_counts, width_small}
use Rattle.value_domain.proofs.values.values.Value.unary.Goals as goal

pub negated_leave-leaves-requires-clause-near : goal.negated_leave-leaves-requires-clause-near
negated_leave-leaves-requires-clause-near g c = bounds_lie g.met.I.IntDomain.bounding c.args.self.num _ c.bounds.ensures c.requires.near
