use Rattle.std.proofs.Common.{◌≡◌, arith, sym, subst, ap, ◌∙◌, ◌^◌, ◌+◌, ◌*◌, Some}
use Rattle.std.proofs.lemmas.Int.{ints}
use Rattle.value_domain.proofs.values.Lies.{bounds_lie}
use Rattle.value_domain.proofs.values.Counts.{are_shift_counts, width_small}
use Rattle.value_domain.proofs.values.values.Value.arith.Goals as goal

pub ranges_leave-leaves-requires-clause-left : goal.ranges_leave-leaves-requires-clause-left
ranges_leave-leaves-requires-clause-left g c = bounds_lie g.met.I.IntDomain.bounding c.args.self.num _ c.bounds.ensures c.requires.left

pub ranges_leave-leaves-requires-clause-right : goal.ranges_leave-leaves-requires-clause-right
ranges_leave-leaves-requires-clause-right g c = bounds_lie g.met.I.IntDomain.bounding c.args.other.num _ c.bounds-2.ensures c.requires.right
