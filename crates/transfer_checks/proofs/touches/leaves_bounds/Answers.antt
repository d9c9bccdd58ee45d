use Rattle.std.proofs.Common.{arith, ◌^◌, ◌+◌}
use Rattle.cc_base.specs.NumberRanges.{lies_sum, lies_fits}
use Rattle.transfer_checks.proofs.Lies.{bounds_lie, span_lies}
use Rattle.pointer_domain.specs.PointerTables.{longest}
use Rattle.transfer_checks.proofs.touches.leaves_bounds.Goals as goal

pub range_sum-places-requires : goal.range_sum-places-requires
range_sum-places-requires g c = lies_fits _ (2 ^ 64 + (longest + longest)) (omega arith) (lies_sum _ _ (2 ^ 64) (longest + longest) (bounds_lie g.met.I.IntDomain.bounding c.args.p.rel _ c.bounds.ensures c.requires.near.rel) (span_lies _ c.args.offset c.args.size c.span_of.ensures c.requires.offset c.requires.size))
