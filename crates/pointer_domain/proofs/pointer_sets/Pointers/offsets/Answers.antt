use Rattle.std.proofs.Common.{arith, ◌^◌}
use Rattle.cc_base.specs.NumberRanges.{lies_sum, lies_fits}
use Rattle.pointer_domain.proofs.Lies.{bounds_lie}
use Rattle.pointer_domain.proofs.pointer_sets.Pointers.offsets.Goals as goal

pub range_sum-requires : goal.range_sum-requires
range_sum-requires g c = lies_fits _ (2 ^ 65) (omega arith) (lies_sum _ _ (2 ^ 64) (2 ^ 64) (bounds_lie g.met.I.IntDomain.bounding c.args.self.lo _ c.bounds.ensures c.requires.lo) (bounds_lie g.met.I.IntDomain.bounding c.args.self.rel _ c.bounds-2.ensures c.requires.rel))
