use Rattle.std.proofs.Common.{arith, ◌^◌}
use Rattle.cc_base.specs.NumberRanges.{lies_difference, lies_fits}
use Rattle.pointer_domain.proofs.Lies.{bounds_lie}
use Rattle.pointer_domain.proofs.pointer_sets.Pointers.rooms.Goals as goal

pub range_difference-requires : goal.range_difference-requires
range_difference-requires g c = lies_fits _ (2 ^ 65) (omega arith) (lies_difference _ _ (2 ^ 64) (2 ^ 64) (bounds_lie g.met.I.IntDomain.bounding c.args.self.len _ c.bounds.ensures c.requires.len) (bounds_lie g.met.I.IntDomain.bounding c.args.self.rel _ c.bounds-2.ensures c.requires.rel))
