use Rattle.std.proofs.Common.{arith, ◌^◌, ◌+◌}
use Rattle.cc_base.specs.NumberRanges.{lies_difference, lies_fits}
use Rattle.value_domain.proofs.strings.Lies.{bounds_lie, one_lies}
use Rattle.value_domain.proofs.strings.first_zeros.FirstZero.scan.Goals as goal

pub is_known-requires : goal.is_known-requires
is_known-requires g c = lies_fits _ (2 ^ 65) (omega arith) (lies_difference _ _ (2 ^ 64) (2 ^ 64) (bounds_lie g.met.I.IntDomain.bounding c.args.self.at _ c.bounds.ensures c.requires.near) (bounds_lie g.met.I.IntDomain.bounding c.args.at _ c.bounds-2.ensures c.requires.at_near))

pub lengths-requires-clause-fits : goal.lengths-requires-clause-fits
lengths-requires-clause-fits g c = lies_fits _ (2 ^ 65) (omega arith) (lies_difference _ _ (2 ^ 64) (2 ^ 64) (bounds_lie g.met.I.IntDomain.bounding c.args.self.at _ c.bounds-then-is_known.ensures c.requires.near) (bounds_lie g.met.I.IntDomain.bounding c.args.at _ c.bounds-then-is_known-2.ensures c.requires.at_near))

pub lengths-requires-clause-room_fits : goal.lengths-requires-clause-room_fits
lengths-requires-clause-room_fits g c = lies_fits _ (2 ^ 64 + 1) (omega arith) (lies_difference _ _ (2 ^ 64) 1 (bounds_lie g.met.I.IntDomain.bounding c.args.room _ c.bounds-then-is_known-3.ensures c.requires.room_near) one_lies)
