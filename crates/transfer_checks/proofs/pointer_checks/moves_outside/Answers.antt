use Rattle.std.proofs.Common.{arith, sym, subst, ◌^◌, ◌+◌, ◌*◌}
use Rattle.cc_base.specs.NumberRanges.{LiesWithin, lies_sum, lies_fits}
use Rattle.transfer_checks.proofs.Lies.{bounds_lie, times_lies}
use Rattle.pointer_domain.specs.PointerTables.{longest}
use Rattle.transfer_checks.proofs.pointer_checks.moves_outside.Goals as goal

pub range_times-requires : goal.range_times-requires
range_times-requires g c = lies_fits _ (2 ^ 64 * longest) (omega arith) (times_lies _ c.args.scale (bounds_lie g.met.I.IntDomain.bounding c.args.by _ c.bounds-2.ensures c.requires.by) c.requires.scale)

pub range_sum-places-requires : goal.range_sum-places-requires
range_sum-places-requires g c = lies_fits _ (2 ^ 64 + 2 ^ 64 * longest) (omega arith) (lies_sum _ _ (2 ^ 64) (2 ^ 64 * longest) (bounds_lie g.met.I.IntDomain.bounding c.args.at.rel _ c.bounds.ensures c.requires.near.rel) (subst (LiesWithin (2 ^ 64 * longest)) (sym c.range_times.ensures) (times_lies _ c.args.scale (bounds_lie g.met.I.IntDomain.bounding c.args.by _ c.bounds-2.ensures c.requires.by) c.requires.scale)))
