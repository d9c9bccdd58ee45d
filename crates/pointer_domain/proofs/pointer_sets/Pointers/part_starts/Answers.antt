use Rattle.std.proofs.Common.{arith, sym, subst, ◌^◌, ◌+◌}
use Rattle.cc_base.specs.NumberRanges.{LiesWithin, lies_sum, lies_met, lies_fits}
use Rattle.pointer_domain.proofs.Lies.{bounds_lie, just_lies}
use Rattle.pointer_domain.specs.PointerTables.{longest}
use Rattle.pointer_domain.proofs.pointer_sets.Pointers.part_starts.Goals as goal

pub range_sum-starts-requires : goal.range_sum-starts-requires
range_sum-starts-requires g c = let k : LiesWithin (2 ^ 64) c.range_met-places.result = subst (LiesWithin (2 ^ 64)) (sym c.range_met-places.ensures) (lies_met _ _ _ (2 ^ 64) (bounds_lie g.met.I.IntDomain.bounding c.args.self.rel _ c.bounds.ensures c.requires.near.rel)) in lies_fits _ (2 ^ 65) (omega arith) (lies_sum _ _ (2 ^ 64) (2 ^ 64) (bounds_lie g.met.I.IntDomain.bounding c.args.self.lo _ c.bounds-2.ensures c.requires.near.lo) k)

pub range_sum-requires : goal.range_sum-requires
range_sum-requires g c = let k : LiesWithin (2 ^ 64) c.range_met-places.result = subst (LiesWithin (2 ^ 64)) (sym c.range_met-places.ensures) (lies_met _ _ _ (2 ^ 64) (bounds_lie g.met.I.IntDomain.bounding c.args.self.rel _ c.bounds.ensures c.requires.near.rel)) in let s : LiesWithin (2 ^ 65) c.range_sum-starts.result = subst (LiesWithin (2 ^ 65)) (sym c.range_sum-starts.ensures) (lies_sum _ _ (2 ^ 64) (2 ^ 64) (bounds_lie g.met.I.IntDomain.bounding c.args.self.lo _ c.bounds-2.ensures c.requires.near.lo) k) in lies_fits _ (2 ^ 65 + longest) (omega arith) (lies_sum _ _ (2 ^ 65) longest s (subst (LiesWithin longest) (sym c.just.ensures) (just_lies c.args.offset c.requires.offset_short)))
