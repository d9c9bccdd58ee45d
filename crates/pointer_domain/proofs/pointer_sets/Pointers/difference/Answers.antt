use Rattle.std.proofs.Common.{arith, ◌^◌}
use Rattle.cc_base.specs.NumberRanges.{lies_difference, lies_fits}
use Rattle.pointer_domain.proofs.Lies.{offsets_lie}
use Rattle.pointer_domain.proofs.pointer_sets.Pointers.difference.Goals as goal

pub range_difference-apart-requires : goal.range_difference-apart-requires
range_difference-apart-requires g c = lies_fits _ (2 ^ 66) (omega arith) (lies_difference _ _ (2 ^ 65) (2 ^ 65) (offsets_lie g.met.I.IntDomain.bounding c.args.self _ c.offsets.ensures c.requires.left) (offsets_lie g.met.I.IntDomain.bounding c.args.other _ c.offsets-2.ensures c.requires.right))
