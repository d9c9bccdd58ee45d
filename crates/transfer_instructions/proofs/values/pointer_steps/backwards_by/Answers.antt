use Rattle.std.proofs.Common.{arith, ◌^◌, pos, Some}
use Rattle.cc_base.specs.NumberRanges.{lies_difference, lies_fits}
use Rattle.transfer_instructions.proofs.values.Lies.{zero_lies, bounds_lie}
use Rattle.transfer_instructions.proofs.values.pointer_steps.backwards_by.Goals as goal

pub range_difference-requires : goal.range_difference-requires
range_difference-requires g c = lies_fits _ (2 ^ 65) (omega arith) (lies_difference (Some (pos 0, pos 0)) _ (2 ^ 64) (2 ^ 64) zero_lies (bounds_lie g.met.I.IntDomain.bounding c.args.amount _ c.bounds.ensures c.requires))
