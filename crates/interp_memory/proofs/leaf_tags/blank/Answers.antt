use Rattle.std.proofs.Common.{◌∙◌, arith}
use Rattle.interp_memory.proofs.ByteSteps.{blanked}
use Rattle.interp_memory.proofs.leaf_tags.blank.Goals as goal

pub loop-at-preserved : goal.loop-at-preserved
loop-at-preserved c =
    blanked c.args.model.now c.args.leaves.now c.loop-at.at c.args.size c.loop-at.bytes.items c.push.new.self.items c.tag_by_leaves.result (omega arith) c.in_ok-push.ensures.items c.tag_by_leaves.ensures
    ∙ c.loop-at.invariant
