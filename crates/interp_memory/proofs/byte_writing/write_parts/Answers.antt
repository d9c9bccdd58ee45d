use Rattle.std.proofs.Common.{◌≡◌, length, set, ◌∙◌, length-set, arith}
use Rattle.interp_memory.specs.declared.byte_forms.Content7.TheVariants.{Part}
use Rattle.interp_memory.proofs.ByteSteps.{part_more}
use Rattle.interp_memory.proofs.byte_writing.write_parts.Goals as goal

pub loop-k-preserved : goal.loop-k-preserved
loop-k-preserved c =
    let same : length (set c.loop-k.into c.loop-k.k (Part c.args.p c.loop-k.k)) ≡ length c.loop-k.into = length-set c.loop-k.into c.loop-k.k (Part c.args.p c.loop-k.k) in
    rw same (part_more c.loop-k.into c.loop-k.k c.args.p (omega arith) ∙ c.loop-k.invariant)
