use Rattle.std.proofs.Common.{◌≡◌, length, ◌%◌, set, ◌∙◌, length-set, arith}
use Rattle.interp_memory.specs.ByteViews.{labels_view}
use Rattle.interp_memory.specs.declared.byte_forms.Content7.TheVariants.{Number}
use Rattle.interp_memory.proofs.ByteSteps.{number_more}
use Rattle.interp_memory.proofs.byte_writing.write_number.Goals as goal

pub loop-content-preserved : goal.loop-content-preserved
loop-content-preserved c =
    let k = c.loop-content.content-index in
    let l = c.loop-content.into in
    let s = labels_view c.args.labels in
    let same : length (set l k (Number (c.loop-content.left % 256) c.args.labels)) ≡ length l = length-set l k (Number (c.loop-content.left % 256) c.args.labels) in
    rw same (number_more l k c.loop-content.left c.args.labels (omega arith) ∙ c.loop-content.invariant)
