use Rattle.std.proofs.Common.{◌∙◌, None, arith}
use Rattle.std.proofs.lemmas.List.{length-map}
use Rattle.interp_memory.specs.ByteViews.{content_view, byte_view, bytes_view}
use Rattle.interp_memory.specs.declared.byte_forms.Content7.TheVariants.{Blank}
use Rattle.interp_memory.proofs.ByteSteps.{all_more, all_end}
use Rattle.interp_memory.proofs.byte_writing.fill_all.Goals as goal

pub loop-byte-preserved : goal.loop-byte-preserved
loop-byte-preserved c =
    all_more c.args.content c.loop-byte.bytes c.args.bytes.now c.loop-byte.byte-index (record { content = Blank; tag = None }) (omega arith) (omega arith) c.loop-byte.invariant

pub returns : goal.returns
returns c =
    c.loop-byte.invariant
    ∙ all_end (content_view c.args.content) (bytes_view c.args.bytes.now) c.loop-byte.byte-index (let l = length-map c.args.bytes.now byte_view in omega arith)
