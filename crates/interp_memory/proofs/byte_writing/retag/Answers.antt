use Rattle.std.proofs.Common.{length, refl, sym, ◌∙◌, arith}
use Rattle.std.proofs.lemmas.List.{length-map}
use Rattle.interp_memory.specs.ByteViews.{content_view, bytes_view, contents_view}
use Rattle.interp_memory.specs.declared.byte_forms.Content7.TheVariants.{Blank}
use Rattle.interp_memory.proofs.ByteSteps.{tag_start, retag_more}
use Rattle.interp_memory.proofs.byte_writing.retag.Goals as goal

pub loop-k-init : goal.loop-k-init
loop-k-init c = tag_start c.args.class (bytes_view c.args.bytes.now) c.args.offset (contents_view c.args.contents.now) (length c.args.contents.now) (sym (length-map c.args.contents.now content_view))

pub loop-k-preserved : goal.loop-k-preserved
loop-k-preserved c =
    retag_more c.args.class c.loop-k.bytes c.args.contents.now c.args.offset c.loop-k.k (length c.args.contents.now) Blank refl
    (omega (arith, c.loop-k.auto.bytes, c.requires.within))
    (omega arith)
    ∙ c.loop-k.invariant
