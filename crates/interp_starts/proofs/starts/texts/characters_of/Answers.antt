use Rattle.std.proofs.Common.{◌<◌, length, ap, ◌∙◌, arith}
use Rattle.interp_memory.specs.ByteViews.{contents_view}
use Rattle.interp_starts.proofs.starts.TextContents.{character_more}
use Rattle.interp_starts.proofs.starts.texts.characters_of.Goals as goal

pub loop-c-preserved : goal.loop-c-preserved
loop-c-preserved c =
    let less : c.loop-c.c-index < length c.args.text.now = omega arith in
    ap contents_view c.in_ok-push.ensures.items
    ∙ character_more c.args.text.now c.loop-c.c-index c.loop-c.contents.items c.character.result less c.loop-c.invariant c.character.ensures
