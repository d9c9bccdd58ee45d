use Rattle.memory_model.specs.Effects.ObjectEffects.{characters}
use Rattle.interp_starts.proofs.starts.TextContents.{text_cut}
use Rattle.interp_starts.proofs.starts.texts.text_contents.Goals as goal

pub returns : goal.returns
returns c =
    text_cut (characters c.args.text.now) c.args.room c.in_ok-contents.contents.items c.push.new.self.items c.truncate.new.self.items c.character.result
    c.in_ok-contents.ensures
    c.character.ensures
    c.in_ok-push.ensures.items
    c.truncate.ensures.items
