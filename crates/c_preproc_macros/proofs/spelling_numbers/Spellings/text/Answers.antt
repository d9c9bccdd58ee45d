use Rattle.std.proofs.Common.{None, Some, ◌∙◌}
use Rattle.c_preproc_macros.proofs.Along.{text_got}
use Rattle.c_preproc_macros.proofs.spelling_numbers.Spellings.text.Goals as goal

pub returns-in-None : goal.returns-in-None
returns-in-None c = text_got None c.args.self.now.texts.keys c.args.number c.in-None.ensures.key

pub returns-in-Some : goal.returns-in-Some
returns-in-Some c = c.as_slice.ensures.value ∙ text_got (Some c.in-Some.text) c.args.self.now.texts.keys c.args.number c.in-Some.ensures.key
