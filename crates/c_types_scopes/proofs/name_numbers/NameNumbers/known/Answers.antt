use Rattle.std.proofs.Common.{◌∙◌, ap}
use Rattle.c_types_scopes.specs.Names.{narrowed}
use Rattle.c_types_scopes.proofs.NameTexts.{position-in_texts}
use Rattle.c_types_scopes.proofs.name_numbers.NameNumbers.known.Goals as goal

pub returns : goal.returns
returns c = c.narrowed.ensures ∙ ap narrowed (c.get_index_of.ensures.index ∙ position-in_texts c.args.text.now c.args.self.now.texts.keys)
