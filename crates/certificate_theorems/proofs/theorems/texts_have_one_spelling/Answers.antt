use Rattle.certificate_theorems.proofs.verdicts.TextProofs.{whole_is_text}
use Rattle.certificate_theorems.proofs.theorems.texts_have_one_spelling.Goals as goal

pub returns : goal.returns
returns c = whole_is_text
