use Rattle.analysis_sound.proofs.analyses.SpelledTexts.{texts_over}
use Rattle.analysis_sound.proofs.theorems.texts_lie_over_characters.Goals as goal

pub returns : goal.returns
returns c = λ flow limits good p bytes h. texts_over limits flow good p bytes h
