use Rattle.analysis_sound.proofs.units.UnrolledSound.{unrolled_found}
use Rattle.analysis_sound.proofs.theorems.unrolled_analyses_are_sound.Goals as goal

pub returns : goal.returns
returns c = λ turns limits flow turned list found good h a u starts v there. unrolled_found turns limits flow turned good h list found a u starts v there
