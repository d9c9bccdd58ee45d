use Rattle.analysis_sound.proofs.analyses.ScalarTests.{kinds_proved}
use Rattle.analysis_sound.proofs.theorems.tests_are_proved.Goals as goal

pub returns : goal.returns
returns c = λ flow h number e is. kinds_proved flow h number e is
