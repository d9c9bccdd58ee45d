use Rattle.transfer_sound.proofs.induction.Covering.{runs_covered}
use Rattle.transfer_sound.proofs.theorems.runs_are_covered.Goals as goal

pub returns : goal.returns
returns g c = λ flow limits good steps ends u rows begins carries typed. runs_covered _ _ _ flow limits good steps ends u rows begins carries typed
