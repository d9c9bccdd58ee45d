use Rattle.transfer_sound.proofs.clear.Clearing.{clear_step_sound}
use Rattle.transfer_sound.proofs.theorems.clear_steps_are_sound.Goals as goal

pub returns : goal.returns
returns g c = λ flow limits good p naming row s i is fits typed r. clear_step_sound g.met.I.IntDomain.bounding flow p limits good naming row s r i is fits
