use Rattle.transfer_sound.proofs.enter.Entering.{enter_step_sound}
use Rattle.transfer_sound.proofs.theorems.enter_steps_are_sound.Goals as goal

pub returns : goal.returns
returns g c = λ flow p naming row s o is fits typed r. enter_step_sound g.met.I.IntDomain.bounding flow p naming row s r o is fits
