use Rattle.transfer_sound.proofs.leave.Leaving.{leave_step_sound}
use Rattle.transfer_sound.proofs.theorems.leave_steps_are_sound.Goals as goal

pub returns : goal.returns
returns g c = λ flow p naming row s i is fits typed r. leave_step_sound flow p naming row s r i is fits
