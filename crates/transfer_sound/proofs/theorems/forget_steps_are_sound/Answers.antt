use Rattle.transfer_sound.proofs.objects.Forgetting.{forget_step_sound}
use Rattle.transfer_sound.proofs.theorems.forget_steps_are_sound.Goals as goal

pub returns : goal.returns
returns g c = λ flow p naming row s i is fits typed r. forget_step_sound g.met.I.IntDomain.bounding flow p naming row s r i is fits
