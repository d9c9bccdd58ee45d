use Rattle.transfer_sound.proofs.values.PointerSteps.{pointer_step_sound}
use Rattle.transfer_sound.proofs.theorems.pointer_steps_are_sound.Goals as goal

pub returns : goal.returns
returns g c = λ flow sound p naming row s i is fits typed r. pointer_step_sound g.met.I.Lattice.order g.met.I.IntDomain.bounding sound flow p naming row s r i is fits typed
