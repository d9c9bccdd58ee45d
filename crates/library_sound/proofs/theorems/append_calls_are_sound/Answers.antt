use Rattle.library_sound.proofs.appends.AppendSteps.{append_step_sound}
use Rattle.library_sound.proofs.theorems.append_calls_are_sound.Goals as goal

pub returns : goal.returns
returns g c = λ flow sound p apart naming row s i is fits typed r. append_step_sound g.met.I.Lattice.order g.met.I.IntDomain.bounding sound flow p apart naming row s r i is fits
