use Rattle.memory_calls_sound.proofs.frees.FreeCalls.{free_step_sound}
use Rattle.memory_calls_sound.proofs.theorems.free_calls_are_sound.Goals as goal

pub returns : goal.returns
returns g c = λ flow sound p naming row s i is fits typed r. free_step_sound g.met.I.Lattice.order g.met.I.IntDomain.bounding flow p naming row s r i is fits
