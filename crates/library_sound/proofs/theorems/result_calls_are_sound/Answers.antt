use Rattle.library_sound.proofs.calls.ResultCalls.{result_step_sound}
use Rattle.library_sound.proofs.theorems.result_calls_are_sound.Goals as goal

pub returns : goal.returns
returns g c = λ flow sound p naming row s i is fits typed r. result_step_sound g.met.I.Lattice.order g.met.I.IntDomain.bounding sound flow p naming row s r i is fits
