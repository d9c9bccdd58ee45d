use Rattle.library_sound.proofs.prints.PrintCalls.{print_step_sound}
use Rattle.library_sound.proofs.theorems.print_calls_are_sound.Goals as goal

pub returns : goal.returns
returns g c = λ flow sound p naming row s i is fits typed r. print_step_sound g.met.I.Lattice.order g.met.I.IntDomain.bounding flow p naming row s r i is fits
