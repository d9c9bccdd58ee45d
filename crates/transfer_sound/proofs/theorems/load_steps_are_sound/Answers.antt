use Rattle.transfer_sound.proofs.memory.MemoryTheorems.{load_step_sound}
use Rattle.transfer_sound.proofs.theorems.load_steps_are_sound.Goals as goal

pub returns : goal.returns
returns g c = λ flow sound p naming row s i is fits typed r. load_step_sound g.met.I.Lattice.order g.met.I.IntDomain.bounding sound g.met.I.IntDomain.ranges flow p naming row s r i is fits
