use Rattle.memory_calls_sound.proofs.allocations.AllocationSteps.{allocation_step_sound}
use Rattle.memory_calls_sound.proofs.theorems.allocation_calls_are_sound.Goals as goal

pub returns : goal.returns
returns g c = λ flow sound limits good p naming row s i is fits sized r. allocation_step_sound g.met.I.Lattice.order g.met.I.IntDomain.bounding flow limits good p naming row s r i is fits sized
