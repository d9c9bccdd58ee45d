use Rattle.struct_copies_sound.proofs.copies.CopySteps.{copy_step_sound}
use Rattle.struct_copies_sound.proofs.theorems.copies_are_sound.Goals as goal

pub returns : goal.returns
returns g c = λ flow sound p h naming row s i is fits sized r. copy_step_sound g.met.I.Lattice.order g.met.I.IntDomain.bounding sound g.met.I.IntDomain.ranges flow p h naming row s r i is fits
