use Rattle.library_sound.proofs.spelling.SpellSteps.{spell_step_sound}
use Rattle.library_sound.proofs.theorems.spell_steps_are_sound.Goals as goal

pub returns : goal.returns
returns g c = λ flow limits good p naming row s i is fits typed r. spell_step_sound g.met.I.Lattice.order g.met.I.IntDomain.bounding flow p limits good naming row s r i is fits
