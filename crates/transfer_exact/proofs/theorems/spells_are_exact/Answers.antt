use Rattle.transfer_exact.proofs.spelling.ExactSpells.{spell_step_told}
use Rattle.transfer_exact.proofs.theorems.spells_are_exact.Goals as goal

pub returns : goal.returns
returns g c = λ flow p objects plain naming row s o is fits typed r t d. spell_step_told g.met.I.IntDomain.bounding flow p objects plain naming row s r t o is fits d
