use Rattle.domain_theorems.proofs.values.Together.{pointer_meaning}
use Rattle.domain_theorems.proofs.values.theorems.pointers_are_sound.Goals as goal

pub returns : goal.returns
returns g c = λ s. pointer_meaning g.met.I.IntDomain.bounding s
