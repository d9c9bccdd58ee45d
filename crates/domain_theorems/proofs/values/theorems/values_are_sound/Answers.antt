use Rattle.domain_theorems.proofs.values.ValueStands.{value_meaning}
use Rattle.domain_theorems.proofs.values.theorems.values_are_sound.Goals as goal

pub returns : goal.returns
returns g c = λ s. value_meaning g.met.I.IntDomain.bounding s
