use Rattle.domain_theorems.proofs.values.EqualityStands.{equality_meaning}
use Rattle.domain_theorems.proofs.values.theorems.equality_is_sound.Goals as goal

pub returns : goal.returns
returns g c = equality_meaning g.met.I.IntDomain.bounding
