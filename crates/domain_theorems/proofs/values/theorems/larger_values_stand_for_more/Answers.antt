use Rattle.domain_theorems.proofs.values.Larger.{larger_meaning}
use Rattle.domain_theorems.proofs.values.theorems.larger_values_stand_for_more.Goals as goal

pub returns : goal.returns
returns g c = larger_meaning g.met.I.IntDomain.bounding
