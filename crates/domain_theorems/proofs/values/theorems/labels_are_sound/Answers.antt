use Rattle.domain_theorems.proofs.values.LabelStands.{label_meaning}
use Rattle.domain_theorems.proofs.values.theorems.labels_are_sound.Goals as goal

pub returns : goal.returns
returns g c = label_meaning g.met.I.IntDomain.bounding
