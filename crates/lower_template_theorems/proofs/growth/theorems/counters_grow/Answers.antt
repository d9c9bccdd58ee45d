use Rattle.lower_template_theorems.proofs.growth.GrowingWorks.{grows}
use Rattle.lower_template_theorems.proofs.growth.theorems.counters_grow.Goals as goal

pub returns : goal.returns
returns c = λ s p js ps r m. grows s p js ps r m
