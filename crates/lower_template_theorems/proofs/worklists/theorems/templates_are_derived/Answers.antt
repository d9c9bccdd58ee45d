use Rattle.lower_template_theorems.proofs.worklists.Derivations.{derived}
use Rattle.lower_template_theorems.proofs.worklists.theorems.templates_are_derived.Goals as goal

pub returns : goal.returns
returns c = λ s p t f. derived s p t f
