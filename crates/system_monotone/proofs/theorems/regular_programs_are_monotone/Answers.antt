use Rattle.system_monotone.proofs.systems.RegularSystems.{regular_monotone}
use Rattle.system_monotone.proofs.theorems.regular_programs_are_monotone.Goals as goal

pub returns : goal.returns
returns c = λ flow list h. regular_monotone flow list h
