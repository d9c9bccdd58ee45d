use Rattle.certificate_theorems.proofs.proved.AnalysedMaps.{inductive_closed}
use Rattle.certificate_theorems.proofs.theorems.inductive_maps_are_closed.Goals as goal

pub returns : goal.returns
returns c = λ flow list h reaches started rows m. inductive_closed flow list h reaches started rows m
