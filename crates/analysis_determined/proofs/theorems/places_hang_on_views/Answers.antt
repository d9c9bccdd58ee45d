use Rattle.analysis_determined.proofs.syntactic_pairs.SameUnits.{same_places}
use Rattle.analysis_determined.proofs.theorems.places_hang_on_views.Goals as goal

pub returns : goal.returns
returns c = λ one other h. same_places one other h
