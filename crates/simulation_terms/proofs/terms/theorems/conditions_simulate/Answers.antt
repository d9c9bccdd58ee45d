use Rattle.simulation_terms.proofs.terms.Terms.{terms}
use Rattle.simulation_terms.proofs.terms.theorems.conditions_simulate.Goals as goal

pub returns : goal.returns
returns c = λ t s fits n e decision suits enough p ps r makes none known held failed items rest on_yes on_no stands to_yes to_no f g. (terms s t fits n e).decided decision suits enough p none ps r makes known held failed items rest on_yes on_no stands to_yes to_no f g
