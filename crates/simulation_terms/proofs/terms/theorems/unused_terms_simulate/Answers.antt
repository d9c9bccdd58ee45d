use Rattle.simulation_terms.proofs.terms.Terms.{terms}
use Rattle.simulation_terms.proofs.terms.theorems.unused_terms_simulate.Goals as goal

pub returns : goal.returns
returns c = λ t s fits n d e suits enough p ps r makes none known items rest stands f. ((terms s t fits n e).done d suits enough).from p none ps r makes known items rest stands f
