use Rattle.analysis_sound.proofs.analyses.Sites.{sites_there}
use Rattle.analysis_sound.proofs.theorems.calls_have_sites.Goals as goal

pub returns : goal.returns
returns c = λ flow h. sites_there flow h
