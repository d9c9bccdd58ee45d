use Rattle.analysis_sound.proofs.analyses.FoundRuns.{finds_each_pair}
use Rattle.analysis_sound.proofs.theorems.analyses_find_every_run.Goals as goal

pub returns : goal.returns
returns c = λ flow list found a u start v there. finds_each_pair flow list found a u start v there
