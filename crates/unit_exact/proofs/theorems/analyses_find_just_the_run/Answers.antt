use Rattle.unit_exact.proofs.analyses.SingleAnalyses.{finds_run}
use Rattle.unit_exact.proofs.theorems.analyses_find_just_the_run.Goals as goal

pub returns : goal.returns
returns c = λ flow list found a. finds_run flow list found a
