use Rattle.unit_exact.proofs.analyses.SingleAnalyses.{finds_checked_run}
use Rattle.unit_exact.proofs.theorems.checked_units_find_just_their_run.Goals as goal

pub returns : goal.returns
returns c = λ flow list found a. finds_checked_run flow list found a
