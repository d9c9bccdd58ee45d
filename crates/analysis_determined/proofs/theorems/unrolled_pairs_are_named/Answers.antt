use Rattle.analysis_determined.proofs.unrolled_diagnostics.UnrolledAnalyses.{still_named}
use Rattle.analysis_determined.proofs.theorems.unrolled_pairs_are_named.Goals as goal

pub returns : goal.returns
returns c = λ turns flow turned list valid h found pairs p q d e. still_named turns flow turned list valid h found pairs p q d e
