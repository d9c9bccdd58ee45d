use Rattle.analysis_determined.proofs.least_maps.LeastAnalyses.{least_alike, one_answer}
use Rattle.analysis_determined.proofs.theorems.two_solvers_agree.Goals as goal

pub returns : goal.returns
returns c = record {
  maps = λ flow list rows other p q. least_alike flow list rows other p q;
  answers = λ flow list found other p q. one_answer flow list found other p q;
}
