use Rattle.analysis_determined.proofs.analysis_views.OneAnalysis.{one_system, one_admission, one_analysis}
use Rattle.analysis_determined.proofs.theorems.analyses_hang_on_views.Goals as goal

pub returns : goal.returns
returns c = record {
  systems = λ f g h list. one_system f g h list;
  pairs = λ f g h rows. one_admission f g h rows;
  answers = λ f g h list found pairs p q. one_analysis f g h list found pairs p q;
}
