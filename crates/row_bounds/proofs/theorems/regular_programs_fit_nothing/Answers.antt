use Rattle.row_bounds.proofs.edges.IntervalSystems.{regular_fit_nothing, regular_inductive}
use Rattle.row_bounds.proofs.theorems.regular_programs_fit_nothing.Goals as goal

pub returns : goal.returns
returns c = record {
  edges = λ flow list h reaches number row own. regular_fit_nothing flow list h reaches number row own;
  maps = λ flow list h reaches rows. regular_inductive flow list h reaches rows;
}
