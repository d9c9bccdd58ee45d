use Rattle.unit_exact.proofs.case_edges.ApartPrograms.{edges_apart}
use Rattle.unit_exact.proofs.theorems.programs_switch_apart.Goals as goal

pub returns : goal.returns
returns c = edges_apart
