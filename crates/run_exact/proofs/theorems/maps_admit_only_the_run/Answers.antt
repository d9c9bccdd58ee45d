use Rattle.run_exact.proofs.runs.SingleRuns.{maps_admit}
use Rattle.run_exact.proofs.theorems.maps_admit_only_the_run.Goals as goal

pub returns : goal.returns
returns g c = λ flow list limits. maps_admit g.met.I.Lattice.order flow list limits
