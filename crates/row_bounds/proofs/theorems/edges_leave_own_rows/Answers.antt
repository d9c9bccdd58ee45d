use Rattle.row_bounds.proofs.edges.OwnEdges.{leaves_own}
use Rattle.row_bounds.proofs.theorems.edges_leave_own_rows.Goals as goal

pub returns : goal.returns
returns g c = λ mono flow list near reaches laid named rising block number row left own e.
    leaves_own g.met.I.Lattice.order g.met.I.Lattice.rounding g.met.I.Lattice.heights g.met.I.IntDomain.bounding mono g.met.I.IntDomain.ranges g.met.I.Bounded.ends flow list near reaches laid named rising block number row left own e
