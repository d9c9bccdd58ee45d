use Rattle.row_bounds.proofs.edges.OwnEdges.{fit_nothing, plain_inductive}
use Rattle.row_bounds.proofs.theorems.fits_change_nothing.Goals as goal

pub returns : goal.returns
returns g c = record {
  edges = λ mono flow list near reaches laid named rising number row own.
      fit_nothing g.met.I.Lattice.order g.met.I.Lattice.rounding g.met.I.Lattice.heights g.met.I.IntDomain.bounding mono g.met.I.IntDomain.ranges g.met.I.Bounded.ends flow list near reaches laid named rising number row own;
  maps = λ mono flow list near reaches laid named rising rows.
      plain_inductive g.met.I.Lattice.order g.met.I.Lattice.rounding g.met.I.Lattice.heights g.met.I.IntDomain.bounding mono g.met.I.IntDomain.ranges g.met.I.Bounded.ends flow list near reaches laid named rising rows;
}
