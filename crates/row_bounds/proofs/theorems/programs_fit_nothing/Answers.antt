use Rattle.row_bounds.proofs.edges.WellFormed.{formed_leaves_own, formed_fit_nothing, formed_inductive}
use Rattle.row_bounds.proofs.theorems.programs_fit_nothing.Goals as goal

pub returns : goal.returns
returns g c = record {
  left = λ mono limits flow list w few bases scalars near reaches spread block number row left own e.
      formed_leaves_own g.met.I.Lattice.order g.met.I.Lattice.rounding g.met.I.Lattice.heights g.met.I.IntDomain.bounding mono g.met.I.IntDomain.ranges g.met.I.Bounded.ends limits flow list w few bases scalars near reaches spread block number row left own e;
  edges = λ mono limits flow list w few bases scalars near reaches spread number row own.
      formed_fit_nothing g.met.I.Lattice.order g.met.I.Lattice.rounding g.met.I.Lattice.heights g.met.I.IntDomain.bounding mono g.met.I.IntDomain.ranges g.met.I.Bounded.ends limits flow list w few bases scalars near reaches spread number row own;
  maps = λ mono limits flow list w few bases scalars near reaches spread rows.
      formed_inductive g.met.I.Lattice.order g.met.I.Lattice.rounding g.met.I.Lattice.heights g.met.I.IntDomain.bounding mono g.met.I.IntDomain.ranges g.met.I.Bounded.ends limits flow list w few bases scalars near reaches spread rows;
}
