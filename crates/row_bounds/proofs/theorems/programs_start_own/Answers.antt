use Rattle.row_bounds.proofs.entries.OwnStarts.{start_own, start_fits_nothing}
use Rattle.row_bounds.proofs.theorems.programs_start_own.Goals as goal

pub returns : goal.returns
returns g c = record {
  own = λ mono limits flow list w few bases texts near reaches row left e q.
      start_own g.met.I.Lattice.order g.met.I.Lattice.rounding g.met.I.Lattice.heights g.met.I.IntDomain.bounding mono
      g.met.I.IntDomain.ranges g.met.I.Bounded.ends limits flow list w few bases texts near reaches row left e q;
  fits = λ mono limits flow list w few bases texts near reaches s.
      start_fits_nothing g.met.I.Lattice.order g.met.I.Lattice.rounding g.met.I.Lattice.heights
      g.met.I.IntDomain.bounding mono g.met.I.IntDomain.ranges g.met.I.Bounded.ends
      limits flow list w few bases texts near reaches s;
}
