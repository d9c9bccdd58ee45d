use Rattle.transfer_sound.proofs.invariant_maps.CarriedMaps.{map_begins}
use Rattle.transfer_sound.proofs.theorems.inductive_maps_begin.Goals as goal

pub returns : goal.returns
returns g c = λ mono flow list near reaches laid named rising rows closed u start.
    map_begins g.met.I.Lattice.order g.met.I.Lattice.rounding g.met.I.Lattice.heights g.met.I.IntDomain.bounding mono g.met.I.IntDomain.ranges g.met.I.Bounded.ends flow list near reaches laid named rising rows closed u start
