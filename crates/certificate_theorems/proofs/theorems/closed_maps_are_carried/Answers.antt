use Rattle.certificate_theorems.proofs.sound.CertifiedMaps.{certified_carried}
use Rattle.certificate_theorems.proofs.theorems.closed_maps_are_carried.Goals as goal

pub returns : goal.returns
returns g c = λ flow list wide laid few rows closed.
    certified_carried g.met.I.Lattice.order g.met.I.Lattice.rounding g.met.I.Lattice.heights g.met.I.IntDomain.bounding g.met.I.Bounded.ends list wide flow laid few rows closed
