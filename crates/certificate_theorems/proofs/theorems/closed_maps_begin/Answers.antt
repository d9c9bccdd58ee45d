use Rattle.certificate_theorems.proofs.sound.CertifiedMaps.{certified_begins}
use Rattle.certificate_theorems.proofs.theorems.closed_maps_begin.Goals as goal

pub returns : goal.returns
returns g c = λ flow list other wide laid few rows closed same u start.
    certified_begins g.met.I.Lattice.order g.met.I.Lattice.rounding g.met.I.Lattice.heights g.met.I.IntDomain.bounding g.met.I.Bounded.ends list wide flow laid few rows closed other same u start
