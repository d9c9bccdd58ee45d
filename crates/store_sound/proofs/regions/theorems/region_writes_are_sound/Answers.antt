use Rattle.store_sound.proofs.regions.BaseRows.{writes_stand}
use Rattle.store_sound.proofs.regions.theorems.region_writes_are_sound.Goals as goal

pub returns : goal.returns
returns g c = λ flow naming row state k s new i offset size region sane set f within here each.
    writes_stand g.met.I.Lattice.order g.met.I.IntDomain.bounding flow naming row state k s new i offset size region sane set f within here each
