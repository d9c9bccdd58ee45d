use Rattle.store_sound.proofs.operations.TouchedRest.{touch_stands}
use Rattle.store_sound.proofs.operations.theorems.touches_are_sound.Goals as goal

pub returns : goal.returns
returns g c = λ flow shaped naming row w u temps entered s p at size writes spot st inside h. touch_stands g.met.I.Lattice.order g.met.I.IntDomain.bounding flow shaped naming row w temps entered s p size writes at spot u st inside h
