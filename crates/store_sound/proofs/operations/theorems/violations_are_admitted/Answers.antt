use Rattle.store_sound.proofs.operations.TouchSound.{touch_admitted, load_admitted}
use Rattle.store_sound.proofs.operations.theorems.violations_are_admitted.Goals as goal

pub returns : goal.returns
returns g c = record {
  touches = λ flow shaped naming row w temps entered s p at size writes r st inside h. touch_admitted g.met.I.Lattice.order g.met.I.IntDomain.bounding flow shaped naming row w temps entered s p size writes at r st inside h;
  loads = λ flow shaped naming row w temps entered s p at kind r st inside h. load_admitted g.met.I.Lattice.order g.met.I.IntDomain.bounding flow shaped naming row w temps entered s p at kind r st inside h;
}
