use Rattle.store_sound.proofs.operations.LoadSound.{load_stands, blank_flagged}
use Rattle.store_sound.proofs.operations.theorems.loads_are_sound.Goals as goal

pub returns : goal.returns
returns g c = record {
  loads = λ sound flow shaped naming row w u temps entered s p at kind v wide st inside h. load_stands g.met.I.Lattice.order g.met.I.IntDomain.bounding sound flow shaped naming row w temps entered s p at kind v u wide st inside h;
  blanks = λ sound flow shaped naming row w temps entered s p at kind wide st inside h. blank_flagged g.met.I.Lattice.order g.met.I.IntDomain.bounding sound flow shaped naming row w temps entered s p at kind wide st inside h;
}
