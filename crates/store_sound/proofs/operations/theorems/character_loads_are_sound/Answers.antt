use Rattle.store_sound.proofs.operations.CharSound.{char_stands, char_blank}
use Rattle.store_sound.proofs.operations.theorems.character_loads_are_sound.Goals as goal

pub returns : goal.returns
returns g c = record {
  loads = λ sound flow shaped padding naming row w u temps entered s p at kind v char st inside h. char_stands g.met.I.Lattice.order g.met.I.IntDomain.bounding sound flow shaped padding naming row w temps entered s p at kind v u char st inside h;
  blanks = λ sound flow shaped padding naming row w temps entered s p at kind char st inside h. char_blank g.met.I.Lattice.order g.met.I.IntDomain.bounding sound flow shaped padding naming row w temps entered s p at kind char st inside h;
}
