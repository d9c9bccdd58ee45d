use Rattle.library_sound.proofs.appends.AppendWrites.{append_stands}
use Rattle.library_sound.proofs.theorems.append_writes_are_sound.Goals as goal

pub returns : goal.returns
returns g c = λ flow naming row state laid s new i offset size region sane write k added unknown is t text counted ends here single.
    append_stands g.met.I.Lattice.order g.met.I.IntDomain.bounding flow naming row state laid s new i offset size region sane write k added unknown is t text counted ends here single
