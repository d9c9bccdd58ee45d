use Rattle.library_sound.proofs.texts.TextWrites.{text_write_stands}
use Rattle.library_sound.proofs.theorems.text_writes_are_sound.Goals as goal

pub returns : goal.returns
returns g c = λ flow naming row state laid s new i offset size region sane write k rule here single.
    text_write_stands g.met.I.Lattice.order g.met.I.IntDomain.bounding flow naming row state laid s new i offset size region sane write k rule here single
