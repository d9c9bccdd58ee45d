use Rattle.library_sound.proofs.lines.LineEnds.{line_end_sound}
use Rattle.library_sound.proofs.theorems.line_ends_are_sound.Goals as goal

pub returns : goal.returns
returns g c = λ flow limits p good naming row s i last is r. line_end_sound g.met.I.Lattice.order g.met.I.IntDomain.bounding flow p naming row s r limits good i last is
