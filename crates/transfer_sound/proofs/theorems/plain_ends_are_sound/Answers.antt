use Rattle.transfer_sound.proofs.edges.EdgeSteps.{end_sound}
use Rattle.transfer_sound.proofs.theorems.plain_ends_are_sound.Goals as goal

pub returns : goal.returns
returns g c = λ flow sound limits p tests good naming row s i last is r. end_sound g.met.I.IntDomain.bounding sound flow p naming row s r limits good tests i last is
