use Rattle.transfer_sound.proofs.tests.CaseSteps.{case_sound}
use Rattle.transfer_sound.proofs.theorems.cases_are_sound.Goals as goal

pub returns : goal.returns
returns g c = λ flow p value b t naming row s r. case_sound g.met.I.Lattice.order g.met.I.IntDomain.bounding flow p naming row s r value b t
