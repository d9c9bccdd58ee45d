use Rattle.transfer_sound.proofs.tests.IntegerTests.{test_sound}
use Rattle.transfer_sound.proofs.theorems.integer_tests_are_sound.Goals as goal

pub returns : goal.returns
returns g c = λ flow sound p test t naming row s r. test_sound g.met.I.Lattice.order g.met.I.IntDomain.bounding sound flow p naming row s r test t
