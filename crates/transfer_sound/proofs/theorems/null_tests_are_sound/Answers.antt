use Rattle.transfer_sound.proofs.tests.NullTests.{null_test_sound}
use Rattle.transfer_sound.proofs.theorems.null_tests_are_sound.Goals as goal

pub returns : goal.returns
returns g c = λ flow p test t naming row s r. null_test_sound g.met.I.IntDomain.bounding flow p naming row s r test t
