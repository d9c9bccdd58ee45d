use Rattle.transfer_sound.proofs.tests.PointerTests.{pointer_test_sound}
use Rattle.transfer_sound.proofs.theorems.pointer_tests_are_sound.Goals as goal

pub returns : goal.returns
returns g c = λ flow test t naming row s r. pointer_test_sound flow naming row s r test t
