use Rattle.transfer_exact.proofs.edges.PointerTests.{pointer_test_told}
use Rattle.transfer_exact.proofs.theorems.pointer_tests_are_exact.Goals as goal

pub returns : goal.returns
returns g c = λ flow test is naming row s r t d. pointer_test_told _ _ flow row s t test is d
