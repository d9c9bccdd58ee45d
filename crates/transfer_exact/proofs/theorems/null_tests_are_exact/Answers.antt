use Rattle.transfer_exact.proofs.edges.NullTests.{null_test_told}
use Rattle.transfer_exact.proofs.theorems.null_tests_are_exact.Goals as goal

pub returns : goal.returns
returns g c = λ flow p test is naming row s r t d. null_test_told g.met.I.IntDomain.bounding flow p naming row s r t test is d
