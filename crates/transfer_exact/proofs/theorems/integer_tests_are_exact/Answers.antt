use Rattle.transfer_exact.proofs.tests.IntegerTests.{integer_test_told}
use Rattle.transfer_exact.proofs.theorems.integer_tests_are_exact.Goals as goal

pub returns : goal.returns
returns g c = λ flow sound exact p test is naming row s r t d. integer_test_told g.met.I.Lattice.order g.met.I.IntDomain.bounding sound exact flow p naming row s r t test is d
