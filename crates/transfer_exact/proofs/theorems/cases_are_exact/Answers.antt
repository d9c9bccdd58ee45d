use Rattle.transfer_exact.proofs.edges.CaseTests.{case_test_told}
use Rattle.transfer_exact.proofs.theorems.cases_are_exact.Goals as goal

pub returns : goal.returns
returns g c = λ flow p value b is naming row s r t d. case_test_told g.met.I.Lattice.order g.met.I.IntDomain.bounding flow p naming row s r t value b is d
