use Rattle.run_exact.proofs.struct_copies.ExactCopies.{copy_step_told}
use Rattle.run_exact.proofs.theorems.copies_are_exact.Goals as goal

pub returns : goal.returns
returns g c = λ flow exact structs p objects plain naming row s o typed fits operands r t d. copy_step_told g.met.I.Lattice.order g.met.I.IntDomain.bounding g.met.I.IntDomain.ranges exact flow p objects plain structs naming row s r t o typed fits d
