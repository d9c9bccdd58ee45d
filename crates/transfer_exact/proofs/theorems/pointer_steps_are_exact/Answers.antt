use Rattle.transfer_exact.proofs.pointers.PointerSteps.{pointer_step_told}
use Rattle.transfer_exact.proofs.theorems.pointer_steps_are_exact.Goals as goal

pub returns : goal.returns
returns g c = λ flow exact p plain naming row s o is fits typed right r t d. pointer_step_told g.met.I.IntDomain.bounding exact flow p plain naming row s r t o is fits d
