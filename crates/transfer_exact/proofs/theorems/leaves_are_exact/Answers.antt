use Rattle.transfer_exact.proofs.objects.ExactLeaves.{leave_step_told}
use Rattle.transfer_exact.proofs.theorems.leaves_are_exact.Goals as goal

pub returns : goal.returns
returns g c = λ flow p objects plain naming row s o is fits typed r t d. leave_step_told flow p plain naming row s r t o is fits d
