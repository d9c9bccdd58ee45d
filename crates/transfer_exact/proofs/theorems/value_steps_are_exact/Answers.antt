use Rattle.transfer_exact.proofs.values.ValueSteps.{value_step_told}
use Rattle.transfer_exact.proofs.theorems.value_steps_are_exact.Goals as goal

pub returns : goal.returns
returns g c = λ flow sound exact p naming row s o is fits typed right r t d. value_step_told g.met.I.IntDomain.bounding sound g.met.I.IntDomain.ranges exact flow p naming row s r t o is fits typed right d
