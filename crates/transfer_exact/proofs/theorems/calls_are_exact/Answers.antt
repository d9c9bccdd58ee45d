use Rattle.transfer_exact.proofs.calls.PlainCalls.{call_told}
use Rattle.transfer_exact.proofs.theorems.calls_are_exact.Goals as goal

pub returns : goal.returns
returns g c = λ flow sound exact p naming row s o is fits typed right r t d. call_told g.met.I.IntDomain.bounding exact flow p naming row s r t o is fits d
