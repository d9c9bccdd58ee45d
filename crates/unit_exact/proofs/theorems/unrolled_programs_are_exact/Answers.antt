use Rattle.unit_exact.proofs.unrolled.SingleCopies.{single_too}
use Rattle.unit_exact.proofs.theorems.unrolled_programs_are_exact.Goals as goal

pub returns : goal.returns
returns c = λ turns limits flow turned u good h single. single_too turns limits flow turned good h u single
