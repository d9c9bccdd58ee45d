use Rattle.row_bounds.proofs.entries.MissingStarts.{far_program, far_has_none}
use Rattle.row_bounds.proofs.theorems.regular_programs_may_have_no_start.Goals as goal

pub returns : goal.returns
returns c = λ some. (far_program some, far_has_none some)
