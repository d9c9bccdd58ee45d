use Rattle.worked_examples.proofs.typed_unit.TypedDivision.{program, typed_division}
use Rattle.worked_examples.proofs.theorems.divisions_by_pointed_numbers_are_typed.Goals as goal

pub returns : goal.returns
returns c = λ some. (program some, typed_division some)
