use Rattle.worked_examples.proofs.plain_unit.PlainDivision.{program, plain_division}
use Rattle.worked_examples.proofs.theorems.plain_units_may_load_and_store.Goals as goal

pub returns : goal.returns
returns c = λ some. (program some, plain_division some)
