use Rattle.row_bounds.proofs.entries.RegularStarts.{regular_own}
use Rattle.row_bounds.proofs.theorems.start_rows_are_own.Goals as goal

pub returns : goal.returns
returns c = λ flow list h reaches row left e q. regular_own flow list h reaches row left e q
