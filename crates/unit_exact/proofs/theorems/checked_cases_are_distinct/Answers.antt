use Rattle.unit_exact.proofs.case_labels.Units.{cases_are_distinct}
use Rattle.unit_exact.proofs.theorems.checked_cases_are_distinct.Goals as goal

pub returns : goal.returns
returns c = cases_are_distinct
