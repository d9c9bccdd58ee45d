use Rattle.cli_theorems.proofs.certificates.SameUnits.{same_files}
use Rattle.cli_theorems.proofs.theorems.same_files_give_one_unit.Goals as goal

pub returns : goal.returns
returns c = λ command held. same_files command held
