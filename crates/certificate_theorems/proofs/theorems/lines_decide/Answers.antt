use Rattle.certificate_theorems.proofs.reading.ReadAlike.{lines_alike}
use Rattle.certificate_theorems.proofs.theorems.lines_decide.Goals as goal

pub returns : goal.returns
returns c = lines_alike
