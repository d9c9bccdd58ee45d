use Rattle.certificate_theorems.proofs.lines.CellWords.{line_read}
use Rattle.certificate_theorems.proofs.theorems.lines_are_read_back.Goals as goal

pub returns : goal.returns
returns c = λ line h. line_read line h
