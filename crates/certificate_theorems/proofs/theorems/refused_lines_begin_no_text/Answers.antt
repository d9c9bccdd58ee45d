use Rattle.certificate_theorems.proofs.reading.ReadAlike.{none_begins}
use Rattle.certificate_theorems.proofs.theorems.refused_lines_begin_no_text.Goals as goal

pub returns : goal.returns
returns c = none_begins
