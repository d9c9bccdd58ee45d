use Rattle.entry_sound.proofs.lowered.LoweredStarts.{lowered_starts}
use Rattle.entry_sound.proofs.theorems.lowered_programs_start.Goals as goal

pub returns : goal.returns
returns c = λ u limits flow is typed integers. lowered_starts u limits flow is typed integers
