use Rattle.entry_sound.proofs.tables.Beginnings.{runs_begin}
use Rattle.entry_sound.proofs.theorems.runs_begin_as_declared.Goals as goal

pub returns : goal.returns
returns c = λ flow. runs_begin flow
