use Rattle.analysis_sound.proofs.units.SoundUnits.{lowered_found}
use Rattle.analysis_sound.proofs.theorems.lowered_runs_are_found.Goals as goal

pub returns : goal.returns
returns c = λ flow list found a. lowered_found flow list found a
