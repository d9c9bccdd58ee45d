use Rattle.analysis_sound.proofs.units.SoundUnits.{units_found}
use Rattle.analysis_sound.proofs.theorems.unit_runs_are_found.Goals as goal

pub returns : goal.returns
returns c = λ flow list found a. units_found flow list found a
