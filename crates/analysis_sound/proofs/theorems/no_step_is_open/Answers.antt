use Rattle.analysis_sound.proofs.analyses.OpenSteps.{open_sound}
use Rattle.analysis_sound.proofs.theorems.no_step_is_open.Goals as goal

pub returns : goal.returns
returns g c = λ flow lines naming row s o goes fits typed reached. open_sound _ _ _ flow lines naming row s o goes fits typed reached
