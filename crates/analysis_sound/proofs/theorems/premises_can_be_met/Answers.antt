use Rattle.analysis_sound.proofs.units.WorkedProgram.{program, unit, violation}
use Rattle.analysis_sound.proofs.units.MetPremises.{meets, found}
use Rattle.analysis_sound.proofs.theorems.premises_can_be_met.Goals as goal

pub returns : goal.returns
returns c = λ some. (program some, unit some, meets some, violation some, found some)
