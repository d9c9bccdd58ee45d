use Rattle.certificate_theorems.proofs.sound.WorkedCertificate.{program, text, found, unit, violation}
use Rattle.certificate_theorems.proofs.sound.WorkedAnalysis.{accepted}
use Rattle.certificate_theorems.proofs.theorems.premises_can_be_met.Goals as goal

pub returns : goal.returns
returns c = λ some. (program some, text, found some, unit some, violation some, accepted some)
