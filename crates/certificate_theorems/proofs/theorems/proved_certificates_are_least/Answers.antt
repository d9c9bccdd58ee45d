use Rattle.certificate_theorems.proofs.proved.ProvedTexts.{least_map}
use Rattle.certificate_theorems.proofs.theorems.proved_certificates_are_least.Goals as goal

pub returns : goal.returns
returns c = λ flow list text certificate. least_map flow list text certificate
