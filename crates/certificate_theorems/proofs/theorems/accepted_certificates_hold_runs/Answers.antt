use Rattle.certificate_theorems.proofs.sound.SoundCertificates.{holds_each_pair}
use Rattle.certificate_theorems.proofs.theorems.accepted_certificates_hold_runs.Goals as goal

pub returns : goal.returns
returns c = λ flow text found shown. holds_each_pair flow text found shown
