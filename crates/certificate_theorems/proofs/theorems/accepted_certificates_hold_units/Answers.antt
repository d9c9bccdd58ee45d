use Rattle.certificate_theorems.proofs.sound.SoundCertificates.{units_held, lowered_held, checked_held}
use Rattle.certificate_theorems.proofs.theorems.accepted_certificates_hold_units.Goals as goal

pub returns : goal.returns
returns c = record {
  units = λ flow text found shown. units_held flow text found shown;
  lowered = λ flow text found shown. lowered_held flow text found shown;
  checked = λ flow text found shown. checked_held flow text found shown;
}
