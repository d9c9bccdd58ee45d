use Rattle.certificate_theorems.proofs.proved.AcceptedTexts.{proved_accepted}
use Rattle.certificate_theorems.proofs.proved.ProvedTexts.{looked_at, not_cut}
use Rattle.certificate_theorems.proofs.theorems.proved_certificates_are_accepted.Goals as goal

pub returns : goal.returns
returns c = record {
  accepted = λ flow list text certificate. proved_accepted flow list text certificate;
  passes = λ flow list text certificate. looked_at flow list text certificate;
  whole = λ flow list text told certificate read. not_cut flow list text certificate told read;
}
