use Rattle.certificate_theorems.proofs.proved.ProvedTexts.{analysed, shown_found}
use Rattle.certificate_theorems.proofs.theorems.proved_certificates_show_analyses.Goals as goal

pub returns : goal.returns
returns c = record {
  analyses = λ flow list text verified certificate is. analysed flow list text certificate verified is;
  found = λ flow list text shown found certificate is also. shown_found flow list text certificate shown found is also;
}
