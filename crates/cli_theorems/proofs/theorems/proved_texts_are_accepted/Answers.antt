use Rattle.cli_theorems.proofs.certificates.Told.{proved_is_not_refused, shows_runs}
use Rattle.cli_theorems.proofs.certificates.Answered.{never_answered_so}
use Rattle.cli_theorems.proofs.theorems.proved_texts_are_accepted.Goals as goal

pub returns : goal.returns
returns c = record {
  refused = λ seen command cert h name why is. proved_is_not_refused seen command cert h name why is;
  answered = λ seen command cert h sink status answers is. never_answered_so seen command cert h sink status answers is;
  runs = λ seen command cert h none form names unit shown is checking same other others again diags also. shows_runs seen command cert h none form names unit shown is checking same other others again diags also;
}
