use Rattle.certificate_theorems.proofs.verdicts.VerdictProofs.{closed_if_accepted}
use Rattle.certificate_theorems.proofs.theorems.accepted_texts_are_closed_maps.Goals as goal

pub returns : goal.returns
returns c = closed_if_accepted
