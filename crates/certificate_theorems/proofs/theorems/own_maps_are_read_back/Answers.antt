use Rattle.certificate_theorems.proofs.round_trip.MapWords.{read_back}
use Rattle.certificate_theorems.proofs.theorems.own_maps_are_read_back.Goals as goal

pub returns : goal.returns
returns c = λ flow small rows size own. read_back flow small rows size own
