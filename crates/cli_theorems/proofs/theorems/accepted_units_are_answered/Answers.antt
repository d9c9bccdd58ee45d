use Rattle.cli_theorems.proofs.units.Told.{accepted_is_reported, accepted_is_answered}
use Rattle.cli_theorems.proofs.units.ToldLoad.{accepted_is_summed}
use Rattle.cli_theorems.proofs.theorems.accepted_units_are_answered.Goals as goal

pub returns : goal.returns
returns c = record { reported = accepted_is_reported; answered = accepted_is_answered; summed = accepted_is_summed }
