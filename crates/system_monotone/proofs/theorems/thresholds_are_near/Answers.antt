use Rattle.system_monotone.proofs.systems.NearPrograms.{near_thresholds}
use Rattle.system_monotone.proofs.theorems.thresholds_are_near.Goals as goal

pub returns : goal.returns
returns c = λ limits flow list h members t a. near_thresholds limits flow list h members t a
