use Rattle.system_monotone.proofs.systems.RegularSystems.{apart_members}
use Rattle.system_monotone.proofs.theorems.apart_members_are_spread.Goals as goal

pub returns : goal.returns
returns c = λ limits flow h apart. apart_members limits flow h apart
