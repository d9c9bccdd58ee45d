use Rattle.system_monotone.proofs.systems.WellFormed.{laid_out}
use Rattle.system_monotone.proofs.theorems.well_formed_programs_are_laid_out.Goals as goal

pub returns : goal.returns
returns c = λ limits flow h few. laid_out limits flow h few
