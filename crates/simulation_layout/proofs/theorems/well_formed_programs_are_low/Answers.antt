use Rattle.simulation_layout.proofs.temporaries.LowPrograms.{low_programs}
use Rattle.simulation_layout.proofs.theorems.well_formed_programs_are_low.Goals as goal

pub returns : goal.returns
returns c = λ limits flow h room. low_programs limits flow h room
