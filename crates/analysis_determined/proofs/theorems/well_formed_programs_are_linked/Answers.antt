use Rattle.analysis_determined.proofs.unrolled_runs.LinkedPrograms.{linked}
use Rattle.analysis_determined.proofs.theorems.well_formed_programs_are_linked.Goals as goal

pub returns : goal.returns
returns c = λ limits flow good. linked limits flow good
