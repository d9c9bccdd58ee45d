use Rattle.analysis_sound.proofs.units.CheckedUnits.{checked_found, unrolled_checked_found}
use Rattle.analysis_sound.proofs.theorems.checked_runs_are_found.Goals as goal

pub returns : goal.returns
returns c = record {
  runs = λ flow list found a. checked_found flow list found a;
  turned = λ turns limits flow turned list found good h a. unrolled_checked_found turns limits flow turned list found good h a;
}
