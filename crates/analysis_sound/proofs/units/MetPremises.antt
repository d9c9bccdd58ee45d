-- All premises hold of the worked program, and each analysis of it finds what its run violates.
use Rattle.cfg.specs.declared.programs.Flow.{Flow}
use Rattle.transfer_sound.specs.CutStarts.{type_list}
use Rattle.analysis_sound.specs.Units.WorkedPrograms.{MeetsAllPremises, IsFoundIn}
use Rattle.analysis_sound.proofs.units.SoundUnits.{units_found}
use Rattle.analysis_sound.proofs.units.WorkedProgram.{program, unit, regular, started, checked, starts, violation, violated}
use Rattle.analysis_sound.proofs.units.WorkedOperands.{all_typed}

module _ (some : Flow) where
  pub meets : MeetsAllPremises (program some) type_list (unit some)
  meets = record {
    regular = regular some;
    started = started some;
    checked = checked some;
    typed = all_typed some;
    starts = starts some;
  }

  pub found : IsFoundIn (program some) type_list (unit some) (violation some)
  found = record {
    violated = violated some;
    all = λ list a. units_found (program some) type_list list a (unit some) (starts some) (violation some) (violated some);
  }
