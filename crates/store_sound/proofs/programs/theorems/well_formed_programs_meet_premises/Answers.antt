use Rattle.store_sound.proofs.programs.WellFormedPremises.{meets_premises, standard_held}
use Rattle.store_sound.proofs.programs.theorems.well_formed_programs_meet_premises.Goals as goal

pub returns : goal.returns
returns c = record {
  programs = λ limits flow held h. meets_premises limits flow held h;
  standard = standard_held;
}
