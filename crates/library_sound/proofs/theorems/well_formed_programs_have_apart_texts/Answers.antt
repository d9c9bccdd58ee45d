use Rattle.library_sound.proofs.appends.ApartTexts.{well_formed_apart}
use Rattle.library_sound.proofs.theorems.well_formed_programs_have_apart_texts.Goals as goal

pub returns : goal.returns
returns c = λ limits flow h. well_formed_apart limits flow h
