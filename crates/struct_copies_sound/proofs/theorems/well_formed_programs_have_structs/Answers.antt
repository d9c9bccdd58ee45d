use Rattle.struct_copies_sound.proofs.structs.ListedStructs.{meets_structs}
use Rattle.struct_copies_sound.proofs.theorems.well_formed_programs_have_structs.Goals as goal

pub returns : goal.returns
returns g = meets_structs
