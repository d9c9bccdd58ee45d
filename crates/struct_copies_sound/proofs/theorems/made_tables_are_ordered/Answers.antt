use Rattle.struct_copies_sound.proofs.ordered_structs.MadeTables.{makes_ordered}
use Rattle.struct_copies_sound.proofs.theorems.made_tables_are_ordered.Goals as goal

pub returns : goal.returns
returns g = makes_ordered
