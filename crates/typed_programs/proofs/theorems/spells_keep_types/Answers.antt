use Rattle.typed_programs.proofs.memory.Objects.{spells}
use Rattle.typed_programs.proofs.theorems.spells_keep_types.Goals as goal

pub returns : goal.returns
returns c = spells
