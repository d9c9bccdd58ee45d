use Rattle.typed_programs.proofs.memory.Objects.{clears}
use Rattle.typed_programs.proofs.theorems.clears_keep_types.Goals as goal

pub returns : goal.returns
returns c = clears
