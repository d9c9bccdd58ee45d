use Rattle.typed_programs.proofs.memory.Objects.{enters}
use Rattle.typed_programs.proofs.theorems.enters_keep_types.Goals as goal

pub returns : goal.returns
returns c = enters
