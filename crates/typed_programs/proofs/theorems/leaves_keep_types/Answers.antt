use Rattle.typed_programs.proofs.memory.Objects.{leaves}
use Rattle.typed_programs.proofs.theorems.leaves_keep_types.Goals as goal

pub returns : goal.returns
returns c = leaves
