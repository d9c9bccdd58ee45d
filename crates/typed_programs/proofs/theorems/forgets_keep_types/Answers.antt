use Rattle.typed_programs.proofs.memory.Objects.{forgets}
use Rattle.typed_programs.proofs.theorems.forgets_keep_types.Goals as goal

pub returns : goal.returns
returns c = forgets
