use Rattle.typed_programs.proofs.memory.Copies.{copies}
use Rattle.typed_programs.proofs.theorems.copies_keep_types.Goals as goal

pub returns : goal.returns
returns c = copies
