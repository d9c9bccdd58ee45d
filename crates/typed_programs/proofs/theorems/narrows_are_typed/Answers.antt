use Rattle.typed_programs.proofs.memory.Pointers.{narrows}
use Rattle.typed_programs.proofs.theorems.narrows_are_typed.Goals as goal

pub returns : goal.returns
returns c = narrows
