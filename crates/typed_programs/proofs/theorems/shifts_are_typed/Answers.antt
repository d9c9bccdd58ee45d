use Rattle.typed_programs.proofs.memory.Pointers.{shifts}
use Rattle.typed_programs.proofs.theorems.shifts_are_typed.Goals as goal

pub returns : goal.returns
returns c = shifts
