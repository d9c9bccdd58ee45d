use Rattle.typed_programs.proofs.memory.Starts.{starts}
use Rattle.typed_programs.proofs.theorems.starts_are_typed.Goals as goal

pub returns : goal.returns
returns c = starts
