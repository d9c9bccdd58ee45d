use Rattle.typed_programs.proofs.memory.Loads.{loads}
use Rattle.typed_programs.proofs.theorems.loads_are_typed.Goals as goal

pub returns : goal.returns
returns c = loads
