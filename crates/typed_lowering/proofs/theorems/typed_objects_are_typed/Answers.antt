use Rattle.typed_lowering.proofs.starts.TypedObjects.{objects_are}
use Rattle.typed_lowering.proofs.theorems.typed_objects_are_typed.Goals as goal

pub returns : goal.returns
returns c = λ u laid all. objects_are u laid all
