use Rattle.typed_lowering.proofs.bases.FirstTypes.{objects_typed}
use Rattle.typed_lowering.proofs.theorems.first_objects_are_typed.Goals as goal

pub returns : goal.returns
returns c = objects_typed
