use Rattle.typed_lowering.proofs.bases.NamedTypes.{names_typed}
use Rattle.typed_lowering.proofs.theorems.names_are_typed.Goals as goal

pub returns : goal.returns
returns c = names_typed
