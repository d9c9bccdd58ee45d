use Rattle.typed_lowering.proofs.bases.OwnTypes.{locals_own}
use Rattle.typed_lowering.proofs.theorems.looped_locals_are_own.Goals as goal

pub returns : goal.returns
returns c = locals_own
