use Rattle.typed_lowering.proofs.bases.OwnTypes.{types_own}
use Rattle.typed_lowering.proofs.theorems.short_types_are_own.Goals as goal

pub returns : goal.returns
returns c = types_own
