use Rattle.typed_lowering.proofs.starts.NormalizedTypes.{normalized_typed}
use Rattle.typed_lowering.proofs.theorems.normalized_templates_are_typed.Goals as goal

pub returns : goal.returns
returns c = λ u f calls used t table are all calm once typed. normalized_typed u f calls used t table are calm once typed
