use Rattle.typed_lowering.proofs.starts.NormalizedCalm.{normalized_calm}
use Rattle.typed_lowering.proofs.theorems.normalized_templates_are_calm.Goals as goal

pub returns : goal.returns
returns c = λ calls t table once calm. normalized_calm table t once calls calm
