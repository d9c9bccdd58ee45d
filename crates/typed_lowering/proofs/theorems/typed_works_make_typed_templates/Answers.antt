use Rattle.typed_lowering.proofs.templates.TypedTemplates.{templates_are_typed}
use Rattle.typed_lowering.proofs.theorems.typed_works_make_typed_templates.Goals as goal

pub returns : goal.returns
returns c = templates_are_typed
