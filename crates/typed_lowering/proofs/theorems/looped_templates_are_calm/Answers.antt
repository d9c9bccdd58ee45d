use Rattle.typed_lowering.proofs.looped_templates.CalmFunctions.{looped_calm}
use Rattle.typed_lowering.proofs.theorems.looped_templates_are_calm.Goals as goal

pub returns : goal.returns
returns c = looped_calm c.functions_are_labelled.ensures c.regular_functions_suit.ensures
