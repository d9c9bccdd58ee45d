use Rattle.simulation_layout.proofs.function_checks.CountedLabels.{labels_once, function_labelled}
use Rattle.simulation_layout.proofs.theorems.functions_are_labelled.Goals as goal

pub returns : goal.returns
returns c = λ f e. function_labelled f (labels_once f e)
