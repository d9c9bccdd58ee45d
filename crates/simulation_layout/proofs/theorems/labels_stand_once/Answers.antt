use Rattle.simulation_layout.proofs.function_checks.CountedLabels.{labels_once}
use Rattle.simulation_layout.proofs.theorems.labels_stand_once.Goals as goal

pub returns : goal.returns
returns c = labels_once
