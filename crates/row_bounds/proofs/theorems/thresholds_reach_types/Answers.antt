use Rattle.cfg.specs.StructNumbers.{flow_numbers}
use Rattle.system_monotone.proofs.systems.WellFormed.{has_model}
use Rattle.row_bounds.proofs.edges.Thresholds.{thresholds_reach}
use Rattle.row_bounds.proofs.theorems.thresholds_reach_types.Goals as goal

pub returns : goal.returns
returns c = λ limits flow list w t. thresholds_reach flow.model (flow_numbers flow) list (has_model limits flow w) t
