use Rattle.cli_examples.proofs.outcomes.OutcomeKinds.{outcome_by_status, one_outcome}
use Rattle.cli_examples.proofs.theorems.one_outcome.Goals as goal

pub returns : goal.returns
returns c = record { by_status = outcome_by_status; one = one_outcome }
