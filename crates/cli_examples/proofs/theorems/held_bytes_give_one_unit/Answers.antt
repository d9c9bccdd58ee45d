use Rattle.cli_examples.proofs.outcomes.WorkedAnswers.{named_model, expanded_from_held}
use Rattle.cli_examples.proofs.theorems.held_bytes_give_one_unit.Goals as goal

pub returns : goal.returns
returns c = record { model = named_model; unit = expanded_from_held c.held_bytes_are_expanded.ensures }
