use Rattle.cli_theorems.proofs.units.NotRefused.{refused_for_turns, accepted_not_refused, judged_not_refused}
use Rattle.cli_theorems.proofs.theorems.accepted_units_are_not_refused.Goals as goal

pub returns : goal.returns
returns c = record { turns = refused_for_turns; accepted = accepted_not_refused; judged = judged_not_refused }
