use Rattle.cli_examples.proofs.units.Expanding.{unit_of, none_of}
use Rattle.cli_examples.proofs.theorems.held_bytes_are_expanded.Goals as goal

pub returns : goal.returns
returns c = record { tokens = unit_of; not_held = none_of }
