use Rattle.c_parser_theorems.proofs.complete_units.Units.{stops_first, stops_never}
use Rattle.c_parser_theorems.proofs.complete_units.theorems.parse_is_exact.Goals as goal

pub returns : goal.returns
returns c = record { first = stops_first; found = stops_never }
