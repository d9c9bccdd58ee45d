use Rattle.c_parser_theorems.proofs.complete_units.Units.{units_found}
use Rattle.c_parser_theorems.proofs.complete_units.theorems.units_are_found.Goals as goal

pub returns : goal.returns
returns c = units_found
