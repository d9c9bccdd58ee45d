use Rattle.c_parser_theorems.proofs.complete_units.Externals.{external_found}
use Rattle.c_parser_theorems.proofs.complete_units.theorems.external_declarations_are_found.Goals as goal

pub returns : goal.returns
returns c = external_found
