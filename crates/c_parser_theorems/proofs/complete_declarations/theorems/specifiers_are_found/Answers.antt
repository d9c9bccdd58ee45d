use Rattle.c_parser_theorems.proofs.complete_declarations.Specifiers.{specifiers_found}
use Rattle.c_parser_theorems.proofs.complete_declarations.theorems.specifiers_are_found.Goals as goal

pub returns : goal.returns
returns c = specifiers_found
