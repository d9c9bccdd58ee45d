use Rattle.c_parser_theorems.proofs.complete_declarations.Declarations.{local_declaration_found}
use Rattle.c_parser_theorems.proofs.complete_declarations.theorems.local_declarations_are_found.Goals as goal

pub returns : goal.returns
returns c = local_declaration_found
