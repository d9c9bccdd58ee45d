use Rattle.c_parser_theorems.proofs.complete_declarations.Declarations.{bare_found, initialized_found}
use Rattle.c_parser_theorems.proofs.complete_declarations.theorems.file_declarators_are_found.Goals as goal

pub returns : goal.returns
returns c = record { bare = bare_found; initialized = initialized_found }
