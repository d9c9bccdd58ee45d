use Rattle.c_layout.specs.DeclarationTrees.{local_view}
use Rattle.c_parser.proofs.Parts.{declares}
use Rattle.c_parser.proofs.statement_parts.first_local.Goals as goal

pub returns-clause-found : goal.returns-clause-found
returns-clause-found c = declares (local_view c.in_ok-found.found.tree) c.in_ok-found.ensures.found
