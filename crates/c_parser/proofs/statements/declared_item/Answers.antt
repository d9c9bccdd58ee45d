use Rattle.c_layout.specs.DeclarationTrees.{local_view}
use Rattle.c_parser.proofs.Bodies.{local_item}
use Rattle.c_parser.proofs.statements.declared_item.Goals as goal

pub returns-clause-found : goal.returns-clause-found
returns-clause-found c = local_item (local_view c.in_ok-found.found.tree) c.in_ok-found.ensures.found c.local_item-tree.ensures
