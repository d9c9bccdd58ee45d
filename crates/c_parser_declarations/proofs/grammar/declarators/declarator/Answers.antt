use Rattle.c_parser_declarations.proofs.grammar.Layers.{named}
use Rattle.c_parser_declarations.proofs.grammar.declarators.declarator.Goals as goal

pub returns-clause-found : goal.returns-clause-found
returns-clause-found c = named c.in_ok-stars.ensures.found c.in_ok-whole.ensures.found
