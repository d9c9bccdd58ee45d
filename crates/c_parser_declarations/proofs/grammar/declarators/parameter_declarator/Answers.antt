use Rattle.c_parser_declarations.proofs.grammar.Layers.{declared}
use Rattle.c_parser_declarations.proofs.grammar.declarators.parameter_declarator.Goals as goal

pub returns-clause-found : goal.returns-clause-found
returns-clause-found c = declared c.in_ok-parts.ensures.found c.declarator_of-whole.ensures.tree c.declarator_of-whole.ensures.height
