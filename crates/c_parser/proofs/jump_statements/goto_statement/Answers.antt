use Rattle.c_layout.specs.DeclarationTrees.{name_view}
use Rattle.c_parser.proofs.Jumps.{goto_found}
use Rattle.c_parser.proofs.jump_statements.goto_statement.Goals as goal

pub returns-clause-found : goal.returns-clause-found
returns-clause-found c =
    goto_found (name_view c.in_ok-label.label) c.in_ok-place.ensures.place c.in_ok-place.ensures.word c.in_ok-label.ensures.found c.in_ok-expect.ensures.sign c.goto-tree.ensures c.in_ok-height.ensures.height.0 c.in_ok-height.ensures.height.1
