use Rattle.c_parser_theorems.proofs.unique_units.Stating.{statement_fix}
use Rattle.c_parser_theorems.proofs.unique_units.theorems.one_statement.Goals as goal

pub returns : goal.returns
returns c = statement_fix
