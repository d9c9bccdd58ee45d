use Rattle.c_parser_theorems.proofs.unique_units.Uniting.{external_fix}
use Rattle.c_parser_theorems.proofs.unique_units.theorems.one_external_declaration.Goals as goal

pub returns : goal.returns
returns c = external_fix
