use Rattle.c_parser_theorems.proofs.unique_units.Uniting.{one_tree}
use Rattle.c_parser_theorems.proofs.unique_units.theorems.one_tree.Goals as goal

pub returns : goal.returns
returns c = one_tree
