use Rattle.c_parser_theorems.proofs.complete_units.Units.{refused}
use Rattle.c_parser_theorems.proofs.complete_units.theorems.refused_pieces_have_no_derivation.Goals as goal

pub returns : goal.returns
returns c before ts rest all some room none = refused before ts rest all some room none
