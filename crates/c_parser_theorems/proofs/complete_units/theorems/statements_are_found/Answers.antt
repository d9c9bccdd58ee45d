use Rattle.c_parser_theorems.proofs.complete_units.Blocks.{block_found, statement_found}
use Rattle.c_parser_theorems.proofs.complete_units.theorems.statements_are_found.Goals as goal

pub returns : goal.returns
returns c = record {
  statements = λ known b s ts rest d some ends small room. statement_found known s b ts rest d some ends small room;
  blocks = block_found;
}
