use Rattle.std.proofs.Common.{arith}
use Rattle.c_parser_theorems.proofs.complete_declarations.Named.{named_found, parameter_declarator_found}
use Rattle.c_parser_theorems.proofs.complete_declarations.theorems.declarators_are_found.Goals as goal

pub returns : goal.returns
returns c = record {
  named = λ known b d ts rest is end small room. named_found known b d ts rest (is, room) end (omega arith);
  any = parameter_declarator_found;
}
