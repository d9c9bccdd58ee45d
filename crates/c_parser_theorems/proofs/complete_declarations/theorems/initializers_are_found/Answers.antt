use Rattle.std.proofs.Common.{arith}
use Rattle.c_parser_theorems.proofs.complete_declarations.Initializers.{initializer_found}
use Rattle.c_parser_theorems.proofs.complete_declarations.theorems.initializers_are_found.Goals as goal

pub returns : goal.returns
returns c known b i ts rest d ends small = initializer_found known i b ts rest d ends (omega arith)
