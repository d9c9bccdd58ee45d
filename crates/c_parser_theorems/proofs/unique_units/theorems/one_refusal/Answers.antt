use Rattle.c_parser_theorems.proofs.unique_units.Uniting.{one_refusal, no_tree}
use Rattle.c_parser_theorems.proofs.unique_units.theorems.one_refusal.Goals as goal

pub returns : goal.returns
returns c = record { once = λ ts rest left d e. one_refusal ts rest left d e; apart = λ model tokens ts rest es is d e. no_tree model tokens ts rest es is d e }
