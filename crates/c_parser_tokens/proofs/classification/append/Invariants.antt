use Rattle.std.proofs.Common.{◌≡◌, ◌++◌, take}
use Rattle.c_parser_tokens.proofs.classification.append.Given as goal

abbrev pub invariant-loop-b : goal.invariant-loop-b
invariant-loop-b l = l.to ≡ l.fn.to ++ take l.b-index l.bytes
