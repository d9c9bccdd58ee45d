use Rattle.std.proofs.Common.{◌≡◌, [], drop}
use Rattle.c_parser_tokens.specs.Classes.{terminals_after}
use Rattle.c_parser_tokens.proofs.classification.all_terminals.Given as goal

abbrev pub invariant-loop-at : goal.invariant-loop-at
invariant-loop-at l = terminals_after l.unit.model l.terminals (drop l.at l.tokens) ≡ terminals_after l.unit.model [] l.tokens
