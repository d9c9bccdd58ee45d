-- Where an expression ends: which symbols go on with an operand.
use Rattle.std.specs.Prelude.{ℕ, ◌+◌, ◌≤◌, List, min}
use Rattle.c_parser_tokens.specs.declared.terminals.Terminal.{Terminal}
use Rattle.c_parser_expression_grammar.specs.Continuations.{Continuation, Arguments, Index, OfObject, OfPointer, Stepped, With, Joined, Asks, Becomes, Follows, Nothing, continuation_of}
use Rattle.c_parser_expression_grammar.specs.Fronts.{first_symbol}
use Rattle.c_parser_expression_grammar.specs.Levels.{binary_level, logical_level}

-- the least level above those at which it goes on; 0 for what begins nothing
abbrev pub power : Continuation → ℕ
power Arguments = 17
power Index = 16
power OfObject = 16
power OfPointer = 16
power (Stepped op) = 16
power (With op) = binary_level op + 1
power (Joined op) = logical_level op + 1
power Asks = 3
power (Becomes op) = 2
power Follows = 1
power Nothing = 0

-- nothing behind an operand of a level goes on with it
abbrev pub EndsBefore : ℕ → List Terminal → Type 0
EndsBefore l rest = power (continuation_of (first_symbol rest)) ≤ min l 13
