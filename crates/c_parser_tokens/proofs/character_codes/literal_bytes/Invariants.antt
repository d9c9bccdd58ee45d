use Rattle.std.proofs.Common.{◌≡◌, ◌-◌, length}
use Rattle.c_parser_tokens.specs.CharacterCodes.{codes_after, literal_bytes}
use Rattle.c_parser_tokens.proofs.character_codes.literal_bytes.Given as goal

abbrev pub invariant-loop-turn : goal.invariant-loop-turn
invariant-loop-turn l = codes_after (length l.text - l._turn) l.bytes l.rest ≡ literal_bytes l.text
