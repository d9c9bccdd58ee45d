use Rattle.std.proofs.Common.{length, ◌∙◌, sym, arith}
use Rattle.c_parser_tokens.specs.CharacterCodes.{character_at}
use Rattle.c_parser_tokens.proofs.Codes.{codes_fail, codes_next}
use Rattle.c_parser_tokens.proofs.character_codes.literal_bytes.Goals as goal

pub returns-in_default : goal.returns-in_default
returns-in_default c =
    sym (codes_fail (length c.args.text.now) c.loop-turn._turn c.loop-turn.bytes c.loop-turn.rest.now (omega arith) c.if-is_empty.ensures c.in_default.ensures)
    ∙ c.loop-turn.invariant

pub loop-turn-preserved : goal.loop-turn-preserved
loop-turn-preserved c =
    sym (codes_next (length c.args.text.now) c.loop-turn._turn c.loop-turn.bytes c.push.new.self c.loop-turn.rest.now (character_at c.in-Some.found) (omega arith) c.in-Some.ensures c.in_ok-push.ensures.ok)
    ∙ c.loop-turn.invariant
