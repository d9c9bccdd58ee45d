use Rattle.std.proofs.Common.{◌-◌, ◌+◌, refl, sym, ap, ◌∙◌, length, arith}
use Rattle.c_parser_expression_grammar.specs.Fronts.{first_symbol}
use Rattle.c_parser_expression_grammar.specs.TypeNames.{IsStar}
use Rattle.c_parser_expression_grammar.specs.TypeNameReaders.{stars, is_star}
use Rattle.c_parser_expressions.proofs.Listing.{chain_more}
use Rattle.c_parser_expressions.proofs.Prefixes.{stars_before, stars_turn, stars_stop}
use Rattle.c_parser_expressions.proofs.Signs.{no_star, not_so}
use Rattle.c_parser_expressions.proofs.pointer_stars.stars.Goals as goal

pub loop-turn-preserved : goal.loop-turn-preserved
loop-turn-preserved c = record {
  found =
      rw c.in_ok-push.ensures.items
      (chain_more IsStar c.loop-turn.found.items c.in_ok-star.field-0 c.args.reader.now c.loop-turn.reader c.star.new.reader c.loop-turn.invariant.found c.in_ok-star.ensures.found);
  read =
      c.loop-turn.invariant.read
      ∙ stars_turn c.loop-turn.found.items (length c.args.reader.now) c.loop-turn._turn c.loop-turn.reader c.star.new.reader c.in_ok-star.field-0 (omega (arith, c.loop-turn-test.true, c.left-turn-end.ensures))
      (ap is_star (c.if-not-is_at.ensures.0 refl)) c.in_ok-star.ensures.read
      ∙ ap (λ qs. stars_before qs (stars (length c.args.reader.now - (c.loop-turn._turn + 1)) c.star.new.reader)) (sym c.in_ok-push.ensures.items);
}

pub returns-then-not-is_at-clause-read : goal.returns-then-not-is_at-clause-read
returns-then-not-is_at-clause-read c =
    c.loop-turn.invariant.read ∙ stars_stop c.loop-turn.found.items (length c.args.reader.now) c.loop-turn._turn c.loop-turn.reader (no_star (first_symbol c.loop-turn.reader) (not_so c.if-not-is_at.ensures))
