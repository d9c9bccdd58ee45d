use Rattle.std.proofs.Common.{◌-◌, ◌+◌, sym, ap, ◌∙◌, length, arith}
use Rattle.c_parser_expression_grammar.specs.Fronts.{behind_first}
use Rattle.c_parser_expression_grammar.specs.TypeNameReaders.{qualifiers}
use Rattle.c_parser_expressions.proofs.Listing.{qualifiers_next}
use Rattle.c_parser_expressions.proofs.Prefixes.{count_before, qualifiers_turn, qualifiers_stop}
use Rattle.c_parser_expressions.proofs.pointer_stars.qualifiers.Goals as goal

pub loop-turn-preserved : goal.loop-turn-preserved
loop-turn-preserved c = record {
  found = qualifiers_next c.loop-turn.count c.in-Some.next c.args.reader.now c.loop-turn.reader c.take.new.self c.loop-turn.invariant.found c.if-not-is_at_qualifier.ensures c.in-Some.ensures.1 c.take.ensures.behind;
  read =
      c.loop-turn.invariant.read
      ∙ qualifiers_turn (length c.args.reader.now) c.loop-turn._turn c.loop-turn.count c.loop-turn.reader (omega (arith, c.loop-turn-test.true, c.left-turn-end.ensures)) (sym c.if-not-is_at_qualifier.ensures)
      ∙ ap (λ n. count_before n (qualifiers (length c.args.reader.now - (c.loop-turn._turn + 1)) (behind_first c.loop-turn.reader))) (sym c.in-Some.ensures.1)
      ∙ ap (λ ts. count_before c.in-Some.next (qualifiers (length c.args.reader.now - (c.loop-turn._turn + 1)) ts)) (sym c.take.ensures.behind);
}

pub returns-then-not-is_at_qualifier-clause-read : goal.returns-then-not-is_at_qualifier-clause-read
returns-then-not-is_at_qualifier-clause-read c =
    c.loop-turn.invariant.read ∙ qualifiers_stop (length c.args.reader.now) c.loop-turn._turn c.loop-turn.count c.loop-turn.reader (sym c.if-not-is_at_qualifier.ensures)
