use Rattle.c_layout.specs.DeclarationTrees.{init_declarator_view}
use Rattle.c_parser_declarations.proofs.grammar.Listing.{map_snoc}
use Rattle.c_parser.proofs.Declaring.{one_further}
use Rattle.std.proofs.Common.{◌+◌, arith}
use Rattle.std.proofs.lemmas.Result.{err_from_is_err_and}
use Rattle.c_parser_expressions.proofs.Signs.{no_comma}
use Rattle.c_parser_declarations.proofs.readers.Signs.{no_semicolon}
use Rattle.c_parser.proofs.Turns.{further_turn, further_none, further_bad, further_stop, further_unended, further_last, further_endless}
use Rattle.c_parser.proofs.external_declarations.further_declarators.Goals as goal

pub loop-turn-preserved : goal.loop-turn-preserved
loop-turn-preserved c = record {
  found = one_further c.loop-turn.invariant.found c.if-not-accept.ensures.yes c.in_ok-name.ensures.found c.in_ok-name.ensures.names c.in_ok-next.ensures.found (map_snoc init_declarator_view c.loop-turn.found.items c.push.new.self.items c.in_ok-next.next.tree c.in_ok-push.ensures.items) c.max-height.ensures;
  read =
      further_turn (omega (arith, c.loop-turn-test.true, c.left-turn-end.ensures)) c.if-not-accept.ensures.yes.symbol c.if-not-accept.ensures.yes.behind c.in_ok-name.ensures.read c.in_ok-name.ensures.names c.in_ok-next.ensures.read c.loop-turn.invariant.read
      (map_snoc init_declarator_view c.loop-turn.found.items c.push.new.self.items c.in_ok-next.next.tree c.in_ok-push.ensures.items) c.max-height.ensures;
}

pub returns-in_err-expect-clause-read : goal.returns-in_err-expect-clause-read
returns-in_err-expect-clause-read c =
    let p = err_from_is_err_and c.from_residual.result c.from_residual.ensures.1 in
    rw (p.1, p.2) (λ s. further_unended (no_comma _ c.if-not-accept.ensures.other) (no_semicolon _ (rw c.if-not-accept.ensures.no at c.in_err-expect.ensures.refused.1)) c.loop-turn.invariant.read)

pub returns-then-not-accept-clause-read : goal.returns-then-not-accept-clause-read
returns-then-not-accept-clause-read c =
    further_stop (no_comma _ c.if-not-accept.ensures.other) (rw c.if-not-accept.ensures.no at c.in_ok-expect.ensures.sign.symbol) (rw c.if-not-accept.ensures.no at c.in_ok-expect.ensures.sign.behind) c.loop-turn.invariant.read

pub returns-in_err-name-clause-read : goal.returns-in_err-name-clause-read
returns-in_err-name-clause-read c =
    let p = err_from_is_err_and c.from_residual-in_err-name.result c.from_residual-in_err-name.ensures.1 in
    rw (p.1, p.2) (λ s. further_none (omega (arith, c.loop-turn-test.true, c.left-turn-end.ensures)) c.if-not-accept.ensures.yes.symbol c.if-not-accept.ensures.yes.behind (c.in_err-name.ensures.read s) c.loop-turn.invariant.read)

pub returns-in_err-next-clause-read : goal.returns-in_err-next-clause-read
returns-in_err-next-clause-read c =
    let p = err_from_is_err_and c.from_residual-in_err-next.result c.from_residual-in_err-next.ensures.1 in
    rw (p.1, p.2) (λ s. further_bad (omega (arith, c.loop-turn-test.true, c.left-turn-end.ensures)) c.if-not-accept.ensures.yes.symbol c.if-not-accept.ensures.yes.behind c.in_ok-name.ensures.read c.in_ok-name.ensures.names (c.in_err-next.ensures.read s) c.loop-turn.invariant.read)

pub returns-in_err-expect-2-clause-read : goal.returns-in_err-expect-2-clause-read
returns-in_err-expect-2-clause-read c =
    let p = err_from_is_err_and c.from_residual-in_err-expect-2.result c.from_residual-in_err-expect-2.ensures.1 in
    rw (p.1, p.2) (λ s. further_endless (omega (arith, c.loop-turn-test.false, c.left-turn-end.ensures)) (no_semicolon _ c.in_err-expect-2.ensures.refused.1) c.loop-turn.invariant.read)

pub returns-clause-read : goal.returns-clause-read
returns-clause-read c = further_last (omega (arith, c.loop-turn-test.false, c.left-turn-end.ensures)) c.in_ok-expect-2.ensures.sign.symbol c.in_ok-expect-2.ensures.sign.behind c.loop-turn.invariant.read
