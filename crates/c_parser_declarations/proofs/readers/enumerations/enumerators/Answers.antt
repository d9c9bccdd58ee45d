use Rattle.c_layout.specs.DeclarationTrees.{enumerator_view}
use Rattle.c_parser_declarations.proofs.grammar.Listing.{map_snoc, items_more, enumerators_listed, enumerators_trailed}
use Rattle.c_parser_declarations.proofs.grammar.Turns.{braced_turn, braced_none, braced_unclosed, braced_last, braced_trailed, braced_over}
use Rattle.c_parser_declarations.proofs.readers.Signs.{no_right_brace}
use Rattle.c_parser_expressions.proofs.Signs.{no_comma}
use Rattle.std.proofs.Common.{◌+◌, arith}
use Rattle.std.proofs.lemmas.Result.{err_from_is_err_and}
use Rattle.c_parser_declarations.proofs.readers.enumerations.enumerators.Goals as goal

pub loop-turn-preserved : goal.loop-turn-preserved
loop-turn-preserved c = record {
  found =
      rw c.if-accept.ensures.no
      (items_more (enumerator_view c.in_ok-next.next.tree) c.loop-turn.invariant.found c.in_ok-next.ensures.found.derives c.in_ok-next.ensures.found.height c.in_ok-next.ensures.found.within c.if-not-accept.ensures.yes
      (map_snoc enumerator_view c.loop-turn.found.items c.push.new.self.items c.in_ok-next.next.tree c.in_ok-push.ensures.items) c.max-height.ensures);
  read =
      rw c.if-accept.ensures.no
      (braced_turn (omega (arith, c.loop-turn-test.true, c.left-turn-end.ensures)) c.in_ok-next.ensures.read c.if-not-accept.ensures.yes.symbol c.if-not-accept.ensures.yes.behind (no_right_brace _ c.if-accept.ensures.other) c.loop-turn.invariant.read
      (map_snoc enumerator_view c.loop-turn.found.items c.push.new.self.items c.in_ok-next.next.tree c.in_ok-push.ensures.items) c.max-height.ensures);
}

pub returns-then-not-accept-clause-found : goal.returns-then-not-accept-clause-found
returns-then-not-accept-clause-found c =
    enumerators_listed c.loop-turn.invariant.found c.in_ok-next.ensures.found c.if-not-accept.ensures.no c.in_ok-expect.ensures.sign
    (map_snoc enumerator_view c.loop-turn.found.items c.push.new.self.items c.in_ok-next.next.tree c.in_ok-push.ensures.items) c.max-height.ensures

pub returns-then-accept-clause-found : goal.returns-then-accept-clause-found
returns-then-accept-clause-found c =
    enumerators_trailed c.loop-turn.invariant.found c.in_ok-next.ensures.found c.if-not-accept.ensures.yes c.if-accept.ensures.yes
    (map_snoc enumerator_view c.loop-turn.found.items c.push.new.self.items c.in_ok-next.next.tree c.in_ok-push.ensures.items) c.max-height.ensures

pub returns-in_err-next-clause-read : goal.returns-in_err-next-clause-read
returns-in_err-next-clause-read c =
    let p = err_from_is_err_and c.from_residual.result c.from_residual.ensures.1 in
    rw (p.1, p.2) (λ s. braced_none (omega (arith, c.loop-turn-test.true, c.left-turn-end.ensures)) (c.in_err-next.ensures.read s) c.loop-turn.invariant.read)

pub returns-in_err-expect-clause-read : goal.returns-in_err-expect-clause-read
returns-in_err-expect-clause-read c =
    let p = err_from_is_err_and c.from_residual-in_err-expect.result c.from_residual-in_err-expect.ensures.1 in
    rw (p.1, p.2) (λ s. braced_unclosed (omega (arith, c.loop-turn-test.true, c.left-turn-end.ensures)) c.in_ok-next.ensures.read (no_comma _ c.if-not-accept.ensures.other) (no_right_brace _ (rw c.if-not-accept.ensures.no at c.in_err-expect.ensures.refused.1)) c.loop-turn.invariant.read)

pub returns-then-not-accept-clause-read : goal.returns-then-not-accept-clause-read
returns-then-not-accept-clause-read c =
    braced_last (omega (arith, c.loop-turn-test.true, c.left-turn-end.ensures)) c.in_ok-next.ensures.read (no_comma _ c.if-not-accept.ensures.other) (rw c.if-not-accept.ensures.no at c.in_ok-expect.ensures.sign.symbol) (rw c.if-not-accept.ensures.no at c.in_ok-expect.ensures.sign.behind) c.loop-turn.invariant.read
    (map_snoc enumerator_view c.loop-turn.found.items c.push.new.self.items c.in_ok-next.next.tree c.in_ok-push.ensures.items) c.max-height.ensures

pub returns-then-accept-clause-read : goal.returns-then-accept-clause-read
returns-then-accept-clause-read c =
    braced_trailed (omega (arith, c.loop-turn-test.true, c.left-turn-end.ensures)) c.in_ok-next.ensures.read c.if-not-accept.ensures.yes.symbol c.if-not-accept.ensures.yes.behind c.if-accept.ensures.yes.symbol c.if-accept.ensures.yes.behind c.loop-turn.invariant.read
    (map_snoc enumerator_view c.loop-turn.found.items c.push.new.self.items c.in_ok-next.next.tree c.in_ok-push.ensures.items) c.max-height.ensures

pub returns-clause-read : goal.returns-clause-read
returns-clause-read c = λ s. braced_over (omega (arith, c.loop-turn-test.false, c.left-turn-end.ensures)) c.loop-turn.invariant.read
