use Rattle.c_layout.specs.DeclarationTrees.{parameter_view}
use Rattle.c_parser_declarations.proofs.grammar.Listing.{map_snoc, items_more, items_last}
use Rattle.c_parser_declarations.proofs.grammar.Turns.{listed_turn, listed_none, listed_last, listed_over}
use Rattle.c_parser_expressions.proofs.Signs.{no_comma}
use Rattle.std.proofs.Common.{◌+◌, arith}
use Rattle.std.proofs.lemmas.Result.{err_from_is_err_and}
use Rattle.c_parser_declarations.proofs.readers.parameters.some_parameters.Goals as goal

pub loop-turn-preserved : goal.loop-turn-preserved
loop-turn-preserved c = record {
  found =
      items_more (parameter_view c.in_ok-next.next.tree) c.loop-turn.invariant.found c.in_ok-next.ensures.found.derives c.in_ok-next.ensures.found.height c.in_ok-next.ensures.found.within c.if-not-accept.ensures.yes
      (map_snoc parameter_view c.loop-turn.found.items c.push.new.self.items c.in_ok-next.next.tree c.in_ok-push.ensures.items) c.max-height.ensures;
  read =
      listed_turn (omega (arith, c.loop-turn-test.true, c.left-turn-end.ensures)) c.in_ok-next.ensures.read c.if-not-accept.ensures.yes.symbol c.if-not-accept.ensures.yes.behind c.loop-turn.invariant.read
      (map_snoc parameter_view c.loop-turn.found.items c.push.new.self.items c.in_ok-next.next.tree c.in_ok-push.ensures.items) c.max-height.ensures;
}

pub returns-then-not-accept-clause-found : goal.returns-then-not-accept-clause-found
returns-then-not-accept-clause-found c =
    items_last (parameter_view c.in_ok-next.next.tree) c.loop-turn.invariant.found c.in_ok-next.ensures.found.derives c.in_ok-next.ensures.found.height c.in_ok-next.ensures.found.within c.if-not-accept.ensures.no
    (map_snoc parameter_view c.loop-turn.found.items c.push.new.self.items c.in_ok-next.next.tree c.in_ok-push.ensures.items) c.max-height.ensures

pub returns-in_err-next-clause-read : goal.returns-in_err-next-clause-read
returns-in_err-next-clause-read c =
    let p = err_from_is_err_and c.from_residual.result c.from_residual.ensures.1 in
    rw (p.1, p.2) (λ s. listed_none (omega (arith, c.loop-turn-test.true, c.left-turn-end.ensures)) (c.in_err-next.ensures.read s) c.loop-turn.invariant.read)

pub returns-then-not-accept-clause-read : goal.returns-then-not-accept-clause-read
returns-then-not-accept-clause-read c =
    rw c.if-not-accept.ensures.no (listed_last (omega (arith, c.loop-turn-test.true, c.left-turn-end.ensures)) c.in_ok-next.ensures.read (no_comma _ c.if-not-accept.ensures.other) c.loop-turn.invariant.read (map_snoc parameter_view c.loop-turn.found.items c.push.new.self.items c.in_ok-next.next.tree c.in_ok-push.ensures.items) c.max-height.ensures)

pub returns-clause-read : goal.returns-clause-read
returns-clause-read c = λ s. listed_over (omega (arith, c.loop-turn-test.false, c.left-turn-end.ensures)) c.loop-turn.invariant.read
