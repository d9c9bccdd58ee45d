use Rattle.c_layout.specs.DeclarationTrees.{initializer_tree}
use Rattle.c_parser_declarations.proofs.readers.Initializing.{one_more, last_one, last_comma}
use Rattle.c_parser_declarations.proofs.grammar.Listing.{map_snoc}
use Rattle.c_parser_declarations.proofs.grammar.Turns.{braced_turn, braced_none, braced_unclosed, braced_last, braced_trailed, braced_over}
use Rattle.c_parser_declarations.proofs.readers.Signs.{no_right_brace}
use Rattle.c_parser_expressions.proofs.Signs.{no_comma}
use Rattle.std.proofs.Common.{◌+◌, arith}
use Rattle.std.proofs.lemmas.Result.{err_from_is_err_and}
use Rattle.c_parser_declarations.proofs.grammar.Reading.{initializer_is}
use Rattle.c_parser_declarations.proofs.readers.initializers.+initializers.Goals as goal

pub initializer_list-loop-turn-preserved : goal.initializer_list-loop-turn-preserved
initializer_list-loop-turn-preserved t c = record {
  found =
      rw c.if-accept.ensures.no
      (one_more c.loop-turn.invariant.found c.in_ok-next.ensures.found c.if-not-accept.ensures.yes
      (map_snoc initializer_tree c.loop-turn.found.items c.push.new.self.items c.in_ok-next.next.tree c.in_ok-push.ensures.items) c.max-height.ensures);
  read =
      rw c.if-accept.ensures.no
      (braced_turn (omega (arith, c.loop-turn-test.true, c.left-turn-end.ensures)) c.in_ok-next.ensures.read c.if-not-accept.ensures.yes.symbol c.if-not-accept.ensures.yes.behind (no_right_brace _ c.if-accept.ensures.other) c.loop-turn.invariant.read
      (map_snoc initializer_tree c.loop-turn.found.items c.push.new.self.items c.in_ok-next.next.tree c.in_ok-push.ensures.items) c.max-height.ensures);
}

pub initializer_list-returns-then-not-accept-clause-found : goal.initializer_list-returns-then-not-accept-clause-found
initializer_list-returns-then-not-accept-clause-found t c =
    last_one c.loop-turn.invariant.found c.in_ok-next.ensures.found c.if-not-accept.ensures.no c.in_ok-expect.ensures.sign
    (map_snoc initializer_tree c.loop-turn.found.items c.push.new.self.items c.in_ok-next.next.tree c.in_ok-push.ensures.items) c.max-height.ensures

pub initializer_list-returns-then-accept-clause-found : goal.initializer_list-returns-then-accept-clause-found
initializer_list-returns-then-accept-clause-found t c =
    last_comma c.loop-turn.invariant.found c.in_ok-next.ensures.found c.if-not-accept.ensures.yes c.if-accept.ensures.yes
    (map_snoc initializer_tree c.loop-turn.found.items c.push.new.self.items c.in_ok-next.next.tree c.in_ok-push.ensures.items) c.max-height.ensures

pub initializer_list-returns-in_err-next-clause-read : goal.initializer_list-returns-in_err-next-clause-read
initializer_list-returns-in_err-next-clause-read t c =
    let p = err_from_is_err_and c.from_residual.result c.from_residual.ensures.1 in
    rw (p.1, p.2) (λ s. braced_none (omega (arith, c.loop-turn-test.true, c.left-turn-end.ensures)) (c.in_err-next.ensures.read s) c.loop-turn.invariant.read)

pub initializer_list-returns-in_err-expect-clause-read : goal.initializer_list-returns-in_err-expect-clause-read
initializer_list-returns-in_err-expect-clause-read t c =
    let p = err_from_is_err_and c.from_residual-in_err-expect.result c.from_residual-in_err-expect.ensures.1 in
    rw (p.1, p.2) (λ s. braced_unclosed (omega (arith, c.loop-turn-test.true, c.left-turn-end.ensures)) c.in_ok-next.ensures.read (no_comma _ c.if-not-accept.ensures.other) (no_right_brace _ (rw c.if-not-accept.ensures.no at c.in_err-expect.ensures.refused.1)) c.loop-turn.invariant.read)

pub initializer_list-returns-then-not-accept-clause-read : goal.initializer_list-returns-then-not-accept-clause-read
initializer_list-returns-then-not-accept-clause-read t c =
    braced_last (omega (arith, c.loop-turn-test.true, c.left-turn-end.ensures)) c.in_ok-next.ensures.read (no_comma _ c.if-not-accept.ensures.other) (rw c.if-not-accept.ensures.no at c.in_ok-expect.ensures.sign.symbol) (rw c.if-not-accept.ensures.no at c.in_ok-expect.ensures.sign.behind) c.loop-turn.invariant.read
    (map_snoc initializer_tree c.loop-turn.found.items c.push.new.self.items c.in_ok-next.next.tree c.in_ok-push.ensures.items) c.max-height.ensures

pub initializer_list-returns-then-accept-clause-read : goal.initializer_list-returns-then-accept-clause-read
initializer_list-returns-then-accept-clause-read t c =
    braced_trailed (omega (arith, c.loop-turn-test.true, c.left-turn-end.ensures)) c.in_ok-next.ensures.read c.if-not-accept.ensures.yes.symbol c.if-not-accept.ensures.yes.behind c.if-accept.ensures.yes.symbol c.if-accept.ensures.yes.behind c.loop-turn.invariant.read
    (map_snoc initializer_tree c.loop-turn.found.items c.push.new.self.items c.in_ok-next.next.tree c.in_ok-push.ensures.items) c.max-height.ensures

pub initializer_list-returns-clause-read : goal.initializer_list-returns-clause-read
initializer_list-returns-clause-read t c = λ s. braced_over (omega (arith, c.loop-turn-test.false, c.left-turn-end.ensures)) c.loop-turn.invariant.read

pub initializer-returns-clause-read : goal.initializer-returns-clause-read
initializer-returns-clause-read t c =
    rw (c.braces-tree.ensures, c.in_ok-place.ensures.place)
    (initializer_is c.args.scope.typedefs.now _ _ _ c.in_ok-place.ensures.sign c.in_ok-inner.ensures.inner c.in_ok-items.ensures.read c.in_ok-height.ensures.height.0 c.in_ok-height.ensures.height.1)
