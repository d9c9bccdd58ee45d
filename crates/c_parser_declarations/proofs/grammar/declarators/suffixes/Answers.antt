use Rattle.c_layout.specs.DeclarationTrees.{suffix_view}
use Rattle.c_parser_declarations.proofs.grammar.Layers.{suffix_more}
use Rattle.c_parser_declarations.proofs.grammar.Listing.{map_snoc}
use Rattle.c_parser_declarations.proofs.grammar.Turns.{suffixes_turn, suffixes_none, suffixes_high, suffixes_stop, suffixes_over}
use Rattle.std.proofs.Common.{◌+◌, refl, arith}
use Rattle.std.proofs.lemmas.Result.{err_from_is_err_and}
use Rattle.c_parser_expressions.proofs.Signs.{no_left_bracket, not_so}
use Rattle.c_parser_declarations.proofs.grammar.declarators.suffixes.Goals as goal

pub loop-turn-preserved : goal.loop-turn-preserved
loop-turn-preserved c = record {
  found =
      suffix_more c.loop-turn.invariant.found c.in_ok-next.ensures.found (map_snoc suffix_view c.loop-turn.arrays.items c.push.new.self.items c.in_ok-next.next.tree c.in_ok-push.ensures.items)
      c.max-flat.ensures c.in_ok-climbed.ensures.ok;
  read =
      suffixes_turn (omega (arith, c.loop-turn-test.true, c.left-turn-end.ensures)) (c.if-not-is_at.ensures.0 refl) (c.in_ok-next.ensures.read (c.if-not-is_at.ensures.0 refl)) c.in_ok-climbed.ensures.read c.loop-turn.invariant.read
      (map_snoc suffix_view c.loop-turn.arrays.items c.push.new.self.items c.in_ok-next.next.tree c.in_ok-push.ensures.items) c.max-flat.ensures;
}

pub returns-in_err-next-clause-read : goal.returns-in_err-next-clause-read
returns-in_err-next-clause-read c =
    let p = err_from_is_err_and c.from_residual.result c.from_residual.ensures.1 in
    rw (p.1, p.2) (λ s. suffixes_none (omega (arith, c.loop-turn-test.true, c.left-turn-end.ensures)) (c.if-not-is_at.ensures.0 refl) (c.in_err-next.ensures.read (c.if-not-is_at.ensures.0 refl) s) c.loop-turn.invariant.read)

pub returns-in_err-climbed-clause-read : goal.returns-in_err-climbed-clause-read
returns-in_err-climbed-clause-read c =
    let p = err_from_is_err_and c.from_residual-in_err-climbed.result c.from_residual-in_err-climbed.ensures.1 in
    rw (p.1, p.2) (λ s. suffixes_high (omega (arith, c.loop-turn-test.true, c.left-turn-end.ensures)) (c.if-not-is_at.ensures.0 refl) (c.in_ok-next.ensures.read (c.if-not-is_at.ensures.0 refl)) (c.in_err-climbed.ensures.read s) c.loop-turn.invariant.read)

pub returns-then-not-is_at-clause-read : goal.returns-then-not-is_at-clause-read
returns-then-not-is_at-clause-read c = suffixes_stop (no_left_bracket _ (not_so c.if-not-is_at.ensures)) c.loop-turn.invariant.read

pub returns-clause-read : goal.returns-clause-read
returns-clause-read c = suffixes_over (omega (arith, c.loop-turn-test.false, c.left-turn-end.ensures)) c.loop-turn.invariant.read
