use Rattle.std.specs.Option.{option_map}
use Rattle.std.proofs.Common.{refl, [], map, ◌∙◌, sym, ap, ◌+◌, arith, None}
use Rattle.c_layout.specs.DeclarationTrees.{name_view, spec_tree, member_tree}
use Rattle.c_parser_declarations.proofs.grammar.Layers.{mapped_is_some, mapped_length}
use Rattle.c_parser_declarations.proofs.grammar.Listing.{map_snoc}
use Rattle.c_parser_declarations.proofs.readers.Specifying.{one_word, whole, one_member, last_member, struct_body, struct_tag}
use Rattle.c_parser_declarations.proofs.grammar.Turns.{chained_turn, chained_none, chained_last, chained_over, words_turn, words_stop, words_over, words_none}
use Rattle.c_parser_declarations.proofs.readers.Signs.{no_right_brace}
use Rattle.std.proofs.lemmas.Result.{err_from_is_err_and}
use Rattle.c_parser_declarations.proofs.grammar.Reading.{member_is, structure_at, raised_is}
use Rattle.c_parser_declarations.proofs.readers.specifier_lists.+specifiers.Goals as goal

pub specifiers-loop-turn-preserved : goal.specifiers-loop-turn-preserved
specifiers-loop-turn-preserved t c = record {
  found =
      one_word c.loop-turn.invariant.found c.in_ok-word.ensures.found c.count_word.ensures
      (map_snoc spec_tree c.loop-turn.words.items c.push.new.self.items c.in_ok-word.word.tree c.in_ok-push.ensures.items) c.max-height.ensures;
  read =
      words_turn (omega (arith, c.loop-turn-test.true, c.left-turn-end.ensures)) (sym c.if-not-begins_specifiers.ensures) c.in_ok-word.ensures.read c.loop-turn.invariant.read
      (map_snoc spec_tree c.loop-turn.words.items c.push.new.self.items c.in_ok-word.word.tree c.in_ok-push.ensures.items) c.max-height.ensures;
}

pub specifiers-returns-then-not-begins_specifiers-clause-found : goal.specifiers-returns-then-not-begins_specifiers-clause-found
specifiers-returns-then-not-begins_specifiers-clause-found t c =
    whole c.loop-turn.invariant.found (ap (map spec_tree) c.in_ok-whole.ensures.words) c.in_ok-whole.ensures.one_type (mapped_length spec_tree c.loop-turn.words.items) c.in_ok-whole.ensures.height c.in_ok-whole.ensures.within

pub specifiers-returns-then-not-begins_specifiers-clause-read : goal.specifiers-returns-then-not-begins_specifiers-clause-read
specifiers-returns-then-not-begins_specifiers-clause-read t c = rw (words_stop (sym c.if-not-begins_specifiers.ensures) c.loop-turn.invariant.read) (c.in_ok-whole.ensures.read _ c.loop-turn.invariant.found.counts_is)

pub specifiers-returns-clause-found : goal.specifiers-returns-clause-found
specifiers-returns-clause-found t c =
    whole c.loop-turn.invariant.found (ap (map spec_tree) c.in_ok-whole-2.ensures.words) c.in_ok-whole-2.ensures.one_type (mapped_length spec_tree c.loop-turn.words.items) c.in_ok-whole-2.ensures.height c.in_ok-whole-2.ensures.within

pub specifiers-returns-clause-read : goal.specifiers-returns-clause-read
specifiers-returns-clause-read t c = rw (words_over (omega (arith, c.loop-turn-test.false, c.left-turn-end.ensures)) c.loop-turn.invariant.read) (c.in_ok-whole-2.ensures.read _ c.loop-turn.invariant.found.counts_is)

pub members-loop-turn-preserved : goal.members-loop-turn-preserved
members-loop-turn-preserved t c = record {
  found =
      one_member c.loop-turn.invariant.found c.in_ok-next.ensures.found c.if-accept.ensures.no
      (map_snoc member_tree c.loop-turn.found.items c.push.new.self.items c.in_ok-next.next.tree c.in_ok-push.ensures.items) c.max-height.ensures;
  read =
      chained_turn (omega (arith, c.loop-turn-test.true, c.left-turn-end.ensures)) c.in_ok-next.ensures.read (no_right_brace _ c.if-accept.ensures.other) c.if-accept.ensures.no c.loop-turn.invariant.read
      (map_snoc member_tree c.loop-turn.found.items c.push.new.self.items c.in_ok-next.next.tree c.in_ok-push.ensures.items) c.max-height.ensures;
}

pub members-returns-then-accept-clause-found : goal.members-returns-then-accept-clause-found
members-returns-then-accept-clause-found t c =
    last_member c.loop-turn.invariant.found c.in_ok-next.ensures.found c.if-accept.ensures.yes
    (map_snoc member_tree c.loop-turn.found.items c.push.new.self.items c.in_ok-next.next.tree c.in_ok-push.ensures.items) c.max-height.ensures

pub structure-returns-then-accept-clause-found : goal.structure-returns-then-accept-clause-found
structure-returns-then-accept-clause-found t c =
    struct_body (option_map name_view c.in_ok-tag.tag) c.in_ok-place.ensures.place c.in_ok-place.ensures.word c.in_ok-tag.ensures.found c.if-accept.ensures.yes c.in_ok-body.ensures.found
    c.struct_body-tree.ensures c.in_ok-height.ensures.height.0 c.in_ok-height.ensures.height.1

pub structure-returns-clause-found : goal.structure-returns-clause-found
structure-returns-clause-found t c =
    struct_tag (option_map name_view c.in_ok-tag.tag) c.in_ok-place.ensures.place c.in_ok-place.ensures.word c.in_ok-tag.ensures.found (sym (c.if-not-is_some.ensures ∙ mapped_is_some name_view c.in_ok-tag.tag))
    c.if-accept.ensures.no c.struct_tag-tree.ensures c.in_ok-height-2.ensures.height.0 c.in_ok-height-2.ensures.height.1

pub members-returns-in_err-next-clause-read : goal.members-returns-in_err-next-clause-read
members-returns-in_err-next-clause-read t c =
    let p = err_from_is_err_and c.from_residual.result c.from_residual.ensures.1 in
    rw (p.1, p.2) (λ s. chained_none (omega (arith, c.loop-turn-test.true, c.left-turn-end.ensures)) (c.in_err-next.ensures.read s) c.loop-turn.invariant.read)

pub members-returns-then-accept-clause-read : goal.members-returns-then-accept-clause-read
members-returns-then-accept-clause-read t c =
    chained_last (omega (arith, c.loop-turn-test.true, c.left-turn-end.ensures)) c.in_ok-next.ensures.read c.if-accept.ensures.yes.symbol c.if-accept.ensures.yes.behind c.loop-turn.invariant.read
    (map_snoc member_tree c.loop-turn.found.items c.push.new.self.items c.in_ok-next.next.tree c.in_ok-push.ensures.items) c.max-height.ensures

pub members-returns-clause-read : goal.members-returns-clause-read
members-returns-clause-read t c = λ s. chained_over (omega (arith, c.loop-turn-test.false, c.left-turn-end.ensures)) c.loop-turn.invariant.read

pub specifiers-returns-in_err-word-clause-read : goal.specifiers-returns-in_err-word-clause-read
specifiers-returns-in_err-word-clause-read t c =
    let p = err_from_is_err_and c.from_residual-in_err-word.result c.from_residual-in_err-word.ensures.1 in
    rw (p.1, p.2) (λ s. rw (words_none (omega (arith, c.loop-turn-test.true, c.left-turn-end.ensures)) (sym c.if-not-begins_specifiers.ensures) (c.in_err-word.ensures.read s) c.loop-turn.invariant.read) refl)

pub specifiers-returns-in_err-whole-clause-read : goal.specifiers-returns-in_err-whole-clause-read
specifiers-returns-in_err-whole-clause-read t c =
    let p = err_from_is_err_and c.from_residual.result c.from_residual.ensures.1 in
    rw (p.1, p.2) (λ s. rw (words_stop (sym c.if-not-begins_specifiers.ensures) c.loop-turn.invariant.read) (c.in_err-whole.ensures.read c.loop-turn.reader c.loop-turn.invariant.found.counts_is s))

pub specifiers-returns-in_err-whole-2-clause-read : goal.specifiers-returns-in_err-whole-2-clause-read
specifiers-returns-in_err-whole-2-clause-read t c =
    let p = err_from_is_err_and c.from_residual-in_err-whole-2.result c.from_residual-in_err-whole-2.ensures.1 in
    rw (p.1, p.2) (λ s. rw (words_over (omega (arith, c.loop-turn-test.false, c.left-turn-end.ensures)) c.loop-turn.invariant.read) (c.in_err-whole-2.ensures.read c.loop-turn.reader c.loop-turn.invariant.found.counts_is s))

pub member-returns-clause-read : goal.member-returns-clause-read
member-returns-clause-read t c =
    rw c.member_of-tree.ensures
    (member_is c.args.scope.typedefs.now _ _ c.args.reader.now _ _ _ c.in_ok-inner.ensures.inner c.in_ok-words.ensures.read c.in_ok-inner-2.ensures.inner c.in_ok-declared.ensures.read c.in_ok-expect.ensures.sign
    (rw c.max.ensures at c.in_ok-height.ensures.height.0) c.in_ok-height.ensures.height.1)

pub structure-returns-in_err-body-clause-read : goal.structure-returns-in_err-body-clause-read
structure-returns-in_err-body-clause-read t c =
    let p = err_from_is_err_and c.from_residual-in_err-body.result c.from_residual-in_err-body.ensures.1 in
    rw (p.1, p.2) (λ w s. structure_at c.args.scope.typedefs.now _ (option_map name_view c.in_ok-tag.tag) None c.in_ok-place.ensures.word c.in_ok-tag.ensures.read c.if-accept.ensures.yes c.in_ok-inner.ensures.inner (c.in_err-body.ensures.read s))

pub structure-returns-then-accept-clause-read : goal.structure-returns-then-accept-clause-read
structure-returns-then-accept-clause-read t c =
    λ w. structure_at c.args.scope.typedefs.now _ (option_map name_view c.in_ok-tag.tag) _ c.in_ok-place.ensures.word c.in_ok-tag.ensures.read c.if-accept.ensures.yes c.in_ok-inner.ensures.inner c.in_ok-body.ensures.read
    ∙ rw (c.struct_body-tree.ensures, c.in_ok-place.ensures.place) (raised_is _ _ _ _ _ c.in_ok-height.ensures.height.0 c.in_ok-height.ensures.height.1)
