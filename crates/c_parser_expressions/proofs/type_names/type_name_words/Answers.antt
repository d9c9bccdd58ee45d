use Rattle.std.proofs.Common.{◌≡◌, ◌-◌, ◌+◌, ◌∙◌, Some, None, cond, ap, sym, length, arith}
use Rattle.c_parser_expression_grammar.specs.declared.specifier_words.SpecifierCounts.{SpecifierCounts}
use Rattle.c_parser_expression_grammar.specs.TypeNames.{IsTypeNameWord, counted, counts_of, is_one_type}
use Rattle.c_parser_expression_grammar.specs.TypeNameReaders.{words, after_words, of_one_type}
use Rattle.c_parser_expressions.proofs.Listing.{chain_more, counts_more}
use Rattle.c_parser_expressions.proofs.Prefixes.{words_before, words_turn, words_no_word, words_stop, words_over}
use Rattle.c_parser_expressions.proofs.Outcomes.{refuses}
use Rattle.c_parser_expressions.proofs.type_names.type_name_words.Goals as goal
use Rattle.c_parser_expressions.proofs.type_names.type_name_words.Goals.{else-loop-turn-test, then-loop-turn-test+then-not-begins_specifiers}

pub loop-turn-preserved : goal.loop-turn-preserved
loop-turn-preserved c = record {
  found =
      rw c.in_ok-push.ensures.items
      (chain_more (IsTypeNameWord c.args.scope.typedefs.now) c.loop-turn.words.items c.in_ok-word.word c.args.reader.now c.loop-turn.reader c.type_name_word.new.reader c.loop-turn.invariant.found c.in_ok-word.ensures.found);
  counts =
      c.count_word.ensures
      ∙ (ap (λ (counts : SpecifierCounts). counted counts c.in_ok-word.word) c.loop-turn.invariant.counts
      ∙ (sym (counts_more c.loop-turn.words.items c.in_ok-word.word) ∙ ap counts_of (sym c.in_ok-push.ensures.items)));
  read =
      c.loop-turn.invariant.read
      ∙ words_turn c.args.scope.typedefs.now c.loop-turn.words.items (length c.args.reader.now) c.loop-turn._turn c.loop-turn.reader c.type_name_word.new.reader c.in_ok-word.word
      (omega (arith, c.loop-turn-test.true, c.left-turn-end.ensures)) (sym c.if-not-begins_specifiers.ensures) c.in_ok-word.ensures.read
      ∙ ap (λ ws. words_before ws (words c.args.scope.typedefs.now (length c.args.reader.now - (c.loop-turn._turn + 1)) c.type_name_word.new.reader)) (sym c.in_ok-push.ensures.items);
}

pub returns-in_err-word-clause-read : goal.returns-in_err-word-clause-read
returns-in_err-word-clause-read c =
    refuses _ c.from_residual.result _ c.from_residual.ensures.1
    (λ s. ap (λ o. after_words o of_one_type)
    (c.loop-turn.invariant.read
    ∙ words_no_word c.args.scope.typedefs.now c.loop-turn.words.items (length c.args.reader.now) c.loop-turn._turn c.loop-turn.reader
    (omega (arith, c.loop-turn-test.true, c.left-turn-end.ensures)) (sym c.if-not-begins_specifiers.ensures) (c.in_err-word.ensures.read s)))

pub returns-then-not-is_one_type-clause-read : goal.returns-then-not-is_one_type-clause-read
returns-then-not-is_one_type-clause-read c =
    let read : words c.args.scope.typedefs.now (length c.args.reader.now) c.args.reader.now ≡ Some (record { words = c.loop-turn.words.items; rest = c.loop-turn.reader }) =
    elim c.loop-turn-test.branch [
      | else-loop-turn-test w ↦ c.loop-turn.invariant.read ∙ words_over c.args.scope.typedefs.now c.loop-turn.words.items (length c.args.reader.now) c.loop-turn._turn c.loop-turn.reader (omega (arith, w.loop-turn-test.false, c.left-turn-end.ensures))
      | then-loop-turn-test+then-not-begins_specifiers w ↦ c.loop-turn.invariant.read ∙ words_stop c.args.scope.typedefs.now c.loop-turn.words.items (length c.args.reader.now) c.loop-turn._turn c.loop-turn.reader (sym w.if-not-begins_specifiers.ensures)
    ]
    in
    λ s. ap (λ o. after_words o of_one_type) read
    ∙ ap (λ x. cond x (Some (record { words = c.loop-turn.words.items; rest = c.loop-turn.reader })) None) (ap is_one_type (sym c.loop-turn.invariant.counts) ∙ sym c.if-not-is_one_type.ensures)

pub returns-clause-read : goal.returns-clause-read
returns-clause-read c =
    let read : words c.args.scope.typedefs.now (length c.args.reader.now) c.args.reader.now ≡ Some (record { words = c.loop-turn.words.items; rest = c.loop-turn.reader }) =
    elim c.loop-turn-test.branch [
      | else-loop-turn-test w ↦ c.loop-turn.invariant.read ∙ words_over c.args.scope.typedefs.now c.loop-turn.words.items (length c.args.reader.now) c.loop-turn._turn c.loop-turn.reader (omega (arith, w.loop-turn-test.false, c.left-turn-end.ensures))
      | then-loop-turn-test+then-not-begins_specifiers w ↦ c.loop-turn.invariant.read ∙ words_stop c.args.scope.typedefs.now c.loop-turn.words.items (length c.args.reader.now) c.loop-turn._turn c.loop-turn.reader (sym w.if-not-begins_specifiers.ensures)
    ]
    in
    ap (λ o. after_words o of_one_type) read
    ∙ ap (λ x. cond x (Some (record { words = c.loop-turn.words.items; rest = c.loop-turn.reader })) None) (ap is_one_type (sym c.loop-turn.invariant.counts) ∙ sym c.if-not-is_one_type.ensures)
