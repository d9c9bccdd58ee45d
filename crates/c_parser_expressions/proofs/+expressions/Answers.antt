use Rattle.std.proofs.Common.{◌≡◌, ◌+◌, ◌∙◌, ◌∷◌, Some, None, true, max, map, length, refl, sym, ap, subst, arith}
use Rattle.c_layout.specs.SyntaxTrees.{tree_of, trees, type_name_view, Paren, Subscript, Prefix, Unary, SizeofExpr, SizeofType, Cast, Conditional, Assign, Comma, More}
use Rattle.c_parser_tokens.specs.declared.terminals.Punctuator.TheVariants as p
use Rattle.c_parser_tokens.specs.declared.terminals.Symbol.TheVariants as symbol
use Rattle.c_parser_expression_grammar.specs.Continuations.{continuation_of}
use Rattle.c_parser_expression_grammar.specs.Findings.{layer_of, is_unary, infix_tree}
use Rattle.c_parser_expression_grammar.specs.Fronts.{first_symbol}
use Rattle.c_parser_expression_grammar.specs.Levels.{op_level, step_of, assign_of, goes_on}
use Rattle.c_parser_expression_grammar.specs.Readings.{got, made, is_left_parenthesis, is_right_parenthesis, is_left_bracket, is_comma, is_sizeof}
use Rattle.c_parser_expression_grammar.specs.ReadingResults.{ReadsSuffix, layers_got}
use Rattle.c_parser_expression_grammar.specs.ExpressionReaders.{infix_of, keep_from, suffix_by, arguments}
use Rattle.c_parser_expression_grammar.specs.TypeNameReaders.{after_arrays, all_readers, readers_inside}
use Rattle.c_parser_expressions.proofs.Arguments.{last_one}
use Rattle.c_parser_expressions.proofs.Arguments.{one_more as one_more_argument}
use Rattle.c_parser_expressions.proofs.Climbing.{last, more}
use Rattle.c_parser_expressions.proofs.Layering.{made_is, made_none, plain_is}
use Rattle.c_parser_expressions.proofs.Layers.{one_length, arrays_found, around, enclosed, plain, declared}
use Rattle.c_parser_expressions.proofs.Naming.{length_read, length_open, length_closed, nested_none, nested_open, nested_closed, name_plain, name_declared}
use Rattle.c_parser_expressions.proofs.Infixes.{sign_stands, right_is}
use Rattle.c_parser_expressions.proofs.Outcomes.{refuses, made_reads}
use Rattle.c_parser_expressions.proofs.Prefixes.{arguments_no_argument, arguments_open, arguments_done, arguments_next, pairs_no_pair, pairs_stop, pairs_over, pairs_next}
use Rattle.c_parser_expressions.proofs.Productions.{as_conditional, assigned, comma}
use Rattle.c_parser_expressions.proofs.Reading.{inner_reads, inner_is, no_inner, sign_before, word_before, word_then, parenthesized_inner, parenthesized_open, parenthesized_whole, call_read, size_read, size_open, size_closed, cast_open, cast_operand, step_read, operator_read, chosen_first, chosen_open, chosen_second, assigned_right, index_read, index_open, index_closed}
use Rattle.c_parser_expressions.proofs.Signs.{no_right_parenthesis, no_left_bracket, no_right_bracket, no_colon, no_comma, not_so}
use Rattle.c_parser_expressions.proofs.Suffixes.{one_more}
use Rattle.c_parser_expressions.proofs.Turns.{climb_turn, climb_no_operand, climb_too_high, climb_stops, suffixes_turn, commas_turn, commas_no_operand, commas_stop}
use Rattle.c_parser_expressions.proofs.+expressions.Goals as goal

pub expressions::binary-returns-in_default-clause-found : goal.expressions::binary-returns-in_default-clause-found
expressions::binary-returns-in_default-clause-found t c = last c.loop-turn.invariant.found c.peek.ensures c.in_default.ensures.level

pub expressions::binary-returns-in-None-clause-found : goal.expressions::binary-returns-in-None-clause-found
expressions::binary-returns-in-None-clause-found t c = last c.loop-turn.invariant.found c.peek-2.ensures c.in-None.ensures.level

pub expressions::binary-loop-turn-preserved : goal.expressions::binary-loop-turn-preserved
expressions::binary-loop-turn-preserved t c = record {
  found =
      more c.in-Some.op c.loop-turn.invariant.found c.in-Some.ensures.level.1 c.in_ok-place.ensures.place (rw c.infix_sign.ensures at c.in_ok-place.ensures.sign) c.infix_level.ensures.is c.in_ok-right.ensures.found
      c.in_ok-left-2.ensures.tree c.in_ok-left-2.ensures.height.0 c.in_ok-left-2.ensures.height.1;
  read = c.loop-turn.invariant.read ∙ climb_turn c.args.budget (readers_inside c.args.scope.typedefs.now c.args.budget) c.args.level c.args.budget c.loop-turn._turn (got (tree_of c.loop-turn.left.tree.value) c.loop-turn.left.height c.loop-turn.reader) (got (tree_of c.in_ok-right.right.tree.value) c.in_ok-right.right.height c.binary.new.reader) _ c.in-Some.op (omega (arith, c.loop-turn-test.true)) (sym (c.in-Some.ensures.is ∙ ap (λ x. keep_from c.args.level (infix_of (continuation_of x))) c.peek.ensures)) (right_is (readers_inside c.args.scope.typedefs.now c.args.budget) c.infix_level.result (op_level c.in-Some.op) c.loop-turn.reader c.expect.new.self _ c.infix_level.ensures.is c.in_ok-place.ensures.sign.behind (inner_reads (λ i. i.binary (c.infix_level.result + 1) c.expect.new.self) c.args.scope.typedefs.now c.in_ok-inner.field-0 c.args.budget c.in_ok-inner.ensures.inner (c.in_ok-right.ensures.read))) (made_is c.args.budget _ _ _ _ _ (c.in_ok-left-2.ensures.tree ∙ ap (λ at. infix_tree c.in-Some.op at (tree_of c.loop-turn.left.tree.value) (tree_of c.in_ok-right.right.tree.value)) c.in_ok-place.ensures.place) c.in_ok-left-2.ensures.height.0 c.in_ok-left-2.ensures.height.1);
}

pub expressions::conditional-returns-then-not-is_at-clause-found : goal.expressions::conditional-returns-then-not-is_at-clause-found
expressions::conditional-returns-then-not-is_at-clause-found t c = as_conditional c.in_ok-condition.ensures.found

pub expressions::assignment-returns-clause-found : goal.expressions::assignment-returns-clause-found
expressions::assignment-returns-clause-found t c =
    assigned c.in_ok-left.ensures.found (sym (c.if-not-is_unary.ensures ∙ ap (λ x. is_unary (tree_of x)) c.deref.ensures)) (sym c.in-Some-assign_sign.ensures) c.in_ok-place.ensures.place c.in_ok-place.ensures.sign c.in_ok-right.ensures.found
    c.in_ok-whole.ensures.tree c.in_ok-whole.ensures.height.0 c.in_ok-whole.ensures.height.1

pub postfix_expressions::some_arguments-returns-then-not-accept-clause-found : goal.postfix_expressions::some_arguments-returns-then-not-accept-clause-found
postfix_expressions::some_arguments-returns-then-not-accept-clause-found t c =
    last_one c.loop-turn.invariant.found c.in_ok-argument.ensures.found c.if-not-accept.ensures.no c.in_ok-expect.ensures.sign c.in_ok-add_expression.ensures c.max-height.ensures

pub type_names::abstract_declarator-returns-clause-found : goal.type_names::abstract_declarator-returns-clause-found
type_names::abstract_declarator-returns-clause-found t c =
    around (layer_of c.in_ok-stars.stars.items c.in_ok-arrays.arrays.tree.arrays.items) c.in_ok-stars.ensures.found c.in_ok-nested.ensures.found c.in_ok-arrays.ensures.found
    c.in_ok-whole.ensures.something c.in_ok-whole.ensures.layers c.in_ok-whole.ensures.lengths c.in_ok-whole.ensures.height

pub type_names::bracket_pair-returns-clause-found : goal.type_names::bracket_pair-returns-clause-found
type_names::bracket_pair-returns-clause-found t c =
    one_length c.in_ok-place.place c.in_ok-found.found.tree c.in_ok-place.ensures.place c.in_ok-place.ensures.sign c.if-accept.ensures.no c.in_ok-found.ensures.found c.in_ok-expect.ensures.sign

pub type_names::brackets-loop-turn-preserved : goal.type_names::brackets-loop-turn-preserved
type_names::brackets-loop-turn-preserved t c = record {
  found =
      arrays_found c.loop-turn.invariant.found c.in_ok-pair.ensures.found c.in_ok-add_brackets.ensures.arrays c.in_ok-add_brackets.ensures.lengths c.max-height.ensures;
  read = c.loop-turn.invariant.read ∙ pairs_next (readers_inside c.args.scope.typedefs.now c.args.budget) c.loop-turn.parts.arrays.items (map tree_of c.loop-turn.parts.lengths.items) c.loop-turn.height _ (length c.args.reader.now) c.loop-turn._turn c.loop-turn.reader c.bracket_pair.new.reader c.in_ok-pair.pair.tree _ _ _ (omega (arith, c.loop-turn-test.true, c.left-turn-end.ensures)) (ap is_left_bracket (c.if-not-is_at.ensures.0 refl)) c.in_ok-pair.ensures.read c.in_ok-add_brackets.ensures.arrays c.in_ok-add_brackets.ensures.lengths c.max-height.ensures;
}

pub type_names::nested_abstract-returns-clause-found : goal.type_names::nested_abstract-returns-clause-found
type_names::nested_abstract-returns-clause-found t c = enclosed c.if-not-accept.ensures.yes c.in_ok-nested.ensures.found c.in_ok-expect.ensures.sign

pub type_names::type_name-returns-then-not-begins_abstract-clause-found : goal.type_names::type_name-returns-then-not-begins_abstract-clause-found
type_names::type_name-returns-then-not-begins_abstract-clause-found t c =
    plain c.in_ok-words.ensures.words c.in_ok-words.ensures.one_type c.in_ok-words.ensures.height c.in_ok-plain.ensures.name c.in_ok-plain.ensures.lengths c.in_ok-plain.ensures.height

pub type_names::type_name-returns-clause-found : goal.type_names::type_name-returns-clause-found
type_names::type_name-returns-clause-found t c =
    declared c.in_ok-words.ensures.words c.in_ok-words.ensures.one_type c.in_ok-words.ensures.height c.in_ok-declarator.ensures.found
    c.in_ok-declared.ensures.name c.in_ok-declared.ensures.lengths c.in_ok-declared.ensures.height

pub expressions::assignment-returns-in_err-right-clause-read : goal.expressions::assignment-returns-in_err-right-clause-read
expressions::assignment-returns-in_err-right-clause-read t c =
    refuses _ c.from_residual-in_err-right.result _ c.from_residual-in_err-right.ensures.1 (λ s. assigned_right c.args.budget (readers_inside c.args.scope.typedefs.now c.args.budget) c.args.scope.typedefs.now c.args.reader.now c.expect.new.self (got (tree_of c.in_ok-left.left.tree.value) c.in_ok-left.left.height c.conditional.new.reader) c.in-Some.op None c.in_ok-left.ensures.read (sym (c.in-Some.ensures ∙ ap assign_of c.peek.ensures)) (sym (c.if-not-is_unary.ensures ∙ ap (λ x. is_unary (tree_of x)) c.deref.ensures)) c.in_ok-place.ensures.sign.behind (inner_reads (λ i. i.assignment c.expect.new.self) c.args.scope.typedefs.now c.in_ok-inner.field-0 c.args.budget c.in_ok-inner.ensures.inner (c.in_err-right.ensures.read s)))

pub expressions::assignment-returns-clause-read : goal.expressions::assignment-returns-clause-read
expressions::assignment-returns-clause-read t c =
    assigned_right c.args.budget (readers_inside c.args.scope.typedefs.now c.args.budget) c.args.scope.typedefs.now c.args.reader.now c.expect.new.self (got (tree_of c.in_ok-left.left.tree.value) c.in_ok-left.left.height c.conditional.new.reader) c.in-Some.op (Some (got (tree_of c.in_ok-right.right.tree.value) c.in_ok-right.right.height c.assignment.new.reader)) c.in_ok-left.ensures.read (sym (c.in-Some.ensures ∙ ap assign_of c.peek.ensures)) (sym (c.if-not-is_unary.ensures ∙ ap (λ x. is_unary (tree_of x)) c.deref.ensures)) c.in_ok-place.ensures.sign.behind (inner_reads (λ i. i.assignment c.expect.new.self) c.args.scope.typedefs.now c.in_ok-inner.field-0 c.args.budget c.in_ok-inner.ensures.inner (c.in_ok-right.ensures.read))
    ∙ made_is c.args.budget _ _ _ _ _ (c.in_ok-whole.ensures.tree ∙ ap (λ at. Assign at c.in-Some.op (tree_of c.in_ok-left.left.tree.value) (tree_of c.in_ok-right.right.tree.value)) c.in_ok-place.ensures.place) c.in_ok-whole.ensures.height.0 c.in_ok-whole.ensures.height.1

pub expressions::binary-returns-in_default-clause-read : goal.expressions::binary-returns-in_default-clause-read
expressions::binary-returns-in_default-clause-read t c =
    c.loop-turn.invariant.read ∙ climb_stops c.args.budget (readers_inside c.args.scope.typedefs.now c.args.budget) c.args.level c.args.budget c.loop-turn._turn (got (tree_of c.loop-turn.left.tree.value) c.loop-turn.left.height c.loop-turn.reader) (sym (c.in_default.ensures.is ∙ ap (λ x. keep_from c.args.level (infix_of (continuation_of x))) c.peek.ensures))

pub expressions::binary-returns-in_err-place-clause-read : goal.expressions::binary-returns-in_err-place-clause-read
expressions::binary-returns-in_err-place-clause-read t c =
    refuses _ c.from_residual-in_err-place.result _ c.from_residual-in_err-place.ensures.1 (λ s. absurd (c.in_err-place.ensures.refused.1 (sign_stands c.args.level c.loop-turn.reader c.in-Some.op (sym (c.in-Some.ensures.is ∙ ap (λ x. keep_from c.args.level (infix_of (continuation_of x))) c.peek.ensures)) ∙ ap (λ x. symbol.Punctuator x) (sym c.infix_sign.ensures))))

pub expressions::binary-returns-in_err-right-clause-read : goal.expressions::binary-returns-in_err-right-clause-read
expressions::binary-returns-in_err-right-clause-read t c =
    refuses _ c.from_residual-in_err-right.result _ c.from_residual-in_err-right.ensures.1 (λ s. c.loop-turn.invariant.read ∙ climb_no_operand c.args.budget (readers_inside c.args.scope.typedefs.now c.args.budget) c.args.level c.args.budget c.loop-turn._turn (got (tree_of c.loop-turn.left.tree.value) c.loop-turn.left.height c.loop-turn.reader) c.in-Some.op (omega (arith, c.loop-turn-test.true)) (sym (c.in-Some.ensures.is ∙ ap (λ x. keep_from c.args.level (infix_of (continuation_of x))) c.peek.ensures)) (right_is (readers_inside c.args.scope.typedefs.now c.args.budget) c.infix_level.result (op_level c.in-Some.op) c.loop-turn.reader c.expect.new.self _ c.infix_level.ensures.is c.in_ok-place.ensures.sign.behind (inner_reads (λ i. i.binary (c.infix_level.result + 1) c.expect.new.self) c.args.scope.typedefs.now c.in_ok-inner.field-0 c.args.budget c.in_ok-inner.ensures.inner (c.in_err-right.ensures.read s))))

pub expressions::binary-returns-in_err-left-2-clause-read : goal.expressions::binary-returns-in_err-left-2-clause-read
expressions::binary-returns-in_err-left-2-clause-read t c =
    refuses _ c.from_residual-in_err-left-2.result _ c.from_residual-in_err-left-2.ensures.1 (λ s. c.loop-turn.invariant.read ∙ climb_too_high c.args.budget (readers_inside c.args.scope.typedefs.now c.args.budget) c.args.level c.args.budget c.loop-turn._turn (got (tree_of c.loop-turn.left.tree.value) c.loop-turn.left.height c.loop-turn.reader) (got (tree_of c.in_ok-right.right.tree.value) c.in_ok-right.right.height c.binary.new.reader) c.in-Some.op (omega (arith, c.loop-turn-test.true)) (sym (c.in-Some.ensures.is ∙ ap (λ x. keep_from c.args.level (infix_of (continuation_of x))) c.peek.ensures)) (right_is (readers_inside c.args.scope.typedefs.now c.args.budget) c.infix_level.result (op_level c.in-Some.op) c.loop-turn.reader c.expect.new.self _ c.infix_level.ensures.is c.in_ok-place.ensures.sign.behind (inner_reads (λ i. i.binary (c.infix_level.result + 1) c.expect.new.self) c.args.scope.typedefs.now c.in_ok-inner.field-0 c.args.budget c.in_ok-inner.ensures.inner (c.in_ok-right.ensures.read))) (made_none c.args.budget _ _ _ (c.in_err-left-2.ensures.refused s)))

pub expressions::conditional-returns-in_err-first-clause-read : goal.expressions::conditional-returns-in_err-first-clause-read
expressions::conditional-returns-in_err-first-clause-read t c =
    refuses _ c.from_residual-in_err-first.result _ c.from_residual-in_err-first.ensures.1 (λ s. chosen_first c.args.budget (readers_inside c.args.scope.typedefs.now c.args.budget) c.args.scope.typedefs.now c.args.reader.now c.expect.new.self (got (tree_of c.in_ok-condition.condition.tree.value) c.in_ok-condition.condition.height c.binary.new.reader) None c.in_ok-condition.ensures.read c.in_ok-place.ensures.sign (inner_reads (λ i. i.expression c.expect.new.self) c.args.scope.typedefs.now c.in_ok-inner.field-0 c.args.budget c.in_ok-inner.ensures.inner (c.in_err-first.ensures.read s)))

pub expressions::conditional-returns-in_err-expect-clause-read : goal.expressions::conditional-returns-in_err-expect-clause-read
expressions::conditional-returns-in_err-expect-clause-read t c =
    refuses _ c.from_residual-in_err-expect.result _ c.from_residual-in_err-expect.ensures.1 (λ s. chosen_open c.args.budget (readers_inside c.args.scope.typedefs.now c.args.budget) c.args.scope.typedefs.now c.args.reader.now c.expect.new.self (got (tree_of c.in_ok-condition.condition.tree.value) c.in_ok-condition.condition.height c.binary.new.reader) (got (tree_of c.in_ok-first.first.tree.value) c.in_ok-first.first.height c.expression.new.reader) c.in_ok-condition.ensures.read c.in_ok-place.ensures.sign (inner_reads (λ i. i.expression c.expect.new.self) c.args.scope.typedefs.now c.in_ok-inner.field-0 c.args.budget c.in_ok-inner.ensures.inner (c.in_ok-first.ensures.read)) (no_colon _ c.in_err-expect.ensures.refused.1))

pub expressions::conditional-returns-in_err-second-clause-read : goal.expressions::conditional-returns-in_err-second-clause-read
expressions::conditional-returns-in_err-second-clause-read t c =
    refuses _ c.from_residual-in_err-second.result _ c.from_residual-in_err-second.ensures.1 (λ s. chosen_second c.args.budget (readers_inside c.args.scope.typedefs.now c.args.budget) c.args.scope.typedefs.now c.args.reader.now c.expect.new.self c.expect-2.new.self (got (tree_of c.in_ok-condition.condition.tree.value) c.in_ok-condition.condition.height c.binary.new.reader) (got (tree_of c.in_ok-first.first.tree.value) c.in_ok-first.first.height c.expression.new.reader) None c.in_ok-condition.ensures.read c.in_ok-place.ensures.sign (inner_reads (λ i. i.expression c.expect.new.self) c.args.scope.typedefs.now c.in_ok-inner.field-0 c.args.budget c.in_ok-inner.ensures.inner (c.in_ok-first.ensures.read)) c.in_ok-expect.ensures.sign (inner_reads (λ i. i.conditional c.expect-2.new.self) c.args.scope.typedefs.now c.in_ok-inner-2.field-0 c.args.budget c.in_ok-inner-2.ensures.inner (c.in_err-second.ensures.read s)))

pub expressions::conditional-returns-clause-read : goal.expressions::conditional-returns-clause-read
expressions::conditional-returns-clause-read t c =
    made_reads c.conditional_node.result c.args.budget _ _ _ _ (chosen_second c.args.budget (readers_inside c.args.scope.typedefs.now c.args.budget) c.args.scope.typedefs.now c.args.reader.now c.expect.new.self c.expect-2.new.self (got (tree_of c.in_ok-condition.condition.tree.value) c.in_ok-condition.condition.height c.binary.new.reader) (got (tree_of c.in_ok-first.first.tree.value) c.in_ok-first.first.height c.expression.new.reader) (Some (got (tree_of c.in_ok-second.second.tree.value) c.in_ok-second.second.height c.conditional.new.reader)) c.in_ok-condition.ensures.read c.in_ok-place.ensures.sign (inner_reads (λ i. i.expression c.expect.new.self) c.args.scope.typedefs.now c.in_ok-inner.field-0 c.args.budget c.in_ok-inner.ensures.inner (c.in_ok-first.ensures.read)) c.in_ok-expect.ensures.sign (inner_reads (λ i. i.conditional c.expect-2.new.self) c.args.scope.typedefs.now c.in_ok-inner-2.field-0 c.args.budget c.in_ok-inner-2.ensures.inner (c.in_ok-second.ensures.read))
    ∙ ap (λ at. made c.args.budget (Conditional at (tree_of c.in_ok-condition.condition.tree.value) (tree_of c.in_ok-first.first.tree.value) (tree_of c.in_ok-second.second.tree.value)) (max (max c.in_ok-condition.condition.height c.in_ok-first.first.height) c.in_ok-second.second.height) c.conditional.new.reader) (sym c.in_ok-place.ensures.place)) c.conditional_node.ensures.tree c.conditional_node.ensures.height c.conditional_node.ensures.refused

pub expressions::expression-returns-then-not-is_at-clause-read : goal.expressions::expression-returns-then-not-is_at-clause-read
expressions::expression-returns-then-not-is_at-clause-read t c =
    c.loop-turn.invariant.read ∙ commas_stop c.args.budget (readers_inside c.args.scope.typedefs.now c.args.budget) c.args.budget c.loop-turn._turn (got (tree_of c.loop-turn.found.tree.value) c.loop-turn.found.height c.loop-turn.reader) (no_comma _ (not_so c.if-not-is_at.ensures))

pub expressions::expression-returns-in_err-second-clause-read : goal.expressions::expression-returns-in_err-second-clause-read
expressions::expression-returns-in_err-second-clause-read t c =
    refuses _ c.from_residual-in_err-second.result _ c.from_residual-in_err-second.ensures.1 (λ s. c.loop-turn.invariant.read ∙ commas_no_operand c.args.budget (readers_inside c.args.scope.typedefs.now c.args.budget) c.args.budget c.loop-turn._turn (got (tree_of c.loop-turn.found.tree.value) c.loop-turn.found.height c.loop-turn.reader) (omega (arith, c.loop-turn-test.true)) (ap is_comma c.in_ok-place.ensures.sign.symbol) (ap (readers_inside c.args.scope.typedefs.now c.args.budget).assignment (sym c.in_ok-place.ensures.sign.behind) ∙ (inner_reads (λ i. i.assignment c.expect.new.self) c.args.scope.typedefs.now c.in_ok-inner.field-0 c.args.budget c.in_ok-inner.ensures.inner (c.in_err-second.ensures.read s))))

pub expressions::expression-returns-in_err-found-2-clause-read : goal.expressions::expression-returns-in_err-found-2-clause-read
expressions::expression-returns-in_err-found-2-clause-read t c =
    refuses _ c.from_residual-in_err-found-2.result _ c.from_residual-in_err-found-2.ensures.1 (λ s. c.loop-turn.invariant.read ∙ commas_turn c.args.budget (readers_inside c.args.scope.typedefs.now c.args.budget) c.args.budget c.loop-turn._turn (got (tree_of c.loop-turn.found.tree.value) c.loop-turn.found.height c.loop-turn.reader) (got (tree_of c.in_ok-second.second.tree.value) c.in_ok-second.second.height c.assignment-in-loop-turn.new.reader) None (omega (arith, c.loop-turn-test.true)) (ap is_comma c.in_ok-place.ensures.sign.symbol) (ap (readers_inside c.args.scope.typedefs.now c.args.budget).assignment (sym c.in_ok-place.ensures.sign.behind) ∙ (inner_reads (λ i. i.assignment c.expect.new.self) c.args.scope.typedefs.now c.in_ok-inner.field-0 c.args.budget c.in_ok-inner.ensures.inner (c.in_ok-second.ensures.read))) (made_none c.args.budget _ _ _ (c.in_err-found-2.ensures.refused s)))

pub expressions::expression-loop-turn-preserved : goal.expressions::expression-loop-turn-preserved
expressions::expression-loop-turn-preserved t c =
    record {
      found = comma c.loop-turn.invariant.found c.in_ok-place.ensures.place c.in_ok-place.ensures.sign c.in_ok-second.ensures.found c.in_ok-found-2.ensures.tree c.in_ok-found-2.ensures.height.0 c.in_ok-found-2.ensures.height.1;
      read =
          c.loop-turn.invariant.read
          ∙ commas_turn c.args.budget (readers_inside c.args.scope.typedefs.now c.args.budget) c.args.budget c.loop-turn._turn (got (tree_of c.loop-turn.found.tree.value) c.loop-turn.found.height c.loop-turn.reader) (got (tree_of c.in_ok-second.second.tree.value) c.in_ok-second.second.height c.assignment-in-loop-turn.new.reader) _ (omega (arith, c.loop-turn-test.true)) (ap is_comma c.in_ok-place.ensures.sign.symbol) (ap (readers_inside c.args.scope.typedefs.now c.args.budget).assignment (sym c.in_ok-place.ensures.sign.behind) ∙ (inner_reads (λ i. i.assignment c.expect.new.self) c.args.scope.typedefs.now c.in_ok-inner.field-0 c.args.budget c.in_ok-inner.ensures.inner (c.in_ok-second.ensures.read)))
          (made_is c.args.budget _ _ _ _ _ (c.in_ok-found-2.ensures.tree ∙ ap (λ at. Comma at (tree_of c.loop-turn.found.tree.value) (tree_of c.in_ok-second.second.tree.value)) c.in_ok-place.ensures.place) c.in_ok-found-2.ensures.height.0 c.in_ok-found-2.ensures.height.1);
    }

pub postfix_expressions::name_or_call-returns-in_err-found-clause-read : goal.postfix_expressions::name_or_call-returns-in_err-found-clause-read
postfix_expressions::name_or_call-returns-in_err-found-clause-read t c =
    refuses _ c.from_residual-in_err-found.result _ c.from_residual-in_err-found.ensures.1 (λ s. call_read c.args.budget (readers_inside c.args.scope.typedefs.now c.args.budget) c.args.scope.typedefs.now c.args.reader.now c.identifier.new.self c.accept.new.self c.in_ok-name.name.place c.in_ok-name.name.text None c.in_ok-name.ensures.found c.if-not-accept.ensures.yes (ap (λ i. arguments i c.accept.new.self) (inner_is c.args.scope.typedefs.now c.in_ok-inner.field-0 c.args.budget c.in_ok-inner.ensures.inner) ∙ c.in_err-found.ensures.read s))

pub postfix_expressions::name_or_call-returns-clause-read : goal.postfix_expressions::name_or_call-returns-clause-read
postfix_expressions::name_or_call-returns-clause-read t c =
    made_reads c.call_node.result c.args.budget _ _ _ _ (call_read c.args.budget (readers_inside c.args.scope.typedefs.now c.args.budget) c.args.scope.typedefs.now c.args.reader.now c.identifier.new.self c.accept.new.self c.in_ok-name.name.place c.in_ok-name.name.text (Some (record { trees = trees (map tree_of c.in_ok-found.found.tree.items); height = c.in_ok-found.found.height; rest = c.arguments.new.reader })) c.in_ok-name.ensures.found c.if-not-accept.ensures.yes (ap (λ i. arguments i c.accept.new.self) (inner_is c.args.scope.typedefs.now c.in_ok-inner.field-0 c.args.budget c.in_ok-inner.ensures.inner) ∙ c.in_ok-found.ensures.read)) c.call_node.ensures.tree c.call_node.ensures.height c.call_node.ensures.refused

pub postfix_expressions::parenthesized-returns-in_err-nested-clause-read : goal.postfix_expressions::parenthesized-returns-in_err-nested-clause-read
postfix_expressions::parenthesized-returns-in_err-nested-clause-read t c =
    refuses _ c.from_residual-in_err-nested.result _ c.from_residual-in_err-nested.ensures.1 (λ s. parenthesized_inner c.args.budget (readers_inside c.args.scope.typedefs.now c.args.budget) c.args.reader.now c.expect.new.self None c.in_ok-place.ensures.sign (inner_reads (λ i. i.expression c.expect.new.self) c.args.scope.typedefs.now c.in_ok-inner.field-0 c.args.budget c.in_ok-inner.ensures.inner (c.in_err-nested.ensures.read s)))

pub postfix_expressions::parenthesized-returns-in_err-expect-clause-read : goal.postfix_expressions::parenthesized-returns-in_err-expect-clause-read
postfix_expressions::parenthesized-returns-in_err-expect-clause-read t c =
    refuses _ c.from_residual-in_err-expect.result _ c.from_residual-in_err-expect.ensures.1 (λ s. parenthesized_open c.args.budget (readers_inside c.args.scope.typedefs.now c.args.budget) c.args.reader.now c.expect.new.self c.expression.new.reader (tree_of c.in_ok-nested.nested.tree.value) c.in_ok-nested.nested.height c.in_ok-place.ensures.sign (inner_reads (λ i. i.expression c.expect.new.self) c.args.scope.typedefs.now c.in_ok-inner.field-0 c.args.budget c.in_ok-inner.ensures.inner (c.in_ok-nested.ensures.read)) (no_right_parenthesis _ c.in_err-expect.ensures.refused.1))

pub postfix_expressions::parenthesized-returns-clause-read : goal.postfix_expressions::parenthesized-returns-clause-read
postfix_expressions::parenthesized-returns-clause-read t c =
    made_reads c.paren_node.result c.args.budget _ _ _ _ (parenthesized_whole c.args.budget (readers_inside c.args.scope.typedefs.now c.args.budget) c.args.reader.now c.expect.new.self c.expression.new.reader c.expect-2.new.self (tree_of c.in_ok-nested.nested.tree.value) c.in_ok-nested.nested.height _ c.in_ok-place.ensures.sign (inner_reads (λ i. i.expression c.expect.new.self) c.args.scope.typedefs.now c.in_ok-inner.field-0 c.args.budget c.in_ok-inner.ensures.inner (c.in_ok-nested.ensures.read)) c.in_ok-expect.ensures.sign refl
    ∙ ap (λ at. made c.args.budget (Paren at (tree_of c.in_ok-nested.nested.tree.value)) c.in_ok-nested.nested.height c.expect-2.new.self) (sym c.in_ok-place.ensures.place)) c.paren_node.ensures.tree c.paren_node.ensures.height c.paren_node.ensures.refused

pub postfix_expressions::postfix-returns-in_err-behind-clause-read : goal.postfix_expressions::postfix-returns-in_err-behind-clause-read
postfix_expressions::postfix-returns-in_err-behind-clause-read t c =
    refuses _ c.from_residual-in_err-behind.result _ c.from_residual-in_err-behind.ensures.1 (λ s. c.loop-turn.invariant.read ∙ suffixes_turn c.args.budget (readers_inside c.args.scope.typedefs.now c.args.budget) c.args.scope.typedefs.now c.args.budget c.loop-turn._turn (got (tree_of c.loop-turn.found.tree.value) c.loop-turn.found.height c.loop-turn.reader) None (omega (arith, c.loop-turn-test.true)) (sym (c.if-not-goes_on.ensures ∙ ap goes_on c.peek.ensures)) (c.in_err-behind.ensures.read s (tree_of c.loop-turn.found.tree.value) c.loop-turn.found.height))

pub postfix_expressions::postfix-returns-in_err-found-2-clause-read : goal.postfix_expressions::postfix-returns-in_err-found-2-clause-read
postfix_expressions::postfix-returns-in_err-found-2-clause-read t c =
    refuses _ c.from_residual-in_err-found-2.result _ c.from_residual-in_err-found-2.ensures.1 (λ s. c.loop-turn.invariant.read ∙ suffixes_turn c.args.budget (readers_inside c.args.scope.typedefs.now c.args.budget) c.args.scope.typedefs.now c.args.budget c.loop-turn._turn (got (tree_of c.loop-turn.found.tree.value) c.loop-turn.found.height c.loop-turn.reader) None (omega (arith, c.loop-turn-test.true)) (sym (c.if-not-goes_on.ensures ∙ ap goes_on c.peek.ensures)) (c.in_ok-behind.ensures.read (tree_of c.loop-turn.found.tree.value) c.loop-turn.found.height ∙ made_none c.args.budget _ _ _ (c.in_err-found-2.ensures.refused s)))

pub postfix_expressions::postfix-loop-turn-preserved : goal.postfix_expressions::postfix-loop-turn-preserved
postfix_expressions::postfix-loop-turn-preserved t c =
    record {
      found = one_more c.loop-turn.invariant.found c.in_ok-behind.ensures.found c.in_ok-found-2.ensures.tree c.in_ok-found-2.ensures.height.0 c.in_ok-found-2.ensures.height.1;
      read =
          c.loop-turn.invariant.read
          ∙ suffixes_turn c.args.budget (readers_inside c.args.scope.typedefs.now c.args.budget) c.args.scope.typedefs.now c.args.budget c.loop-turn._turn (got (tree_of c.loop-turn.found.tree.value) c.loop-turn.found.height c.loop-turn.reader) _ (omega (arith, c.loop-turn-test.true)) (sym (c.if-not-goes_on.ensures ∙ ap goes_on c.peek.ensures)) (c.in_ok-behind.ensures.read (tree_of c.loop-turn.found.tree.value) c.loop-turn.found.height ∙ made_is c.args.budget _ _ _ _ _ c.in_ok-found-2.ensures.tree c.in_ok-found-2.ensures.height.0 c.in_ok-found-2.ensures.height.1);
    }

pub postfix_expressions::some_arguments-returns-in_err-argument-clause-read : goal.postfix_expressions::some_arguments-returns-in_err-argument-clause-read
postfix_expressions::some_arguments-returns-in_err-argument-clause-read t c =
    refuses _ c.from_residual.result _ c.from_residual.ensures.1 (λ s. c.loop-turn.invariant.read ∙ arguments_no_argument (all_readers c.args.scope.typedefs.now c.args.budget) (map tree_of c.loop-turn.found.items) c.loop-turn.height (length c.args.reader.now) c.loop-turn._turn c.loop-turn.reader (omega (arith, c.loop-turn-test.true, c.left-turn-end.ensures)) (c.in_err-argument.ensures.read s))

pub postfix_expressions::some_arguments-returns-in_err-expect-clause-read : goal.postfix_expressions::some_arguments-returns-in_err-expect-clause-read
postfix_expressions::some_arguments-returns-in_err-expect-clause-read t c =
    refuses _ c.from_residual-in_err-expect.result _ c.from_residual-in_err-expect.ensures.1 (λ s. c.loop-turn.invariant.read ∙ arguments_open (all_readers c.args.scope.typedefs.now c.args.budget) (map tree_of c.loop-turn.found.items) c.loop-turn.height (length c.args.reader.now) c.loop-turn._turn c.loop-turn.reader (got (tree_of c.in_ok-argument.argument.tree.value) c.in_ok-argument.argument.height c.assignment.new.reader) (omega (arith, c.loop-turn-test.true, c.left-turn-end.ensures)) c.in_ok-argument.ensures.read (no_comma _ c.if-not-accept.ensures.other) (ap (λ x. is_right_parenthesis (first_symbol x)) (sym c.if-not-accept.ensures.no) ∙ no_right_parenthesis _ c.in_err-expect.ensures.refused.1))

pub postfix_expressions::some_arguments-returns-then-not-accept-clause-read : goal.postfix_expressions::some_arguments-returns-then-not-accept-clause-read
postfix_expressions::some_arguments-returns-then-not-accept-clause-read t c =
    c.loop-turn.invariant.read ∙ arguments_done (all_readers c.args.scope.typedefs.now c.args.budget) (map tree_of c.loop-turn.found.items) c.loop-turn.height (length c.args.reader.now) c.loop-turn._turn c.loop-turn.reader (got (tree_of c.in_ok-argument.argument.tree.value) c.in_ok-argument.argument.height c.assignment.new.reader) _ _ _ _ (omega (arith, c.loop-turn-test.true, c.left-turn-end.ensures)) c.in_ok-argument.ensures.read (no_comma _ c.if-not-accept.ensures.other) c.if-not-accept.ensures.no c.in_ok-expect.ensures.sign c.in_ok-add_expression.ensures c.max-height.ensures

pub postfix_expressions::some_arguments-loop-turn-preserved : goal.postfix_expressions::some_arguments-loop-turn-preserved
postfix_expressions::some_arguments-loop-turn-preserved t c =
    record {
      found = one_more_argument c.loop-turn.invariant.found c.in_ok-argument.ensures.found c.if-not-accept.ensures.yes c.in_ok-add_expression.ensures c.max-height.ensures;
      read = c.loop-turn.invariant.read ∙ arguments_next (all_readers c.args.scope.typedefs.now c.args.budget) (map tree_of c.loop-turn.found.items) c.loop-turn.height (length c.args.reader.now) c.loop-turn._turn c.loop-turn.reader (got (tree_of c.in_ok-argument.argument.tree.value) c.in_ok-argument.argument.height c.assignment.new.reader) _ _ _ (omega (arith, c.loop-turn-test.true, c.left-turn-end.ensures)) c.in_ok-argument.ensures.read c.if-not-accept.ensures.yes c.in_ok-add_expression.ensures c.max-height.ensures;
    }

pub postfix_expressions::subscript-returns-in_err-index-clause-read : goal.postfix_expressions::subscript-returns-in_err-index-clause-read
postfix_expressions::subscript-returns-in_err-index-clause-read t c =
    refuses _ c.from_residual-in_err-index.result _ c.from_residual-in_err-index.ensures.1 (λ s. λ e h. index_read c.args.budget (readers_inside c.args.scope.typedefs.now c.args.budget) c.args.reader.now c.expect.new.self e h None c.in_ok-place.ensures.sign (inner_reads (λ i. i.expression c.expect.new.self) c.args.scope.typedefs.now c.in_ok-inner.field-0 c.args.budget c.in_ok-inner.ensures.inner (c.in_err-index.ensures.read s)))

pub postfix_expressions::subscript-returns-in_err-expect-clause-read : goal.postfix_expressions::subscript-returns-in_err-expect-clause-read
postfix_expressions::subscript-returns-in_err-expect-clause-read t c =
    refuses _ c.from_residual-in_err-expect.result _ c.from_residual-in_err-expect.ensures.1 (λ s. λ e h. index_open c.args.budget (readers_inside c.args.scope.typedefs.now c.args.budget) c.args.reader.now c.expect.new.self e h (got (tree_of c.in_ok-index.index.tree.value) c.in_ok-index.index.height c.expression.new.reader) c.in_ok-place.ensures.sign (inner_reads (λ i. i.expression c.expect.new.self) c.args.scope.typedefs.now c.in_ok-inner.field-0 c.args.budget c.in_ok-inner.ensures.inner (c.in_ok-index.ensures.read)) (no_right_bracket _ c.in_err-expect.ensures.refused.1))

pub postfix_expressions::subscript-returns-clause-read : goal.postfix_expressions::subscript-returns-clause-read
postfix_expressions::subscript-returns-clause-read t c =
    λ e h. index_closed c.args.budget (readers_inside c.args.scope.typedefs.now c.args.budget) c.args.reader.now c.expect.new.self c.expect-2.new.self e h (got (tree_of c.in_ok-index.index.tree.value) c.in_ok-index.index.height c.expression.new.reader) c.in_ok-place.ensures.sign (inner_reads (λ i. i.expression c.expect.new.self) c.args.scope.typedefs.now c.in_ok-inner.field-0 c.args.budget c.in_ok-inner.ensures.inner (c.in_ok-index.ensures.read)) c.in_ok-expect.ensures.sign
    ∙ ap (λ at. made c.args.budget (Subscript at e (tree_of c.in_ok-index.index.tree.value)) (max h c.in_ok-index.index.height) c.expect-2.new.self) (sym c.in_ok-place.ensures.place)

pub postfix_expressions::suffix-returns-in-Punctuator-Dot-clause-read : goal.postfix_expressions::suffix-returns-in-Punctuator-Dot-clause-read
postfix_expressions::suffix-returns-in-Punctuator-Dot-clause-read t c =
    let sign : first_symbol c.args.reader.now ≡ symbol.Punctuator p.Dot = sym (rw c.in-Punctuator-Dot.field-0-is at c.in-Punctuator-Dot.ensures) in
    subst (λ x. ReadsSuffix c.member.result c.args.budget (λ e h. suffix_by c.args.budget (readers_inside c.args.scope.typedefs.now c.args.budget) c.args.scope.typedefs.now (got e h c.args.reader.now) (step_of x) x) c.member.new.reader) (sym sign) (c.member.ensures.read c.args.budget sign)

pub postfix_expressions::suffix-returns-in-Punctuator-Arrow-clause-read : goal.postfix_expressions::suffix-returns-in-Punctuator-Arrow-clause-read
postfix_expressions::suffix-returns-in-Punctuator-Arrow-clause-read t c =
    let sign : first_symbol c.args.reader.now ≡ symbol.Punctuator p.Arrow = sym (rw c.in-Punctuator-Arrow.field-0-is at c.in-Punctuator-Arrow.ensures) in
    subst (λ x. ReadsSuffix c.arrow.result c.args.budget (λ e h. suffix_by c.args.budget (readers_inside c.args.scope.typedefs.now c.args.budget) c.args.scope.typedefs.now (got e h c.args.reader.now) (step_of x) x) c.arrow.new.reader) (sym sign) (c.arrow.ensures.read c.args.budget sign)

pub type_names::bracket_pair-returns-in_err-found-clause-read : goal.type_names::bracket_pair-returns-in_err-found-clause-read
type_names::bracket_pair-returns-in_err-found-clause-read t c =
    λ more. refuses _ c.from_residual-in_err-found.result _ c.from_residual-in_err-found.ensures.1 (λ s. length_read (readers_inside c.args.scope.typedefs.now c.args.budget) c.args.reader.now c.expect.new.self more None c.in_ok-place.ensures.sign (no_right_bracket _ c.if-accept.ensures.other) (ap (readers_inside c.args.scope.typedefs.now c.args.budget).conditional (sym c.if-accept.ensures.no) ∙ (inner_reads (λ i. i.conditional c.accept.new.self) c.args.scope.typedefs.now c.in_ok-inner.field-0 c.args.budget c.in_ok-inner.ensures.inner (c.in_err-found.ensures.read s))))

pub type_names::bracket_pair-returns-in_err-expect-clause-read : goal.type_names::bracket_pair-returns-in_err-expect-clause-read
type_names::bracket_pair-returns-in_err-expect-clause-read t c =
    λ more. refuses _ c.from_residual-in_err-expect.result _ c.from_residual-in_err-expect.ensures.1 (λ s. length_open (readers_inside c.args.scope.typedefs.now c.args.budget) c.args.reader.now c.expect.new.self more (got (tree_of c.in_ok-found.found.tree.value) c.in_ok-found.found.height c.conditional.new.reader) c.in_ok-place.ensures.sign (no_right_bracket _ c.if-accept.ensures.other) (ap (readers_inside c.args.scope.typedefs.now c.args.budget).conditional (sym c.if-accept.ensures.no) ∙ (inner_reads (λ i. i.conditional c.accept.new.self) c.args.scope.typedefs.now c.in_ok-inner.field-0 c.args.budget c.in_ok-inner.ensures.inner (c.in_ok-found.ensures.read))) (no_right_bracket _ c.in_err-expect.ensures.refused.1))

pub type_names::bracket_pair-returns-clause-read : goal.type_names::bracket_pair-returns-clause-read
type_names::bracket_pair-returns-clause-read t c =
    λ more. length_closed (readers_inside c.args.scope.typedefs.now c.args.budget) c.args.reader.now c.expect.new.self c.expect-2.new.self more (got (tree_of c.in_ok-found.found.tree.value) c.in_ok-found.found.height c.conditional.new.reader) c.in_ok-place.ensures.sign (no_right_bracket _ c.if-accept.ensures.other) (ap (readers_inside c.args.scope.typedefs.now c.args.budget).conditional (sym c.if-accept.ensures.no) ∙ (inner_reads (λ i. i.conditional c.accept.new.self) c.args.scope.typedefs.now c.in_ok-inner.field-0 c.args.budget c.in_ok-inner.ensures.inner (c.in_ok-found.ensures.read))) c.in_ok-expect.ensures.sign
    ∙ ap (λ at. after_arrays (more c.expect-2.new.self) (λ g. Some (record { arrays = record { place = at; has_length = true } ∷ g.arrays; lengths = More (tree_of c.in_ok-found.found.tree.value) g.lengths; height = max c.in_ok-found.found.height g.height; rest = g.rest }))) (sym c.in_ok-place.ensures.place)

pub type_names::brackets-returns-in_err-pair-clause-read : goal.type_names::brackets-returns-in_err-pair-clause-read
type_names::brackets-returns-in_err-pair-clause-read t c =
    refuses _ c.from_residual.result _ c.from_residual.ensures.1 (λ s. c.loop-turn.invariant.read ∙ pairs_no_pair (readers_inside c.args.scope.typedefs.now c.args.budget) c.loop-turn.parts.arrays.items (map tree_of c.loop-turn.parts.lengths.items) c.loop-turn.height (length c.args.reader.now) c.loop-turn._turn c.loop-turn.reader (omega (arith, c.loop-turn-test.true, c.left-turn-end.ensures)) (ap is_left_bracket (c.if-not-is_at.ensures.0 refl)) (λ more. c.in_err-pair.ensures.read more s))

pub type_names::brackets-returns-then-not-is_at-clause-read : goal.type_names::brackets-returns-then-not-is_at-clause-read
type_names::brackets-returns-then-not-is_at-clause-read t c =
    c.loop-turn.invariant.read ∙ pairs_stop (readers_inside c.args.scope.typedefs.now c.args.budget) c.loop-turn.parts.arrays.items (map tree_of c.loop-turn.parts.lengths.items) c.loop-turn.height (length c.args.reader.now) c.loop-turn._turn c.loop-turn.reader (no_left_bracket _ (not_so c.if-not-is_at.ensures))

pub type_names::brackets-returns-clause-read : goal.type_names::brackets-returns-clause-read
type_names::brackets-returns-clause-read t c =
    c.loop-turn.invariant.read ∙ pairs_over (readers_inside c.args.scope.typedefs.now c.args.budget) c.loop-turn.parts.arrays.items (map tree_of c.loop-turn.parts.lengths.items) c.loop-turn.height (length c.args.reader.now) c.loop-turn._turn c.loop-turn.reader (omega (arith, c.loop-turn-test.false, c.left-turn-end.ensures))

pub type_names::nested_abstract-returns-in_err-nested-clause-read : goal.type_names::nested_abstract-returns-in_err-nested-clause-read
type_names::nested_abstract-returns-in_err-nested-clause-read t c =
    refuses _ c.from_residual-in_err-nested.result _ c.from_residual-in_err-nested.ensures.1 (λ s. nested_none (readers_inside c.args.scope.typedefs.now c.args.budget) c.args.reader.now c.accept.new.self c.if-not-accept.ensures.yes (inner_reads (λ i. i.declarator c.accept.new.self) c.args.scope.typedefs.now c.in_ok-inner.field-0 c.args.budget c.in_ok-inner.ensures.inner (c.in_err-nested.ensures.read s)))

pub type_names::nested_abstract-returns-in_err-expect-clause-read : goal.type_names::nested_abstract-returns-in_err-expect-clause-read
type_names::nested_abstract-returns-in_err-expect-clause-read t c =
    refuses _ c.from_residual-in_err-expect.result _ c.from_residual-in_err-expect.ensures.1 (λ s. nested_open (readers_inside c.args.scope.typedefs.now c.args.budget) c.args.reader.now c.accept.new.self (layers_got c.in_ok-nested.nested.tree c.in_ok-nested.nested.height c.abstract_declarator.new.reader) c.if-not-accept.ensures.yes (inner_reads (λ i. i.declarator c.accept.new.self) c.args.scope.typedefs.now c.in_ok-inner.field-0 c.args.budget c.in_ok-inner.ensures.inner (c.in_ok-nested.ensures.read)) (no_right_parenthesis _ c.in_err-expect.ensures.refused.1))

pub type_names::nested_abstract-returns-clause-read : goal.type_names::nested_abstract-returns-clause-read
type_names::nested_abstract-returns-clause-read t c =
    nested_closed (readers_inside c.args.scope.typedefs.now c.args.budget) c.args.reader.now c.accept.new.self c.expect.new.self (layers_got c.in_ok-nested.nested.tree c.in_ok-nested.nested.height c.abstract_declarator.new.reader) c.if-not-accept.ensures.yes (inner_reads (λ i. i.declarator c.accept.new.self) c.args.scope.typedefs.now c.in_ok-inner.field-0 c.args.budget c.in_ok-inner.ensures.inner (c.in_ok-nested.ensures.read)) c.in_ok-expect.ensures.sign

pub type_names::type_name-returns-then-not-begins_abstract-clause-read : goal.type_names::type_name-returns-then-not-begins_abstract-clause-read
type_names::type_name-returns-then-not-begins_abstract-clause-read t c =
    name_plain c.args.scope.typedefs.now c.args.budget (readers_inside c.args.scope.typedefs.now c.args.budget) c.args.reader.now (record { words = c.in_ok-words.words.tree.items; rest = c.type_name_words.new.reader }) c.in_ok-words.ensures.read (sym c.if-not-begins_abstract.ensures)
    ∙ plain_is c.in_ok-words.words.tree.items _ _ _ c.in_ok-words.words.height _ c.in_ok-plain.ensures.name c.in_ok-plain.ensures.lengths c.in_ok-plain.ensures.height c.in_ok-words.ensures.height

pub type_names::type_name-returns-in_err-inner-clause-read : goal.type_names::type_name-returns-in_err-inner-clause-read
type_names::type_name-returns-in_err-inner-clause-read t c =
    refuses _ c.from_residual-in_err-inner.result _ c.from_residual-in_err-inner.ensures.1 (λ s. name_declared c.args.scope.typedefs.now c.args.budget (readers_inside c.args.scope.typedefs.now c.args.budget) c.args.reader.now (record { words = c.in_ok-words.words.tree.items; rest = c.type_name_words.new.reader }) None c.in_ok-words.ensures.read (sym c.if-not-begins_abstract.ensures) (no_inner (λ i. i.declarator c.type_name_words.new.reader) c.args.scope.typedefs.now c.args.budget c.in_err-inner.ensures.refused.1))

pub type_names::type_name-returns-in_err-declarator-clause-read : goal.type_names::type_name-returns-in_err-declarator-clause-read
type_names::type_name-returns-in_err-declarator-clause-read t c =
    refuses _ c.from_residual-in_err-declarator.result _ c.from_residual-in_err-declarator.ensures.1 (λ s. name_declared c.args.scope.typedefs.now c.args.budget (readers_inside c.args.scope.typedefs.now c.args.budget) c.args.reader.now (record { words = c.in_ok-words.words.tree.items; rest = c.type_name_words.new.reader }) None c.in_ok-words.ensures.read (sym c.if-not-begins_abstract.ensures) (inner_reads (λ i. i.declarator c.type_name_words.new.reader) c.args.scope.typedefs.now c.in_ok-inner.field-0 c.args.budget c.in_ok-inner.ensures.inner (c.in_err-declarator.ensures.read s)))

pub type_names::type_name-returns-in_err-declared-clause-read : goal.type_names::type_name-returns-in_err-declared-clause-read
type_names::type_name-returns-in_err-declared-clause-read t c =
    refuses _ c.from_residual-in_err-declared.result _ c.from_residual-in_err-declared.ensures.1 (λ s. name_declared c.args.scope.typedefs.now c.args.budget (readers_inside c.args.scope.typedefs.now c.args.budget) c.args.reader.now (record { words = c.in_ok-words.words.tree.items; rest = c.type_name_words.new.reader }) (Some (layers_got c.in_ok-declarator.declarator.tree c.in_ok-declarator.declarator.height c.abstract_declarator.new.reader)) c.in_ok-words.ensures.read (sym c.if-not-begins_abstract.ensures) (inner_reads (λ i. i.declarator c.type_name_words.new.reader) c.args.scope.typedefs.now c.in_ok-inner.field-0 c.args.budget c.in_ok-inner.ensures.inner (c.in_ok-declarator.ensures.read)) ∙ c.in_err-declared.ensures.read c.in_ok-words.ensures.height c.abstract_declarator.new.reader s)

pub type_names::type_name-returns-clause-read : goal.type_names::type_name-returns-clause-read
type_names::type_name-returns-clause-read t c =
    name_declared c.args.scope.typedefs.now c.args.budget (readers_inside c.args.scope.typedefs.now c.args.budget) c.args.reader.now (record { words = c.in_ok-words.words.tree.items; rest = c.type_name_words.new.reader }) (Some (layers_got c.in_ok-declarator.declarator.tree c.in_ok-declarator.declarator.height c.abstract_declarator.new.reader)) c.in_ok-words.ensures.read (sym c.if-not-begins_abstract.ensures) (inner_reads (λ i. i.declarator c.type_name_words.new.reader) c.args.scope.typedefs.now c.in_ok-inner.field-0 c.args.budget c.in_ok-inner.ensures.inner (c.in_ok-declarator.ensures.read)) ∙ c.in_ok-declared.ensures.read c.in_ok-words.ensures.height c.abstract_declarator.new.reader

pub unary_expressions::cast_expression-returns-in_err-expect-clause-read : goal.unary_expressions::cast_expression-returns-in_err-expect-clause-read
unary_expressions::cast_expression-returns-in_err-expect-clause-read t c =
    refuses _ c.from_residual-in_err-expect.result _ c.from_residual-in_err-expect.ensures.1 (λ s. sign_before is_left_parenthesis refl c.in_ok-place.ensures.sign (cast_open c.args.budget (readers_inside c.args.scope.typedefs.now c.args.budget) c.args.reader.now c.expect.new.self (record { name = type_name_view c.in_ok-named.named.tree.value.name; lengths = trees (map tree_of c.in_ok-named.named.tree.value.lengths.items); height = c.in_ok-named.named.height; rest = c.type_name.new.reader }) c.in_ok-place.ensures.sign.behind (inner_reads (λ i. i.type_name c.expect.new.self) c.args.scope.typedefs.now c.in_ok-inner.field-0 c.args.budget c.in_ok-inner.ensures.inner (c.in_ok-named.ensures.read)) (no_right_parenthesis _ c.in_err-expect.ensures.refused.1)))

pub unary_expressions::cast_expression-returns-in_err-operand-clause-read : goal.unary_expressions::cast_expression-returns-in_err-operand-clause-read
unary_expressions::cast_expression-returns-in_err-operand-clause-read t c =
    refuses _ c.from_residual-in_err-operand.result _ c.from_residual-in_err-operand.ensures.1 (λ s. sign_before is_left_parenthesis refl c.in_ok-place.ensures.sign (cast_operand c.args.budget (readers_inside c.args.scope.typedefs.now c.args.budget) c.args.reader.now c.expect.new.self c.expect-2.new.self (record { name = type_name_view c.in_ok-named.named.tree.value.name; lengths = trees (map tree_of c.in_ok-named.named.tree.value.lengths.items); height = c.in_ok-named.named.height; rest = c.type_name.new.reader }) None c.in_ok-place.ensures.sign.behind (inner_reads (λ i. i.type_name c.expect.new.self) c.args.scope.typedefs.now c.in_ok-inner.field-0 c.args.budget c.in_ok-inner.ensures.inner (c.in_ok-named.ensures.read)) c.in_ok-expect.ensures.sign (inner_reads (λ i. i.cast c.expect-2.new.self) c.args.scope.typedefs.now c.in_ok-inner-2.field-0 c.args.budget c.in_ok-inner-2.ensures.inner (c.in_err-operand.ensures.read s))))

pub unary_expressions::cast_expression-returns-clause-read : goal.unary_expressions::cast_expression-returns-clause-read
unary_expressions::cast_expression-returns-clause-read t c =
    made_reads c.cast_node.result c.args.budget _ _ _ _ (sign_before is_left_parenthesis refl c.in_ok-place.ensures.sign (cast_operand c.args.budget (readers_inside c.args.scope.typedefs.now c.args.budget) c.args.reader.now c.expect.new.self c.expect-2.new.self (record { name = type_name_view c.in_ok-named.named.tree.value.name; lengths = trees (map tree_of c.in_ok-named.named.tree.value.lengths.items); height = c.in_ok-named.named.height; rest = c.type_name.new.reader }) (Some (got (tree_of c.in_ok-operand.operand.tree.value) c.in_ok-operand.operand.height c.cast.new.reader)) c.in_ok-place.ensures.sign.behind (inner_reads (λ i. i.type_name c.expect.new.self) c.args.scope.typedefs.now c.in_ok-inner.field-0 c.args.budget c.in_ok-inner.ensures.inner (c.in_ok-named.ensures.read)) c.in_ok-expect.ensures.sign (inner_reads (λ i. i.cast c.expect-2.new.self) c.args.scope.typedefs.now c.in_ok-inner-2.field-0 c.args.budget c.in_ok-inner-2.ensures.inner (c.in_ok-operand.ensures.read)))
    ∙ ap (λ at. made c.args.budget (Cast at (type_name_view c.in_ok-named.named.tree.value.name) (trees (map tree_of c.in_ok-named.named.tree.value.lengths.items)) (tree_of c.in_ok-operand.operand.tree.value)) (max c.in_ok-named.named.height c.in_ok-operand.operand.height) c.cast.new.reader) (sym c.in_ok-place.ensures.place)) c.cast_node.ensures.tree c.cast_node.ensures.height c.cast_node.ensures.refused

pub unary_expressions::operator_expression-returns-in_err-operand-clause-read : goal.unary_expressions::operator_expression-returns-in_err-operand-clause-read
unary_expressions::operator_expression-returns-in_err-operand-clause-read t c =
    λ here. refuses _ c.from_residual-in_err-operand.result _ c.from_residual-in_err-operand.ensures.1 (λ s. operator_read c.args.budget (readers_inside c.args.scope.typedefs.now c.args.budget) c.args.scope.typedefs.now c.args.reader.now c.expect.new.self c.args.op None c.in_ok-place.ensures.sign.behind (inner_reads (λ i. i.cast c.expect.new.self) c.args.scope.typedefs.now c.in_ok-inner.field-0 c.args.budget c.in_ok-inner.ensures.inner (c.in_err-operand.ensures.read s)))

pub unary_expressions::operator_expression-returns-clause-read : goal.unary_expressions::operator_expression-returns-clause-read
unary_expressions::operator_expression-returns-clause-read t c =
    λ here. made_reads c.unary_node.result c.args.budget _ _ _ _ (operator_read c.args.budget (readers_inside c.args.scope.typedefs.now c.args.budget) c.args.scope.typedefs.now c.args.reader.now c.expect.new.self c.args.op (Some (got (tree_of c.in_ok-operand.operand.tree.value) c.in_ok-operand.operand.height c.cast.new.reader)) c.in_ok-place.ensures.sign.behind (inner_reads (λ i. i.cast c.expect.new.self) c.args.scope.typedefs.now c.in_ok-inner.field-0 c.args.budget c.in_ok-inner.ensures.inner (c.in_ok-operand.ensures.read))
    ∙ ap (λ at. made c.args.budget (Unary at c.args.op (tree_of c.in_ok-operand.operand.tree.value)) c.in_ok-operand.operand.height c.cast.new.reader) (sym c.in_ok-place.ensures.place)) c.unary_node.ensures.tree c.unary_node.ensures.height c.unary_node.ensures.refused

pub unary_expressions::step_expression-returns-in_err-operand-clause-read : goal.unary_expressions::step_expression-returns-in_err-operand-clause-read
unary_expressions::step_expression-returns-in_err-operand-clause-read t c =
    λ here. refuses _ c.from_residual-in_err-operand.result _ c.from_residual-in_err-operand.ensures.1 (λ s. step_read c.args.budget (readers_inside c.args.scope.typedefs.now c.args.budget) c.args.scope.typedefs.now c.args.reader.now c.expect.new.self c.args.op None c.in_ok-place.ensures.sign.behind (inner_reads (λ i. i.unary c.expect.new.self) c.args.scope.typedefs.now c.in_ok-inner.field-0 c.args.budget c.in_ok-inner.ensures.inner (c.in_err-operand.ensures.read s)))

pub unary_expressions::step_expression-returns-clause-read : goal.unary_expressions::step_expression-returns-clause-read
unary_expressions::step_expression-returns-clause-read t c =
    λ here. made_reads c.prefix_node.result c.args.budget _ _ _ _ (step_read c.args.budget (readers_inside c.args.scope.typedefs.now c.args.budget) c.args.scope.typedefs.now c.args.reader.now c.expect.new.self c.args.op (Some (got (tree_of c.in_ok-operand.operand.tree.value) c.in_ok-operand.operand.height c.unary.new.reader)) c.in_ok-place.ensures.sign.behind (inner_reads (λ i. i.unary c.expect.new.self) c.args.scope.typedefs.now c.in_ok-inner.field-0 c.args.budget c.in_ok-inner.ensures.inner (c.in_ok-operand.ensures.read))
    ∙ ap (λ at. made c.args.budget (Prefix at c.args.op (tree_of c.in_ok-operand.operand.tree.value)) c.in_ok-operand.operand.height c.unary.new.reader) (sym c.in_ok-place.ensures.place)) c.prefix_node.ensures.tree c.prefix_node.ensures.height c.prefix_node.ensures.refused

pub unary_expressions::sizeof_expression-returns-in_err-operand-clause-read : goal.unary_expressions::sizeof_expression-returns-in_err-operand-clause-read
unary_expressions::sizeof_expression-returns-in_err-operand-clause-read t c =
    refuses _ c.from_residual-in_err-operand.result _ c.from_residual-in_err-operand.ensures.1 (λ s. word_before is_sizeof refl c.in_ok-place.ensures.word (size_read c.args.budget (readers_inside c.args.scope.typedefs.now c.args.budget) c.args.reader.now c.expect_word.new.self None c.in_ok-place.ensures.word.behind (inner_reads (λ i. i.unary c.expect_word.new.self) c.args.scope.typedefs.now c.in_ok-inner.field-0 c.args.budget c.in_ok-inner.ensures.inner (c.in_err-operand.ensures.read s))))

pub unary_expressions::sizeof_expression-returns-clause-read : goal.unary_expressions::sizeof_expression-returns-clause-read
unary_expressions::sizeof_expression-returns-clause-read t c =
    made_reads c.sizeof_node.result c.args.budget _ _ _ _ (word_before is_sizeof refl c.in_ok-place.ensures.word (size_read c.args.budget (readers_inside c.args.scope.typedefs.now c.args.budget) c.args.reader.now c.expect_word.new.self (Some (got (tree_of c.in_ok-operand.operand.tree.value) c.in_ok-operand.operand.height c.unary.new.reader)) c.in_ok-place.ensures.word.behind (inner_reads (λ i. i.unary c.expect_word.new.self) c.args.scope.typedefs.now c.in_ok-inner.field-0 c.args.budget c.in_ok-inner.ensures.inner (c.in_ok-operand.ensures.read)))
    ∙ ap (λ at. made c.args.budget (SizeofExpr at (tree_of c.in_ok-operand.operand.tree.value)) c.in_ok-operand.operand.height c.unary.new.reader) (sym c.in_ok-place.ensures.place)) c.sizeof_node.ensures.tree c.sizeof_node.ensures.height c.sizeof_node.ensures.refused

pub unary_expressions::sizeof_type-returns-in_err-expect-2-clause-read : goal.unary_expressions::sizeof_type-returns-in_err-expect-2-clause-read
unary_expressions::sizeof_type-returns-in_err-expect-2-clause-read t c =
    refuses _ c.from_residual-in_err-expect-2.result _ c.from_residual-in_err-expect-2.ensures.1 (λ s. word_then is_sizeof _ refl c.in_ok-place.ensures.word (sign_before is_left_parenthesis refl c.in_ok-expect.ensures.sign (size_open c.args.budget (readers_inside c.args.scope.typedefs.now c.args.budget) c.args.reader.now c.expect_word.new.self c.expect.new.self (record { name = type_name_view c.in_ok-named.named.tree.value.name; lengths = trees (map tree_of c.in_ok-named.named.tree.value.lengths.items); height = c.in_ok-named.named.height; rest = c.type_name.new.reader }) c.in_ok-place.ensures.word.behind c.in_ok-expect.ensures.sign.behind (inner_reads (λ i. i.type_name c.expect.new.self) c.args.scope.typedefs.now c.in_ok-inner.field-0 c.args.budget c.in_ok-inner.ensures.inner (c.in_ok-named.ensures.read)) (no_right_parenthesis _ c.in_err-expect-2.ensures.refused.1))))

pub unary_expressions::sizeof_type-returns-clause-read : goal.unary_expressions::sizeof_type-returns-clause-read
unary_expressions::sizeof_type-returns-clause-read t c =
    made_reads c.sizeof_type_node.result c.args.budget _ _ _ _ (word_then is_sizeof _ refl c.in_ok-place.ensures.word (sign_before is_left_parenthesis refl c.in_ok-expect.ensures.sign (size_closed c.args.budget (readers_inside c.args.scope.typedefs.now c.args.budget) c.args.reader.now c.expect_word.new.self c.expect.new.self c.expect-2.new.self (record { name = type_name_view c.in_ok-named.named.tree.value.name; lengths = trees (map tree_of c.in_ok-named.named.tree.value.lengths.items); height = c.in_ok-named.named.height; rest = c.type_name.new.reader }) _ c.in_ok-place.ensures.word.behind c.in_ok-expect.ensures.sign.behind (inner_reads (λ i. i.type_name c.expect.new.self) c.args.scope.typedefs.now c.in_ok-inner.field-0 c.args.budget c.in_ok-inner.ensures.inner (c.in_ok-named.ensures.read)) c.in_ok-expect-2.ensures.sign refl))
    ∙ ap (λ at. made c.args.budget (SizeofType at (type_name_view c.in_ok-named.named.tree.value.name) (trees (map tree_of c.in_ok-named.named.tree.value.lengths.items))) c.in_ok-named.named.height c.expect-2.new.self) (sym c.in_ok-place.ensures.place)) c.sizeof_type_node.ensures.tree c.sizeof_type_node.ensures.height c.sizeof_type_node.ensures.refused
