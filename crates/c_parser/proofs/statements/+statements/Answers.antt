use Rattle.std.specs.Option.{option_map}
use Rattle.std.proofs.Common.{◌+◌, map, sym, refl, arith, None, ◌∙◌}
use Rattle.std.proofs.lemmas.Result.{err_from_is_err_and}
use Rattle.c_parser_expressions.proofs.Signs.{not_so, no_colon, no_right_parenthesis}
use Rattle.c_parser.proofs.Signs.{no_left_parenthesis}
use Rattle.c_parser_declarations.proofs.readers.Signs.{no_right_brace, no_semicolon}
use Rattle.c_parser.proofs.Turns.{items_turn, items_none, items_stop, items_over}
use Rattle.c_layout.specs.DeclarationTrees.{name_view, for_first_view, statement_tree}
use Rattle.c_layout.specs.SyntaxTrees.{tree_of}
use Rattle.c_parser.proofs.Bodies as bodies
use Rattle.c_parser_declarations.proofs.grammar.Listing.{map_snoc}
use Rattle.c_parser.proofs.Stepping.{label_is, label_off, label_nameless, case_none, case_uncolon, case_is, default_uncolon, default_is, if_none, if_first, if_alone, if_second, switch_none, switch_is, while_none, while_is, do_body, do_unended, do_test, do_is, do_off, for_first_at, for_unopened, for_test_at, for_step_at, for_body_at, block_is}
use Rattle.c_parser_declarations.proofs.grammar.Reading.{raised_is, raised_none}
use Rattle.c_parser_declarations.specs.Grammar.SpecifierReaders.{is_semicolon}
use Rattle.c_parser_expression_grammar.specs.Readings.{is_right_parenthesis}
use Rattle.c_parser_declarations.specs.Grammar.Answers.{as_item}
use Rattle.c_parser_declarations.specs.Grammar.Items.{item_of}
use Rattle.c_parser_expression_grammar.specs.TypeNameReaders.{readers_inside}
use Rattle.c_parser.specs.StatementReaders.{statement_inside}
use Rattle.c_parser.proofs.statements.+statements.Goals as goal

pub label_statement-returns-clause-found : goal.label_statement-returns-clause-found
label_statement-returns-clause-found t c =
    bodies.label_found (name_view c.in_ok-name.name) c.in_ok-name.ensures.found c.in_ok-expect.ensures.sign c.in_ok-labelled.ensures.found c.label-tree.ensures c.in_ok-height.ensures.height.0 c.in_ok-height.ensures.height.1

pub case_statement-returns-clause-found : goal.case_statement-returns-clause-found
case_statement-returns-clause-found t c =
    bodies.case_found c.in_ok-place.ensures.place c.in_ok-place.ensures.word c.in_ok-value.ensures.found c.in_ok-expect.ensures.sign c.in_ok-labelled.ensures.found c.case-tree.ensures
    (rw c.max-parts.ensures at c.in_ok-height.ensures.height.0) c.in_ok-height.ensures.height.1

pub default_statement-returns-clause-found : goal.default_statement-returns-clause-found
default_statement-returns-clause-found t c =
    bodies.default_found c.in_ok-place.ensures.place c.in_ok-place.ensures.word c.in_ok-expect.ensures.sign c.in_ok-labelled.ensures.found c.default-tree.ensures c.in_ok-height.ensures.height.0 c.in_ok-height.ensures.height.1

pub if_statement-returns-then-not-is_at_else-clause-found : goal.if_statement-returns-then-not-is_at_else-clause-found
if_statement-returns-then-not-is_at_else-clause-found t c =
    bodies.if_found c.in_ok-place.ensures.place c.in_ok-place.ensures.word c.in_ok-test.ensures.found c.in_ok-first.ensures.found (sym c.if-not-is_at_else.ensures) c.if_alone-tree.ensures
    (rw c.max-parts.ensures at c.in_ok-height.ensures.height.0) c.in_ok-height.ensures.height.1

pub if_statement-returns-clause-found : goal.if_statement-returns-clause-found
if_statement-returns-clause-found t c =
    bodies.if_else_found c.in_ok-place.ensures.place c.in_ok-place.ensures.word c.in_ok-test.ensures.found c.in_ok-first.ensures.found c.in_ok-expect_word.ensures.word c.in_ok-second.ensures.found c.if_else-tree.ensures
    (rw (c.max-all.ensures, c.max-parts.ensures) at c.in_ok-height-2.ensures.height.0) c.in_ok-height-2.ensures.height.1

pub switch_statement-returns-clause-found : goal.switch_statement-returns-clause-found
switch_statement-returns-clause-found t c =
    bodies.switch_found c.in_ok-place.ensures.place c.in_ok-place.ensures.word c.in_ok-value.ensures.found c.in_ok-cases.ensures.found c.switch-tree.ensures
    (rw c.max-parts.ensures at c.in_ok-height.ensures.height.0) c.in_ok-height.ensures.height.1

pub while_statement-returns-clause-found : goal.while_statement-returns-clause-found
while_statement-returns-clause-found t c =
    bodies.while_found c.in_ok-place.ensures.place c.in_ok-place.ensures.word c.in_ok-test.ensures.found c.in_ok-repeated.ensures.found c.while_loop-tree.ensures
    (rw c.max-parts.ensures at c.in_ok-height.ensures.height.0) c.in_ok-height.ensures.height.1

pub do_statement-returns-clause-found : goal.do_statement-returns-clause-found
do_statement-returns-clause-found t c =
    bodies.do_found c.in_ok-place.ensures.place c.in_ok-place.ensures.word c.in_ok-repeated.ensures.found c.in_ok-expect_word.ensures.word c.in_ok-test.ensures.found c.in_ok-expect.ensures.sign c.do_loop-tree.ensures
    (rw c.max-parts.ensures at c.in_ok-height.ensures.height.0) c.in_ok-height.ensures.height.1

pub for_statement-returns-clause-found : goal.for_statement-returns-clause-found
for_statement-returns-clause-found t c =
    bodies.for_found (for_first_view c.in_ok-first.first.tree) (option_map tree_of c.in_ok-test.test.tree) (option_map tree_of c.in_ok-step.step.tree) c.in_ok-place.ensures.place c.in_ok-place.ensures.word
    c.in_ok-expect.ensures.sign c.in_ok-first.ensures.found c.in_ok-test.ensures.found c.in_ok-step.ensures.found c.in_ok-repeated.ensures.found c.for_loop-tree.ensures
    (rw (c.max-parts.ensures, c.max-clauses.ensures, c.max-begun.ensures) at c.in_ok-height.ensures.height.0) c.in_ok-height.ensures.height.1

pub item-returns-clause-found : goal.item-returns-clause-found
item-returns-clause-found t c = bodies.as_item c.in_ok-found.ensures.found

pub items-loop-turn-preserved : goal.items-loop-turn-preserved
items-loop-turn-preserved t c = record {
  found =
      bodies.one_item c.loop-turn.invariant.found c.in_ok-next.ensures.found
      (map_snoc statement_tree c.loop-turn.found.items c.push.new.self.items c.in_ok-next.next.tree c.in_ok-push.ensures.items) c.max-height.ensures;
  read =
      items_turn (omega (arith, c.loop-turn-test.true, c.left-turn-end.ensures)) (no_right_brace _ (not_so c.if-is_at.ensures)) c.in_ok-next.ensures.read c.loop-turn.invariant.read
      (map_snoc statement_tree c.loop-turn.found.items c.push.new.self.items c.in_ok-next.next.tree c.in_ok-push.ensures.items) c.max-height.ensures;
}

pub items-returns-then-is_at-clause-read : goal.items-returns-then-is_at-clause-read
items-returns-then-is_at-clause-read t c = items_stop (c.if-is_at.ensures.0 refl) c.take.ensures.behind c.loop-turn.invariant.read

pub items-returns-in_err-next-clause-read : goal.items-returns-in_err-next-clause-read
items-returns-in_err-next-clause-read t c =
    let p = err_from_is_err_and c.from_residual.result c.from_residual.ensures.1 in
    rw (p.1, p.2) (λ s. items_none (omega (arith, c.loop-turn-test.true, c.left-turn-end.ensures)) (no_right_brace _ (not_so c.if-is_at.ensures)) (c.in_err-next.ensures.read s) c.loop-turn.invariant.read)

pub items-returns-in_err-expect-clause-read : goal.items-returns-in_err-expect-clause-read
items-returns-in_err-expect-clause-read t c =
    let p = err_from_is_err_and c.from_residual-in_err-expect.result c.from_residual-in_err-expect.ensures.1 in
    rw (p.1, p.2) (λ s. items_over (omega (arith, c.loop-turn-test.false, c.left-turn-end.ensures)) (no_right_brace _ c.in_err-expect.ensures.refused.1) c.loop-turn.invariant.read)

pub items-returns-clause-read : goal.items-returns-clause-read
items-returns-clause-read t c = items_stop c.in_ok-expect.ensures.sign.symbol c.in_ok-expect.ensures.sign.behind c.loop-turn.invariant.read

pub block-returns-clause-found : goal.block-returns-clause-found
block-returns-clause-found t c = bodies.whole_block (map statement_tree c.in_ok-found.found.tree.items) c.in_ok-expect.ensures.sign c.in_ok-found.ensures.found c.in_ok-height.ensures.height.0 c.in_ok-height.ensures.height.1

pub block_statement-returns-clause-found : goal.block_statement-returns-clause-found
block_statement-returns-clause-found t c = bodies.block_found (map statement_tree c.in_ok-found.found.tree.items) c.place-place.ensures c.in_ok-found.ensures.found c.block_node-tree.ensures

pub label_statement-returns-in_err-name-clause-read : goal.label_statement-returns-in_err-name-clause-read
label_statement-returns-in_err-name-clause-read t c =
    let p = err_from_is_err_and c.from_residual.result c.from_residual.ensures.1 in
    rw (p.1, p.2) (λ s. label_nameless c.args.scope.typedefs.now c.args.budget (statement_inside c.args.scope.typedefs.now c.args.budget) c.args.reader.now (c.in_err-name.ensures.refused s))

pub label_statement-returns-in_err-expect-clause-read : goal.label_statement-returns-in_err-expect-clause-read
label_statement-returns-in_err-expect-clause-read t c =
    let p = err_from_is_err_and c.from_residual-in_err-expect.result c.from_residual-in_err-expect.ensures.1 in
    rw (p.1, p.2) (λ s. label_off c.args.scope.typedefs.now c.args.budget (statement_inside c.args.scope.typedefs.now c.args.budget) (name_view c.in_ok-name.name) c.in_ok-name.ensures.found (no_colon _ c.in_err-expect.ensures.refused.1))

pub label_statement-returns-in_err-labelled-clause-read : goal.label_statement-returns-in_err-labelled-clause-read
label_statement-returns-in_err-labelled-clause-read t c =
    let p = err_from_is_err_and c.from_residual-in_err-labelled.result c.from_residual-in_err-labelled.ensures.1 in
    rw (p.1, p.2) (λ s. label_is c.args.scope.typedefs.now _ (name_view c.in_ok-name.name) None c.in_ok-name.ensures.found c.in_ok-expect.ensures.sign c.in_ok-inner.ensures.inner (c.in_err-labelled.ensures.read s))

pub label_statement-returns-in_err-height-clause-read : goal.label_statement-returns-in_err-height-clause-read
label_statement-returns-in_err-height-clause-read t c =
    let p = err_from_is_err_and c.from_residual-in_err-height.result c.from_residual-in_err-height.ensures.1 in
    rw (p.1, p.2) (λ s. label_is c.args.scope.typedefs.now _ (name_view c.in_ok-name.name) _ c.in_ok-name.ensures.found c.in_ok-expect.ensures.sign c.in_ok-inner.ensures.inner c.in_ok-labelled.ensures.read ∙ raised_none _ _ _ _ c.in_err-height.ensures.refused.1)

pub label_statement-returns-clause-read : goal.label_statement-returns-clause-read
label_statement-returns-clause-read t c =
    label_is c.args.scope.typedefs.now _ (name_view c.in_ok-name.name) _ c.in_ok-name.ensures.found c.in_ok-expect.ensures.sign c.in_ok-inner.ensures.inner c.in_ok-labelled.ensures.read
    ∙ rw c.label-tree.ensures (raised_is _ _ _ _ _ c.in_ok-height.ensures.height.0 c.in_ok-height.ensures.height.1)

pub case_statement-returns-in_err-value-clause-read : goal.case_statement-returns-in_err-value-clause-read
case_statement-returns-in_err-value-clause-read t c =
    let p = err_from_is_err_and c.from_residual-in_err-value.result c.from_residual-in_err-value.ensures.1 in
    rw (p.1, p.2) (λ w s. case_none c.args.scope.typedefs.now _ (statement_inside c.args.scope.typedefs.now c.args.budget) c.in_ok-place.ensures.word c.in_ok-inner.ensures.inner (c.in_err-value.ensures.read s))

pub case_statement-returns-in_err-expect-clause-read : goal.case_statement-returns-in_err-expect-clause-read
case_statement-returns-in_err-expect-clause-read t c =
    let p = err_from_is_err_and c.from_residual-in_err-expect.result c.from_residual-in_err-expect.ensures.1 in
    rw (p.1, p.2) (λ w s. case_uncolon c.args.scope.typedefs.now _ (statement_inside c.args.scope.typedefs.now c.args.budget) _ _ _ c.in_ok-place.ensures.word c.in_ok-inner.ensures.inner c.in_ok-value.ensures.read (no_colon _ c.in_err-expect.ensures.refused.1))

pub case_statement-returns-in_err-labelled-clause-read : goal.case_statement-returns-in_err-labelled-clause-read
case_statement-returns-in_err-labelled-clause-read t c =
    let p = err_from_is_err_and c.from_residual-in_err-labelled.result c.from_residual-in_err-labelled.ensures.1 in
    rw (p.1, p.2) (λ w s. case_is c.args.scope.typedefs.now _ _ _ _ _ None c.in_ok-place.ensures.word c.in_ok-inner.ensures.inner c.in_ok-value.ensures.read c.in_ok-expect.ensures.sign c.in_ok-inner-2.ensures.inner (c.in_err-labelled.ensures.read s))

pub case_statement-returns-in_err-height-clause-read : goal.case_statement-returns-in_err-height-clause-read
case_statement-returns-in_err-height-clause-read t c =
    let p = err_from_is_err_and c.from_residual-in_err-height.result c.from_residual-in_err-height.ensures.1 in
    rw (p.1, p.2) (λ w s. case_is c.args.scope.typedefs.now _ _ _ _ _ _ c.in_ok-place.ensures.word c.in_ok-inner.ensures.inner c.in_ok-value.ensures.read c.in_ok-expect.ensures.sign c.in_ok-inner-2.ensures.inner c.in_ok-labelled.ensures.read ∙ raised_none _ _ _ _ (rw c.max-parts.ensures at c.in_err-height.ensures.refused.1))

pub case_statement-returns-clause-read : goal.case_statement-returns-clause-read
case_statement-returns-clause-read t c =
    λ w. case_is c.args.scope.typedefs.now _ _ _ _ _ _ c.in_ok-place.ensures.word c.in_ok-inner.ensures.inner c.in_ok-value.ensures.read c.in_ok-expect.ensures.sign c.in_ok-inner-2.ensures.inner c.in_ok-labelled.ensures.read
    ∙ rw (c.case-tree.ensures, c.in_ok-place.ensures.place) (raised_is _ _ _ _ _ (rw c.max-parts.ensures at c.in_ok-height.ensures.height.0) c.in_ok-height.ensures.height.1)

pub default_statement-returns-in_err-expect-clause-read : goal.default_statement-returns-in_err-expect-clause-read
default_statement-returns-in_err-expect-clause-read t c =
    let p = err_from_is_err_and c.from_residual-in_err-expect.result c.from_residual-in_err-expect.ensures.1 in
    rw (p.1, p.2) (λ w s. default_uncolon c.args.budget (statement_inside c.args.scope.typedefs.now c.args.budget) c.in_ok-place.ensures.word (no_colon _ c.in_err-expect.ensures.refused.1))

pub default_statement-returns-in_err-labelled-clause-read : goal.default_statement-returns-in_err-labelled-clause-read
default_statement-returns-in_err-labelled-clause-read t c =
    let p = err_from_is_err_and c.from_residual-in_err-labelled.result c.from_residual-in_err-labelled.ensures.1 in
    rw (p.1, p.2) (λ w s. default_is c.args.scope.typedefs.now _ None c.in_ok-place.ensures.word c.in_ok-expect.ensures.sign c.in_ok-inner.ensures.inner (c.in_err-labelled.ensures.read s))

pub default_statement-returns-in_err-height-clause-read : goal.default_statement-returns-in_err-height-clause-read
default_statement-returns-in_err-height-clause-read t c =
    let p = err_from_is_err_and c.from_residual-in_err-height.result c.from_residual-in_err-height.ensures.1 in
    rw (p.1, p.2) (λ w s. default_is c.args.scope.typedefs.now _ _ c.in_ok-place.ensures.word c.in_ok-expect.ensures.sign c.in_ok-inner.ensures.inner c.in_ok-labelled.ensures.read ∙ raised_none _ _ _ _ c.in_err-height.ensures.refused.1)

pub default_statement-returns-clause-read : goal.default_statement-returns-clause-read
default_statement-returns-clause-read t c =
    λ w. default_is c.args.scope.typedefs.now _ _ c.in_ok-place.ensures.word c.in_ok-expect.ensures.sign c.in_ok-inner.ensures.inner c.in_ok-labelled.ensures.read
    ∙ rw (c.default-tree.ensures, c.in_ok-place.ensures.place) (raised_is _ _ _ _ _ c.in_ok-height.ensures.height.0 c.in_ok-height.ensures.height.1)

pub if_statement-returns-in_err-test-clause-read : goal.if_statement-returns-in_err-test-clause-read
if_statement-returns-in_err-test-clause-read t c =
    let p = err_from_is_err_and c.from_residual-in_err-test.result c.from_residual-in_err-test.ensures.1 in
    rw (p.1, p.2) (λ w s. if_none c.args.scope.typedefs.now _ (statement_inside c.args.scope.typedefs.now c.args.budget) c.in_ok-place.ensures.word c.in_ok-inner.ensures.inner (c.in_err-test.ensures.read s))

pub if_statement-returns-in_err-first-clause-read : goal.if_statement-returns-in_err-first-clause-read
if_statement-returns-in_err-first-clause-read t c =
    let p = err_from_is_err_and c.from_residual-in_err-first.result c.from_residual-in_err-first.ensures.1 in
    rw (p.1, p.2) (λ w s. if_first c.args.scope.typedefs.now _ _ (as_item tree_of c.condition.new.reader c.in_ok-test.test) None c.in_ok-place.ensures.word c.in_ok-inner.ensures.inner c.in_ok-test.ensures.read c.in_ok-inner-2.ensures.inner (c.in_err-first.ensures.read s))

pub if_statement-returns-in_err-height-clause-read : goal.if_statement-returns-in_err-height-clause-read
if_statement-returns-in_err-height-clause-read t c =
    let p = err_from_is_err_and c.from_residual-in_err-height.result c.from_residual-in_err-height.ensures.1 in
    rw (p.1, p.2) (λ w s. if_first c.args.scope.typedefs.now _ _ (as_item tree_of c.condition.new.reader c.in_ok-test.test) _ c.in_ok-place.ensures.word c.in_ok-inner.ensures.inner c.in_ok-test.ensures.read c.in_ok-inner-2.ensures.inner c.in_ok-first.ensures.read ∙ if_alone c.args.budget (statement_inside c.args.scope.typedefs.now c.args.budget) c.args.reader.now (as_item tree_of c.condition.new.reader c.in_ok-test.test) (item_of (statement_tree c.in_ok-first.first.tree.value) c.in_ok-first.first.height c.body.new.reader) (sym c.if-not-is_at_else.ensures) ∙ raised_none _ _ _ _ (rw c.max-parts.ensures at c.in_err-height.ensures.refused.1))

pub if_statement-returns-then-not-is_at_else-clause-read : goal.if_statement-returns-then-not-is_at_else-clause-read
if_statement-returns-then-not-is_at_else-clause-read t c =
    λ w. if_first c.args.scope.typedefs.now _ _ (as_item tree_of c.condition.new.reader c.in_ok-test.test) _ c.in_ok-place.ensures.word c.in_ok-inner.ensures.inner c.in_ok-test.ensures.read c.in_ok-inner-2.ensures.inner c.in_ok-first.ensures.read ∙ if_alone c.args.budget (statement_inside c.args.scope.typedefs.now c.args.budget) c.args.reader.now (as_item tree_of c.condition.new.reader c.in_ok-test.test) (item_of (statement_tree c.in_ok-first.first.tree.value) c.in_ok-first.first.height c.body.new.reader) (sym c.if-not-is_at_else.ensures)
    ∙ rw (c.if_alone-tree.ensures, c.in_ok-place.ensures.place) (raised_is _ _ _ _ _ (rw c.max-parts.ensures at c.in_ok-height.ensures.height.0) c.in_ok-height.ensures.height.1)

pub if_statement-returns-in_err-second-clause-read : goal.if_statement-returns-in_err-second-clause-read
if_statement-returns-in_err-second-clause-read t c =
    let p = err_from_is_err_and c.from_residual-in_err-second.result c.from_residual-in_err-second.ensures.1 in
    rw (p.1, p.2) (λ w s. if_first c.args.scope.typedefs.now _ _ (as_item tree_of c.condition.new.reader c.in_ok-test.test) _ c.in_ok-place.ensures.word c.in_ok-inner.ensures.inner c.in_ok-test.ensures.read c.in_ok-inner-2.ensures.inner c.in_ok-first.ensures.read ∙ if_second c.args.scope.typedefs.now _ c.args.reader.now (as_item tree_of c.condition.new.reader c.in_ok-test.test) (item_of (statement_tree c.in_ok-first.first.tree.value) c.in_ok-first.first.height c.body.new.reader) None c.in_ok-expect_word.ensures.word c.in_ok-inner-3.ensures.inner (c.in_err-second.ensures.read s))

pub if_statement-returns-in_err-height-2-clause-read : goal.if_statement-returns-in_err-height-2-clause-read
if_statement-returns-in_err-height-2-clause-read t c =
    let p = err_from_is_err_and c.from_residual-in_err-height-2.result c.from_residual-in_err-height-2.ensures.1 in
    rw (p.1, p.2) (λ w s. if_first c.args.scope.typedefs.now _ _ (as_item tree_of c.condition.new.reader c.in_ok-test.test) _ c.in_ok-place.ensures.word c.in_ok-inner.ensures.inner c.in_ok-test.ensures.read c.in_ok-inner-2.ensures.inner c.in_ok-first.ensures.read ∙ if_second c.args.scope.typedefs.now _ c.args.reader.now (as_item tree_of c.condition.new.reader c.in_ok-test.test) (item_of (statement_tree c.in_ok-first.first.tree.value) c.in_ok-first.first.height c.body.new.reader) _ c.in_ok-expect_word.ensures.word c.in_ok-inner-3.ensures.inner c.in_ok-second.ensures.read ∙ raised_none _ _ _ _ (rw (c.max-all.ensures, c.max-parts.ensures) at c.in_err-height-2.ensures.refused.1))

pub if_statement-returns-clause-read : goal.if_statement-returns-clause-read
if_statement-returns-clause-read t c =
    λ w. if_first c.args.scope.typedefs.now _ _ (as_item tree_of c.condition.new.reader c.in_ok-test.test) _ c.in_ok-place.ensures.word c.in_ok-inner.ensures.inner c.in_ok-test.ensures.read c.in_ok-inner-2.ensures.inner c.in_ok-first.ensures.read ∙ if_second c.args.scope.typedefs.now _ c.args.reader.now (as_item tree_of c.condition.new.reader c.in_ok-test.test) (item_of (statement_tree c.in_ok-first.first.tree.value) c.in_ok-first.first.height c.body.new.reader) _ c.in_ok-expect_word.ensures.word c.in_ok-inner-3.ensures.inner c.in_ok-second.ensures.read
    ∙ rw (c.if_else-tree.ensures, c.in_ok-place.ensures.place) (raised_is _ _ _ _ _ (rw (c.max-all.ensures, c.max-parts.ensures) at c.in_ok-height-2.ensures.height.0) c.in_ok-height-2.ensures.height.1)

pub switch_statement-returns-in_err-value-clause-read : goal.switch_statement-returns-in_err-value-clause-read
switch_statement-returns-in_err-value-clause-read t c =
    let p = err_from_is_err_and c.from_residual-in_err-value.result c.from_residual-in_err-value.ensures.1 in
    rw (p.1, p.2) (λ w s. switch_none c.args.scope.typedefs.now _ (statement_inside c.args.scope.typedefs.now c.args.budget) c.in_ok-place.ensures.word c.in_ok-inner.ensures.inner (c.in_err-value.ensures.read s))

pub switch_statement-returns-in_err-cases-clause-read : goal.switch_statement-returns-in_err-cases-clause-read
switch_statement-returns-in_err-cases-clause-read t c =
    let p = err_from_is_err_and c.from_residual-in_err-cases.result c.from_residual-in_err-cases.ensures.1 in
    rw (p.1, p.2) (λ w s. switch_is c.args.scope.typedefs.now _ _ (as_item tree_of c.condition.new.reader c.in_ok-value.value) None c.in_ok-place.ensures.word c.in_ok-inner.ensures.inner c.in_ok-value.ensures.read c.in_ok-inner-2.ensures.inner (c.in_err-cases.ensures.read s))

pub switch_statement-returns-in_err-height-clause-read : goal.switch_statement-returns-in_err-height-clause-read
switch_statement-returns-in_err-height-clause-read t c =
    let p = err_from_is_err_and c.from_residual-in_err-height.result c.from_residual-in_err-height.ensures.1 in
    rw (p.1, p.2) (λ w s. switch_is c.args.scope.typedefs.now _ _ (as_item tree_of c.condition.new.reader c.in_ok-value.value) _ c.in_ok-place.ensures.word c.in_ok-inner.ensures.inner c.in_ok-value.ensures.read c.in_ok-inner-2.ensures.inner c.in_ok-cases.ensures.read ∙ raised_none _ _ _ _ (rw c.max-parts.ensures at c.in_err-height.ensures.refused.1))

pub switch_statement-returns-clause-read : goal.switch_statement-returns-clause-read
switch_statement-returns-clause-read t c =
    λ w. switch_is c.args.scope.typedefs.now _ _ (as_item tree_of c.condition.new.reader c.in_ok-value.value) _ c.in_ok-place.ensures.word c.in_ok-inner.ensures.inner c.in_ok-value.ensures.read c.in_ok-inner-2.ensures.inner c.in_ok-cases.ensures.read
    ∙ rw (c.switch-tree.ensures, c.in_ok-place.ensures.place) (raised_is _ _ _ _ _ (rw c.max-parts.ensures at c.in_ok-height.ensures.height.0) c.in_ok-height.ensures.height.1)

pub while_statement-returns-in_err-test-clause-read : goal.while_statement-returns-in_err-test-clause-read
while_statement-returns-in_err-test-clause-read t c =
    let p = err_from_is_err_and c.from_residual-in_err-test.result c.from_residual-in_err-test.ensures.1 in
    rw (p.1, p.2) (λ w s. while_none c.args.scope.typedefs.now _ (statement_inside c.args.scope.typedefs.now c.args.budget) c.in_ok-place.ensures.word c.in_ok-inner.ensures.inner (c.in_err-test.ensures.read s))

pub while_statement-returns-in_err-repeated-clause-read : goal.while_statement-returns-in_err-repeated-clause-read
while_statement-returns-in_err-repeated-clause-read t c =
    let p = err_from_is_err_and c.from_residual-in_err-repeated.result c.from_residual-in_err-repeated.ensures.1 in
    rw (p.1, p.2) (λ w s. while_is c.args.scope.typedefs.now _ _ (as_item tree_of c.condition.new.reader c.in_ok-test.test) None c.in_ok-place.ensures.word c.in_ok-inner.ensures.inner c.in_ok-test.ensures.read c.in_ok-inner-2.ensures.inner (c.in_err-repeated.ensures.read s))

pub while_statement-returns-in_err-height-clause-read : goal.while_statement-returns-in_err-height-clause-read
while_statement-returns-in_err-height-clause-read t c =
    let p = err_from_is_err_and c.from_residual-in_err-height.result c.from_residual-in_err-height.ensures.1 in
    rw (p.1, p.2) (λ w s. while_is c.args.scope.typedefs.now _ _ (as_item tree_of c.condition.new.reader c.in_ok-test.test) _ c.in_ok-place.ensures.word c.in_ok-inner.ensures.inner c.in_ok-test.ensures.read c.in_ok-inner-2.ensures.inner c.in_ok-repeated.ensures.read ∙ raised_none _ _ _ _ (rw c.max-parts.ensures at c.in_err-height.ensures.refused.1))

pub while_statement-returns-clause-read : goal.while_statement-returns-clause-read
while_statement-returns-clause-read t c =
    λ w. while_is c.args.scope.typedefs.now _ _ (as_item tree_of c.condition.new.reader c.in_ok-test.test) _ c.in_ok-place.ensures.word c.in_ok-inner.ensures.inner c.in_ok-test.ensures.read c.in_ok-inner-2.ensures.inner c.in_ok-repeated.ensures.read
    ∙ rw (c.while_loop-tree.ensures, c.in_ok-place.ensures.place) (raised_is _ _ _ _ _ (rw c.max-parts.ensures at c.in_ok-height.ensures.height.0) c.in_ok-height.ensures.height.1)

pub do_statement-returns-in_err-repeated-clause-read : goal.do_statement-returns-in_err-repeated-clause-read
do_statement-returns-in_err-repeated-clause-read t c =
    let p = err_from_is_err_and c.from_residual-in_err-repeated.result c.from_residual-in_err-repeated.ensures.1 in
    rw (p.1, p.2) (λ w s. do_body c.args.scope.typedefs.now (readers_inside c.args.scope.typedefs.now c.args.budget) _ None c.in_ok-place.ensures.word c.in_ok-inner.ensures.inner (c.in_err-repeated.ensures.read s))

pub do_statement-returns-in_err-expect_word-clause-read : goal.do_statement-returns-in_err-expect_word-clause-read
do_statement-returns-in_err-expect_word-clause-read t c =
    let p = err_from_is_err_and c.from_residual-in_err-expect_word.result c.from_residual-in_err-expect_word.ensures.1 in
    rw (p.1, p.2) (λ w s. do_body c.args.scope.typedefs.now (readers_inside c.args.scope.typedefs.now c.args.budget) _ _ c.in_ok-place.ensures.word c.in_ok-inner.ensures.inner c.in_ok-repeated.ensures.read ∙ do_unended c.args.budget (readers_inside c.args.scope.typedefs.now c.args.budget) c.args.reader.now (item_of (statement_tree c.in_ok-repeated.repeated.tree.value) c.in_ok-repeated.repeated.height c.body.new.reader) c.in_err-expect_word.ensures.refused.1)

pub do_statement-returns-in_err-test-clause-read : goal.do_statement-returns-in_err-test-clause-read
do_statement-returns-in_err-test-clause-read t c =
    let p = err_from_is_err_and c.from_residual-in_err-test.result c.from_residual-in_err-test.ensures.1 in
    rw (p.1, p.2) (λ w s. do_body c.args.scope.typedefs.now (readers_inside c.args.scope.typedefs.now c.args.budget) _ _ c.in_ok-place.ensures.word c.in_ok-inner.ensures.inner c.in_ok-repeated.ensures.read ∙ do_test c.args.scope.typedefs.now _ c.args.reader.now (item_of (statement_tree c.in_ok-repeated.repeated.tree.value) c.in_ok-repeated.repeated.height c.body.new.reader) None c.in_ok-expect_word.ensures.word c.in_ok-inner-2.ensures.inner (c.in_err-test.ensures.read s))

pub do_statement-returns-in_err-expect-clause-read : goal.do_statement-returns-in_err-expect-clause-read
do_statement-returns-in_err-expect-clause-read t c =
    let p = err_from_is_err_and c.from_residual-in_err-expect.result c.from_residual-in_err-expect.ensures.1 in
    rw (p.1, p.2) (λ w s. do_body c.args.scope.typedefs.now (readers_inside c.args.scope.typedefs.now c.args.budget) _ _ c.in_ok-place.ensures.word c.in_ok-inner.ensures.inner c.in_ok-repeated.ensures.read ∙ do_test c.args.scope.typedefs.now _ c.args.reader.now (item_of (statement_tree c.in_ok-repeated.repeated.tree.value) c.in_ok-repeated.repeated.height c.body.new.reader) _ c.in_ok-expect_word.ensures.word c.in_ok-inner-2.ensures.inner c.in_ok-test.ensures.read ∙ do_off c.args.budget c.args.reader.now (item_of (statement_tree c.in_ok-repeated.repeated.tree.value) c.in_ok-repeated.repeated.height c.body.new.reader) (as_item tree_of c.condition.new.reader c.in_ok-test.test) (no_semicolon _ c.in_err-expect.ensures.refused.1))

pub do_statement-returns-in_err-height-clause-read : goal.do_statement-returns-in_err-height-clause-read
do_statement-returns-in_err-height-clause-read t c =
    let p = err_from_is_err_and c.from_residual-in_err-height.result c.from_residual-in_err-height.ensures.1 in
    rw (p.1, p.2) (λ w s. do_body c.args.scope.typedefs.now (readers_inside c.args.scope.typedefs.now c.args.budget) _ _ c.in_ok-place.ensures.word c.in_ok-inner.ensures.inner c.in_ok-repeated.ensures.read ∙ do_test c.args.scope.typedefs.now _ c.args.reader.now (item_of (statement_tree c.in_ok-repeated.repeated.tree.value) c.in_ok-repeated.repeated.height c.body.new.reader) _ c.in_ok-expect_word.ensures.word c.in_ok-inner-2.ensures.inner c.in_ok-test.ensures.read ∙ do_is c.args.budget c.args.reader.now (item_of (statement_tree c.in_ok-repeated.repeated.tree.value) c.in_ok-repeated.repeated.height c.body.new.reader) (as_item tree_of c.condition.new.reader c.in_ok-test.test) c.in_ok-expect.ensures.sign ∙ raised_none _ _ _ _ (rw c.max-parts.ensures at c.in_err-height.ensures.refused.1))

pub do_statement-returns-clause-read : goal.do_statement-returns-clause-read
do_statement-returns-clause-read t c =
    λ w. do_body c.args.scope.typedefs.now (readers_inside c.args.scope.typedefs.now c.args.budget) _ _ c.in_ok-place.ensures.word c.in_ok-inner.ensures.inner c.in_ok-repeated.ensures.read ∙ do_test c.args.scope.typedefs.now _ c.args.reader.now (item_of (statement_tree c.in_ok-repeated.repeated.tree.value) c.in_ok-repeated.repeated.height c.body.new.reader) _ c.in_ok-expect_word.ensures.word c.in_ok-inner-2.ensures.inner c.in_ok-test.ensures.read ∙ do_is c.args.budget c.args.reader.now (item_of (statement_tree c.in_ok-repeated.repeated.tree.value) c.in_ok-repeated.repeated.height c.body.new.reader) (as_item tree_of c.condition.new.reader c.in_ok-test.test) c.in_ok-expect.ensures.sign
    ∙ rw (c.do_loop-tree.ensures, c.in_ok-place.ensures.place) (raised_is _ _ _ _ _ (rw c.max-parts.ensures at c.in_ok-height.ensures.height.0) c.in_ok-height.ensures.height.1)

pub for_statement-returns-in_err-expect-clause-read : goal.for_statement-returns-in_err-expect-clause-read
for_statement-returns-in_err-expect-clause-read t c =
    let p = err_from_is_err_and c.from_residual-in_err-expect.result c.from_residual-in_err-expect.ensures.1 in
    rw (p.1, p.2) (λ w s. for_unopened c.args.scope.typedefs.now c.args.budget (readers_inside c.args.scope.typedefs.now c.args.budget) (statement_inside c.args.scope.typedefs.now c.args.budget) c.in_ok-place.ensures.word (no_left_parenthesis _ c.in_err-expect.ensures.refused.1))

pub for_statement-returns-in_err-first-clause-read : goal.for_statement-returns-in_err-first-clause-read
for_statement-returns-in_err-first-clause-read t c =
    let p = err_from_is_err_and c.from_residual-in_err-first.result c.from_residual-in_err-first.ensures.1 in
    rw (p.1, p.2) (λ w s. for_first_at c.args.scope.typedefs.now _ None c.in_ok-place.ensures.word c.in_ok-within.ensures.inner c.in_ok-expect.ensures.sign (c.in_err-first.ensures.read s))

pub for_statement-returns-in_err-test-clause-read : goal.for_statement-returns-in_err-test-clause-read
for_statement-returns-in_err-test-clause-read t c =
    let p = err_from_is_err_and c.from_residual-in_err-test.result c.from_residual-in_err-test.ensures.1 in
    rw (p.1, p.2) (λ w s. for_first_at c.args.scope.typedefs.now _ _ c.in_ok-place.ensures.word c.in_ok-within.ensures.inner c.in_ok-expect.ensures.sign c.in_ok-first.ensures.read ∙ for_test_at c.args.scope.typedefs.now _ (statement_inside c.args.scope.typedefs.now c.args.budget) c.args.reader.now (as_item for_first_view c.for_first.new.reader c.in_ok-first.first) None c.in_ok-within.ensures.inner (c.in_err-test.ensures.read is_semicolon refl no_semicolon s))

pub for_statement-returns-in_err-step-clause-read : goal.for_statement-returns-in_err-step-clause-read
for_statement-returns-in_err-step-clause-read t c =
    let p = err_from_is_err_and c.from_residual-in_err-step.result c.from_residual-in_err-step.ensures.1 in
    rw (p.1, p.2) (λ w s. for_first_at c.args.scope.typedefs.now _ _ c.in_ok-place.ensures.word c.in_ok-within.ensures.inner c.in_ok-expect.ensures.sign c.in_ok-first.ensures.read ∙ for_test_at c.args.scope.typedefs.now _ (statement_inside c.args.scope.typedefs.now c.args.budget) c.args.reader.now (as_item for_first_view c.for_first.new.reader c.in_ok-first.first) _ c.in_ok-within.ensures.inner (c.in_ok-test.ensures.read is_semicolon refl no_semicolon) ∙ for_step_at c.args.scope.typedefs.now _ (statement_inside c.args.scope.typedefs.now c.args.budget) c.args.reader.now (as_item for_first_view c.for_first.new.reader c.in_ok-first.first) (as_item (option_map tree_of) c.optional_expression.new.reader c.in_ok-test.test) None c.in_ok-within.ensures.inner (c.in_err-step.ensures.read is_right_parenthesis refl no_right_parenthesis s))

pub for_statement-returns-in_err-repeated-clause-read : goal.for_statement-returns-in_err-repeated-clause-read
for_statement-returns-in_err-repeated-clause-read t c =
    let p = err_from_is_err_and c.from_residual-in_err-repeated.result c.from_residual-in_err-repeated.ensures.1 in
    rw (p.1, p.2) (λ w s. for_first_at c.args.scope.typedefs.now _ _ c.in_ok-place.ensures.word c.in_ok-within.ensures.inner c.in_ok-expect.ensures.sign c.in_ok-first.ensures.read ∙ for_test_at c.args.scope.typedefs.now _ (statement_inside c.args.scope.typedefs.now c.args.budget) c.args.reader.now (as_item for_first_view c.for_first.new.reader c.in_ok-first.first) _ c.in_ok-within.ensures.inner (c.in_ok-test.ensures.read is_semicolon refl no_semicolon) ∙ for_step_at c.args.scope.typedefs.now _ (statement_inside c.args.scope.typedefs.now c.args.budget) c.args.reader.now (as_item for_first_view c.for_first.new.reader c.in_ok-first.first) (as_item (option_map tree_of) c.optional_expression.new.reader c.in_ok-test.test) _ c.in_ok-within.ensures.inner (c.in_ok-step.ensures.read is_right_parenthesis refl no_right_parenthesis) ∙ for_body_at c.args.scope.typedefs.now _ c.args.reader.now (as_item for_first_view c.for_first.new.reader c.in_ok-first.first) (as_item (option_map tree_of) c.optional_expression.new.reader c.in_ok-test.test) (as_item (option_map tree_of) c.optional_expression-2.new.reader c.in_ok-step.step) None c.in_ok-within.ensures.inner (c.in_err-repeated.ensures.read s))

pub for_statement-returns-in_err-height-clause-read : goal.for_statement-returns-in_err-height-clause-read
for_statement-returns-in_err-height-clause-read t c =
    let p = err_from_is_err_and c.from_residual-in_err-height.result c.from_residual-in_err-height.ensures.1 in
    rw (p.1, p.2) (λ w s. for_first_at c.args.scope.typedefs.now _ _ c.in_ok-place.ensures.word c.in_ok-within.ensures.inner c.in_ok-expect.ensures.sign c.in_ok-first.ensures.read ∙ for_test_at c.args.scope.typedefs.now _ (statement_inside c.args.scope.typedefs.now c.args.budget) c.args.reader.now (as_item for_first_view c.for_first.new.reader c.in_ok-first.first) _ c.in_ok-within.ensures.inner (c.in_ok-test.ensures.read is_semicolon refl no_semicolon) ∙ for_step_at c.args.scope.typedefs.now _ (statement_inside c.args.scope.typedefs.now c.args.budget) c.args.reader.now (as_item for_first_view c.for_first.new.reader c.in_ok-first.first) (as_item (option_map tree_of) c.optional_expression.new.reader c.in_ok-test.test) _ c.in_ok-within.ensures.inner (c.in_ok-step.ensures.read is_right_parenthesis refl no_right_parenthesis) ∙ for_body_at c.args.scope.typedefs.now _ c.args.reader.now (as_item for_first_view c.for_first.new.reader c.in_ok-first.first) (as_item (option_map tree_of) c.optional_expression.new.reader c.in_ok-test.test) (as_item (option_map tree_of) c.optional_expression-2.new.reader c.in_ok-step.step) _ c.in_ok-within.ensures.inner c.in_ok-repeated.ensures.read ∙ raised_none _ _ _ _ (rw (c.max-parts.ensures, c.max-clauses.ensures, c.max-begun.ensures) at c.in_err-height.ensures.refused.1))

pub for_statement-returns-clause-read : goal.for_statement-returns-clause-read
for_statement-returns-clause-read t c =
    λ w. for_first_at c.args.scope.typedefs.now _ _ c.in_ok-place.ensures.word c.in_ok-within.ensures.inner c.in_ok-expect.ensures.sign c.in_ok-first.ensures.read ∙ for_test_at c.args.scope.typedefs.now _ (statement_inside c.args.scope.typedefs.now c.args.budget) c.args.reader.now (as_item for_first_view c.for_first.new.reader c.in_ok-first.first) _ c.in_ok-within.ensures.inner (c.in_ok-test.ensures.read is_semicolon refl no_semicolon) ∙ for_step_at c.args.scope.typedefs.now _ (statement_inside c.args.scope.typedefs.now c.args.budget) c.args.reader.now (as_item for_first_view c.for_first.new.reader c.in_ok-first.first) (as_item (option_map tree_of) c.optional_expression.new.reader c.in_ok-test.test) _ c.in_ok-within.ensures.inner (c.in_ok-step.ensures.read is_right_parenthesis refl no_right_parenthesis) ∙ for_body_at c.args.scope.typedefs.now _ c.args.reader.now (as_item for_first_view c.for_first.new.reader c.in_ok-first.first) (as_item (option_map tree_of) c.optional_expression.new.reader c.in_ok-test.test) (as_item (option_map tree_of) c.optional_expression-2.new.reader c.in_ok-step.step) _ c.in_ok-within.ensures.inner c.in_ok-repeated.ensures.read
    ∙ rw (c.for_loop-tree.ensures, c.in_ok-place.ensures.place) (raised_is _ _ _ _ _ (rw (c.max-parts.ensures, c.max-clauses.ensures, c.max-begun.ensures) at c.in_ok-height.ensures.height.0) c.in_ok-height.ensures.height.1)

pub block-returns-in_err-found-clause-read : goal.block-returns-in_err-found-clause-read
block-returns-in_err-found-clause-read t c =
    let p = err_from_is_err_and c.from_residual-in_err-found.result c.from_residual-in_err-found.ensures.1 in
    rw (p.1, p.2) (λ s. block_is c.args.scope.typedefs.now _ None c.in_ok-expect.ensures.sign c.in_ok-inner.ensures.inner (c.in_err-found.ensures.read s))

pub block-returns-in_err-height-clause-read : goal.block-returns-in_err-height-clause-read
block-returns-in_err-height-clause-read t c =
    let p = err_from_is_err_and c.from_residual-in_err-height.result c.from_residual-in_err-height.ensures.1 in
    rw (p.1, p.2) (λ s. block_is c.args.scope.typedefs.now _ _ c.in_ok-expect.ensures.sign c.in_ok-inner.ensures.inner c.in_ok-found.ensures.read ∙ raised_none _ _ _ _ c.in_err-height.ensures.refused.1)

pub block-returns-clause-read : goal.block-returns-clause-read
block-returns-clause-read t c =
    block_is c.args.scope.typedefs.now _ _ c.in_ok-expect.ensures.sign c.in_ok-inner.ensures.inner c.in_ok-found.ensures.read ∙ raised_is _ _ _ _ _ c.in_ok-height.ensures.height.0 c.in_ok-height.ensures.height.1
