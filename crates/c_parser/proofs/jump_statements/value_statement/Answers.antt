use Rattle.c_parser.proofs.Jumps.{null_found, value_found}
use Rattle.std.proofs.lemmas.Result.{err_from_is_err_and}
use Rattle.c_parser_declarations.proofs.readers.Signs.{no_semicolon}
use Rattle.c_parser.proofs.Stepping.{in_readers, value_none, value_unended, value_is}
use Rattle.c_parser_expression_grammar.specs.TypeNameReaders.{readers_inside}
use Rattle.c_parser.proofs.jump_statements.value_statement.Goals as goal

pub returns-then-accept-clause-found : goal.returns-then-accept-clause-found
returns-then-accept-clause-found c = null_found c.args.scope.typedefs.now c.args.budget c.place-place.ensures c.if-accept.ensures.yes c.null_statement-tree.ensures

pub returns-clause-found : goal.returns-clause-found
returns-clause-found c =
    value_found c.place-place.ensures c.if-accept.ensures.no c.in_ok-value.ensures.found c.in_ok-expect.ensures.sign c.expression_statement-tree.ensures c.in_ok-height.ensures.height.0 c.in_ok-height.ensures.height.1

pub returns-in_err-value-clause-read : goal.returns-in_err-value-clause-read
returns-in_err-value-clause-read c =
    let p = err_from_is_err_and c.from_residual-in_err-value.result c.from_residual-in_err-value.ensures.1 in
    rw (p.1, p.2) (λ s. value_none c.args.budget (readers_inside c.args.scope.typedefs.now c.args.budget) c.args.reader.now (no_semicolon _ c.if-accept.ensures.other) (in_readers (λ i. i.expression c.args.reader.now) c.args.scope.typedefs.now _ c.in_ok-inner.ensures.inner (rw c.if-accept.ensures.no at (c.in_err-value.ensures.read s))))

pub returns-in_err-expect-clause-read : goal.returns-in_err-expect-clause-read
returns-in_err-expect-clause-read c =
    let p = err_from_is_err_and c.from_residual-in_err-expect.result c.from_residual-in_err-expect.ensures.1 in
    rw (p.1, p.2) (λ s. value_unended c.args.budget (readers_inside c.args.scope.typedefs.now c.args.budget) c.args.reader.now _ _ _ (no_semicolon _ c.if-accept.ensures.other) (in_readers (λ i. i.expression c.args.reader.now) c.args.scope.typedefs.now _ c.in_ok-inner.ensures.inner (rw c.if-accept.ensures.no at c.in_ok-value.ensures.read)) (no_semicolon _ c.in_err-expect.ensures.refused.1))

pub returns-clause-read : goal.returns-clause-read
returns-clause-read c =
    rw (c.expression_statement-tree.ensures, c.place-place.ensures)
    (value_is c.args.budget (readers_inside c.args.scope.typedefs.now c.args.budget) c.args.reader.now _ _ _ _ _ (no_semicolon _ c.if-accept.ensures.other) (in_readers (λ i. i.expression c.args.reader.now) c.args.scope.typedefs.now _ c.in_ok-inner.ensures.inner (rw c.if-accept.ensures.no at c.in_ok-value.ensures.read)) c.in_ok-expect.ensures.sign c.in_ok-height.ensures.height.0 c.in_ok-height.ensures.height.1)
