use Rattle.c_layout.specs.SyntaxTrees.{tree_of}
use Rattle.c_parser.proofs.Parts.{no_clause, clause}
use Rattle.std.proofs.lemmas.Result.{err_from_is_err_and}
use Rattle.c_parser_declarations.proofs.readers.Signs.{no_semicolon}
use Rattle.c_parser.proofs.Stepping.{first_unended}
use Rattle.c_parser_expression_grammar.specs.TypeNameReaders.{all_readers}
use Rattle.c_parser.proofs.statement_parts.first_value.Goals as goal

pub returns-then-accept-clause-found : goal.returns-then-accept-clause-found
returns-then-accept-clause-found c = no_clause c.args.scope.typedefs.now c.args.budget c.if-accept.ensures.yes

pub returns-clause-found : goal.returns-clause-found
returns-clause-found c = clause (tree_of c.unboxed-value.result) c.if-accept.ensures.no c.in_ok-found.ensures.found c.in_ok-expect.ensures.sign c.unboxed-value.ensures

pub returns-in_err-expect-clause-read : goal.returns-in_err-expect-clause-read
returns-in_err-expect-clause-read c =
    let p = err_from_is_err_and c.from_residual-in_err-expect.result c.from_residual-in_err-expect.ensures.1 in
    rw (p.1, p.2) (λ s. first_unended (all_readers c.args.scope.typedefs.now c.args.budget) c.args.reader.now _ _ _ (no_semicolon _ c.if-accept.ensures.other) (rw c.if-accept.ensures.no at c.in_ok-found.ensures.read) (no_semicolon _ c.in_err-expect.ensures.refused.1))
