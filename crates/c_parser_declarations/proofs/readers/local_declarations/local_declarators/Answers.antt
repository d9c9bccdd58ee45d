use Rattle.std.proofs.lemmas.Result.{err_from_is_err_and}
use Rattle.c_parser_declarations.proofs.grammar.Reading.{unended}
use Rattle.c_parser_declarations.proofs.readers.Signs.{no_semicolon}
use Rattle.c_parser_declarations.proofs.readers.local_declarations.local_declarators.Goals as goal

pub returns-in_err-expect-clause-read : goal.returns-in_err-expect-clause-read
returns-in_err-expect-clause-read c =
    let p = err_from_is_err_and c.from_residual-in_err-expect.result c.from_residual-in_err-expect.ensures.1 in
    rw (p.1, p.2) (λ s. unended c.args.scope.typedefs.now c.args.budget c.args.reader.now _ (no_semicolon _ c.if-accept.ensures.other) (rw c.if-accept.ensures.no at c.in_ok-found.ensures.read) (no_semicolon _ c.in_err-expect.ensures.refused.1))
