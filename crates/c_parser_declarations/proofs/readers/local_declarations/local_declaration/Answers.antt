use Rattle.std.proofs.lemmas.Result.{err_from_is_err_and}
use Rattle.std.proofs.Common.{None, ◌∙◌}
use Rattle.c_parser_declarations.proofs.grammar.Reading.{local_at, raised_is}
use Rattle.c_parser_declarations.proofs.readers.local_declarations.local_declaration.Goals as goal

pub returns-in_err-declared-clause-read : goal.returns-in_err-declared-clause-read
returns-in_err-declared-clause-read c =
    let p = err_from_is_err_and c.from_residual-in_err-declared.result c.from_residual-in_err-declared.ensures.1 in
    rw (p.1, p.2) (λ s. local_at c.args.scope.typedefs.now _ _ c.args.reader.now _ _ _ None c.in_ok-inner.ensures.inner c.in_ok-words.ensures.read c.in_ok-inner-2.ensures.inner (c.in_err-declared.ensures.read s))

pub returns-clause-read : goal.returns-clause-read
returns-clause-read c =
    rw c.place-place.ensures (local_at c.args.scope.typedefs.now _ _ c.args.reader.now _ _ _ _ c.in_ok-inner.ensures.inner c.in_ok-words.ensures.read c.in_ok-inner-2.ensures.inner c.in_ok-declared.ensures.read
    ∙ raised_is _ _ _ _ _ (rw c.max.ensures at c.in_ok-height.ensures.height.0) c.in_ok-height.ensures.height.1)
