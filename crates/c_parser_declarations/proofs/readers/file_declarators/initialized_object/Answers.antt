use Rattle.std.proofs.lemmas.Result.{err_from_is_err_and}
use Rattle.c_parser_declarations.proofs.grammar.Reading.{initialized_at, raised_is, raised_none}
use Rattle.std.proofs.Common.{None, ◌∙◌}
use Rattle.c_parser_declarations.proofs.readers.file_declarators.initialized_object.Goals as goal

pub returns-in_err-found-clause-read : goal.returns-in_err-found-clause-read
returns-in_err-found-clause-read c =
    let p = err_from_is_err_and c.from_residual-in_err-found.result c.from_residual-in_err-found.ensures.1 in
    rw (p.1, p.2) (λ s. initialized_at _ _ _ _ _ None c.in_ok-inner.ensures.inner (c.in_err-found.ensures.read s))

pub returns-in_err-height-clause-read : goal.returns-in_err-height-clause-read
returns-in_err-height-clause-read c =
    let p = err_from_is_err_and c.from_residual-in_err-height.result c.from_residual-in_err-height.ensures.1 in
    rw (p.1, p.2) (λ s. initialized_at _ _ _ _ _ _ c.in_ok-inner.ensures.inner c.in_ok-found.ensures.read ∙ raised_none _ _ _ _ c.in_err-height.ensures.refused.1)

pub returns-clause-read : goal.returns-clause-read
returns-clause-read c = initialized_at _ _ _ _ _ _ c.in_ok-inner.ensures.inner c.in_ok-found.ensures.read ∙ raised_is _ _ _ _ _ c.in_ok-height.ensures.height.0 c.in_ok-height.ensures.height.1
