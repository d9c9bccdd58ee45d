use Rattle.std.proofs.lemmas.Result.{err_from_is_err_and}
use Rattle.std.proofs.Common.{None, sym, ◌∙◌}
use Rattle.c_parser_declarations.proofs.grammar.Reading.{parameter_alone, parameter_with, raised_is, raised_none}
use Rattle.c_parser_declarations.proofs.readers.parameters.parameter.Goals as goal

pub returns-then-not-begins_declarator-clause-read : goal.returns-then-not-begins_declarator-clause-read
returns-then-not-begins_declarator-clause-read c = rw c.place-place.ensures (parameter_alone c.args.scope.typedefs.now c.args.budget c.args.reader.now _ _ _ c.in_ok-words.ensures.read (sym c.if-not-begins_declarator.ensures))

pub returns-in_err-found-clause-read : goal.returns-in_err-found-clause-read
returns-in_err-found-clause-read c =
    let p = err_from_is_err_and c.from_residual-in_err-found.result c.from_residual-in_err-found.ensures.1 in
    rw (p.1, p.2) (λ s. parameter_with c.args.scope.typedefs.now _ c.args.reader.now _ _ _ None c.in_ok-words.ensures.read (sym c.if-not-begins_declarator.ensures) c.in_ok-inner.ensures.inner (c.in_err-found.ensures.read s))

pub returns-in_err-height-clause-read : goal.returns-in_err-height-clause-read
returns-in_err-height-clause-read c =
    let p = err_from_is_err_and c.from_residual-in_err-height.result c.from_residual-in_err-height.ensures.1 in
    rw (p.1, p.2) (λ s. parameter_with c.args.scope.typedefs.now _ c.args.reader.now _ _ _ _ c.in_ok-words.ensures.read (sym c.if-not-begins_declarator.ensures) c.in_ok-inner.ensures.inner c.in_ok-found.ensures.read
    ∙ raised_none _ _ _ _ (rw c.max.ensures at c.in_err-height.ensures.refused.1))

pub returns-clause-read : goal.returns-clause-read
returns-clause-read c =
    rw c.place-place.ensures (parameter_with c.args.scope.typedefs.now _ c.args.reader.now _ _ _ _ c.in_ok-words.ensures.read (sym c.if-not-begins_declarator.ensures) c.in_ok-inner.ensures.inner c.in_ok-found.ensures.read
    ∙ raised_is _ _ _ _ _ (rw c.max.ensures at c.in_ok-height.ensures.height.0) c.in_ok-height.ensures.height.1)
