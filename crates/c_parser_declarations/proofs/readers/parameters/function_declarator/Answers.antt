use Rattle.std.proofs.lemmas.Result.{err_from_is_err_and}
use Rattle.std.proofs.Common.{None, ◌∙◌}
use Rattle.c_layout.specs.DeclarationTrees.{name_view}
use Rattle.c_parser_declarations.proofs.grammar.Reading.{function_is, raised_is}
use Rattle.c_parser_declarations.proofs.readers.parameters.function_declarator.Goals as goal

pub returns-in_err-found-clause-read : goal.returns-in_err-found-clause-read
returns-in_err-found-clause-read c =
    let p = err_from_is_err_and c.from_residual-in_err-found.result c.from_residual-in_err-found.ensures.1 in
    rw (p.1, p.2) (λ s. function_is _ _ (name_view c.in_ok-name.name) None c.in_ok-name.ensures.found c.in_ok-expect.ensures.sign c.in_ok-inner.ensures.inner (c.in_err-found.ensures.read s))

pub returns-clause-read : goal.returns-clause-read
returns-clause-read c =
    function_is _ _ (name_view c.in_ok-name.name) _ c.in_ok-name.ensures.found c.in_ok-expect.ensures.sign c.in_ok-inner.ensures.inner c.in_ok-found.ensures.read
    ∙ raised_is _ _ _ _ _ c.in_ok-height.ensures.height.0 c.in_ok-height.ensures.height.1
