use Rattle.std.proofs.lemmas.Result.{err_from_is_err_and}
use Rattle.c_parser.proofs.Joining.{external_nameless, external_with}
use Rattle.std.proofs.Common.{None, map, ◌∙◌}
use Rattle.c_layout.specs.DeclarationTrees.{spec_tree}
use Rattle.c_parser_declarations.proofs.readers.Signs.{no_semicolon}
use Rattle.c_parser.proofs.external_declarations.external.Goals as goal

pub returns-in_err-found-clause-read : goal.returns-in_err-found-clause-read
returns-in_err-found-clause-read c =
    let p = err_from_is_err_and c.from_residual-in_err-found.result c.from_residual-in_err-found.ensures.1 in
    rw (p.1, p.2) (λ s. external_nameless c.args.typedefs.now _ c.args.reader.now c.in_ok-head.head.place (map spec_tree c.in_ok-head.head.words.items) _ c.in_ok-inner.ensures.inner c.in_ok-head.ensures.place c.in_ok-head.ensures.read c.if-accept.ensures.yes ∙ c.in_err-found.ensures.read _ s)

pub returns-then-accept-clause-read : goal.returns-then-accept-clause-read
returns-then-accept-clause-read c =
    external_nameless c.args.typedefs.now _ c.args.reader.now c.in_ok-head.head.place (map spec_tree c.in_ok-head.head.words.items) _ c.in_ok-inner.ensures.inner c.in_ok-head.ensures.place c.in_ok-head.ensures.read c.if-accept.ensures.yes ∙ c.in_ok-found.ensures.read _

pub returns-in_err-found-2-clause-read : goal.returns-in_err-found-2-clause-read
returns-in_err-found-2-clause-read c =
    let p = err_from_is_err_and c.from_residual-in_err-found-2.result c.from_residual-in_err-found-2.ensures.1 in
    rw (p.1, p.2) (λ s. external_with c.args.typedefs.now _ c.args.reader.now (map spec_tree c.in_ok-head.head.words.items) _ _ None c.in_ok-inner.ensures.inner c.in_ok-head.ensures.read (no_semicolon _ c.if-accept.ensures.other) (rw (c.in_ok-head.ensures.place, c.if-accept.ensures.no) at (c.in_err-found-2.ensures.read s)))

pub returns-clause-read : goal.returns-clause-read
returns-clause-read c =
    external_with c.args.typedefs.now _ c.args.reader.now (map spec_tree c.in_ok-head.head.words.items) _ _ _ c.in_ok-inner.ensures.inner c.in_ok-head.ensures.read (no_semicolon _ c.if-accept.ensures.other) (rw (c.in_ok-head.ensures.place, c.if-accept.ensures.no) at c.in_ok-found-2.ensures.read)
