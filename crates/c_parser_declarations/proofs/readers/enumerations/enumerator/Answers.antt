use Rattle.c_layout.specs.DeclarationTrees.{name_view}
use Rattle.c_parser_declarations.proofs.readers.Words.{name_only, with_value}
use Rattle.std.proofs.Common.{None, Some, ◌∙◌}
use Rattle.std.proofs.lemmas.Result.{err_from_is_err_and}
use Rattle.c_layout.specs.SyntaxTrees.{tree_of}
use Rattle.c_parser_expression_grammar.specs.Readings.{got}
use Rattle.c_parser_declarations.proofs.grammar.Reading.{enumerator_is, raised_is}
use Rattle.c_parser_declarations.proofs.readers.enumerations.enumerator.Goals as goal

pub returns-then-not-accept-clause-found : goal.returns-then-not-accept-clause-found
returns-then-not-accept-clause-found c = name_only c.args.budget (name_view c.in_ok-name.name) c.in_ok-name.ensures.found c.if-not-accept.ensures.no

pub returns-clause-found : goal.returns-clause-found
returns-clause-found c = with_value (name_view c.in_ok-name.name) c.in_ok-name.ensures.found c.if-not-accept.ensures.yes c.in_ok-value.ensures.found c.valued-tree.ensures c.in_ok-height.ensures.height.0 c.in_ok-height.ensures.height.1

pub returns-in_err-value-clause-read : goal.returns-in_err-value-clause-read
returns-in_err-value-clause-read c =
    let p = err_from_is_err_and c.from_residual-in_err-value.result c.from_residual-in_err-value.ensures.1 in
    rw (p.1, p.2) (λ s. enumerator_is _ (name_view c.in_ok-name.name) None c.in_ok-name.ensures.found c.if-not-accept.ensures.yes c.in_ok-inner.ensures.inner (c.in_err-value.ensures.read s))

pub returns-clause-read : goal.returns-clause-read
returns-clause-read c =
    enumerator_is _ (name_view c.in_ok-name.name) (Some (got (tree_of c.in_ok-value.value.tree.value) c.in_ok-value.value.height c.conditional.new.reader)) c.in_ok-name.ensures.found c.if-not-accept.ensures.yes c.in_ok-inner.ensures.inner c.in_ok-value.ensures.read
    ∙ rw c.valued-tree.ensures (raised_is c.args.budget _ _ _ _ c.in_ok-height.ensures.height.0 c.in_ok-height.ensures.height.1)
