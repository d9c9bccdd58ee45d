use Rattle.std.proofs.Common.{map, ◌∙◌, None, Some}
use Rattle.c_layout.specs.DeclarationTrees.{name_view, suffix_view}
use Rattle.c_parser_declarations.proofs.grammar.Layers.{behind, whole, nested, mapped_is_some, mapped_length}
use Rattle.std.proofs.lemmas.Result.{err_from_is_err_and}
use Rattle.c_parser_declarations.proofs.grammar.Reading.{enclosed_at, unclosed, closed_is}
use Rattle.c_parser_expressions.proofs.Signs.{no_right_parenthesis}
use Rattle.c_parser_declarations.specs.Grammar.Answers.{as_parts}
use Rattle.c_parser_declarations.proofs.grammar.declarators.+declarators.Goals as goal

pub enclosed-returns-clause-found : goal.enclosed-returns-clause-found
enclosed-returns-clause-found t c =
    nested c.in_ok-expect.ensures.sign c.in_ok-inside.ensures.found c.in_ok-expect-2.ensures.sign (c.is_some.ensures ∙ mapped_is_some name_view c.in_ok-inside.inside.tree.name) c.in_ok-height.ensures.ok

pub behind_stars-returns-clause-found : goal.behind_stars-returns-clause-found
behind_stars-returns-clause-found t c =
    rw c.in_ok-whole.ensures.name
    (behind c.args.stars.items (map suffix_view c.in_ok-suffixes.suffixes.arrays.items) c.in_ok-inside.ensures.found c.in_ok-suffixes.ensures.found
    (mapped_is_some name_view c.in_ok-inside.inside.tree.name) (mapped_length suffix_view c.in_ok-suffixes.suffixes.arrays.items)
    c.in_ok-whole.ensures.something c.in_ok-whole.ensures.layers c.in_ok-whole.ensures.height c.in_ok-whole.ensures.within)

pub any_declarator-returns-clause-found : goal.any_declarator-returns-clause-found
any_declarator-returns-clause-found t c = whole c.in_ok-stars.ensures.found c.in_ok-found.ensures.found

pub enclosed-returns-in_err-inside-clause-read : goal.enclosed-returns-in_err-inside-clause-read
enclosed-returns-in_err-inside-clause-read t c =
    let p = err_from_is_err_and c.from_residual-in_err-inside.result c.from_residual-in_err-inside.ensures.1 in
    rw (p.1, p.2) (λ s. enclosed_at _ _ None c.in_ok-expect.ensures.sign c.in_ok-inner.ensures.inner (c.in_err-inside.ensures.read s))

pub enclosed-returns-in_err-expect-2-clause-read : goal.enclosed-returns-in_err-expect-2-clause-read
enclosed-returns-in_err-expect-2-clause-read t c =
    let p = err_from_is_err_and c.from_residual-in_err-expect-2.result c.from_residual-in_err-expect-2.ensures.1 in
    rw (p.1, p.2) (λ s. enclosed_at _ _ _ c.in_ok-expect.ensures.sign c.in_ok-inner.ensures.inner c.in_ok-inside.ensures.read ∙ unclosed c.args.budget (as_parts c.any_declarator.new.reader c.in_ok-inside.inside) (no_right_parenthesis _ c.in_err-expect-2.ensures.refused.1))

pub enclosed-returns-clause-read : goal.enclosed-returns-clause-read
enclosed-returns-clause-read t c =
    enclosed_at _ _ _ c.in_ok-expect.ensures.sign c.in_ok-inner.ensures.inner c.in_ok-inside.ensures.read
    ∙ closed_is _ _ _ _ _ c.in_ok-expect-2.ensures.sign (c.is_some.ensures ∙ mapped_is_some name_view c.in_ok-inside.inside.tree.name) c.in_ok-height.ensures.read
