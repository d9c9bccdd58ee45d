use Rattle.std.proofs.Common.{ap, ◌∙◌}
use Rattle.c_layout.specs.DeclarationTrees.{SuffixView, suffix_view}
use Rattle.c_layout.specs.SyntaxTrees.{tree_of}
use Rattle.c_parser_declarations.proofs.grammar.Layers.{one_suffix}
use Rattle.std.proofs.lemmas.Result.{err_from_is_err_and}
use Rattle.c_parser_declarations.proofs.grammar.Reading.{suffix_none, suffix_unclosed, suffix_is}
use Rattle.c_parser_expressions.proofs.Signs.{no_right_bracket}
use Rattle.c_parser_declarations.proofs.grammar.declarators.suffix.Goals as goal

pub returns-clause-found : goal.returns-clause-found
returns-clause-found c =
    one_suffix (suffix_view c.with_length-tree.result) (tree_of c.in_ok-found.found.tree.value) (ap (λ (v : SuffixView). v.length) c.with_length-tree.ensures)
    (ap (λ (v : SuffixView). v.at) c.with_length-tree.ensures ∙ c.in_ok-place.ensures.place) c.in_ok-place.ensures.sign c.if-accept.ensures.no c.in_ok-found.ensures.found c.in_ok-expect.ensures.sign

pub returns-in_err-place-clause-read : goal.returns-in_err-place-clause-read
returns-in_err-place-clause-read c = λ bracket. absurd (c.in_err-place.ensures.refused.1 bracket)

pub returns-in_err-found-clause-read : goal.returns-in_err-found-clause-read
returns-in_err-found-clause-read c =
    let p = err_from_is_err_and c.from_residual-in_err-found.result c.from_residual-in_err-found.ensures.1 in
    rw (p.1, p.2) (λ bracket s. suffix_none _ _ c.in_ok-place.ensures.sign (no_right_bracket _ c.if-accept.ensures.other) c.in_ok-inner.ensures.inner (rw c.if-accept.ensures.no at (c.in_err-found.ensures.read s)))

pub returns-in_err-expect-clause-read : goal.returns-in_err-expect-clause-read
returns-in_err-expect-clause-read c =
    let p = err_from_is_err_and c.from_residual-in_err-expect.result c.from_residual-in_err-expect.ensures.1 in
    rw (p.1, p.2) (λ bracket s. suffix_unclosed _ _ (tree_of c.in_ok-found.found.tree.value) c.in_ok-found.found.height c.conditional.new.reader c.in_ok-place.ensures.sign (no_right_bracket _ c.if-accept.ensures.other) c.in_ok-inner.ensures.inner (rw c.if-accept.ensures.no at c.in_ok-found.ensures.read) (no_right_bracket _ c.in_err-expect.ensures.refused.1))

pub returns-clause-read : goal.returns-clause-read
returns-clause-read c =
    λ bracket. suffix_is _ _ (tree_of c.in_ok-found.found.tree.value) c.in_ok-found.found.height c.conditional.new.reader c.in_ok-place.place _ c.in_ok-place.ensures.place c.in_ok-place.ensures.sign (no_right_bracket _ c.if-accept.ensures.other) c.in_ok-inner.ensures.inner (rw c.if-accept.ensures.no at c.in_ok-found.ensures.read) c.in_ok-expect.ensures.sign c.with_length-tree.ensures
