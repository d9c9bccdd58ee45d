use Rattle.std.proofs.Common.{rules, ◌≡◌, ◌&&◌, ◌∙◌, ◌∷◌, [], ◌++◌, ◌≤◌, map, sym, ap, subst}
use Rattle.std.proofs.lemmas.List.{map-append}
use Rattle.c_layout.specs.SyntaxTrees.{tree_of, layer_view}
use Rattle.c_parser_expression_grammar.specs.Findings.{layer_of, layer_height, is_empty, IsSomething}
use Rattle.c_parser_expression_grammar.specs.TypeNames.{is_lone_star}
use Rattle.c_parser_expressions.proofs.Layering.{layered_is, layered_high, empty_by}
use Rattle.c_parser_expressions.proofs.Outcomes.{refuses}
use Rattle.c_parser_expressions.proofs.abstract_layers.layered.Goals as goal

pub returns-in_err-height-clause-read : goal.returns-in_err-height-clause-read
returns-in_err-height-clause-read c =
    let own = layer_of c.args.stars.items c.args.arrays.tree.arrays.items in
    let same = empty_by c.args.nested.tree.layers.items _ c.is_empty-is_innermost.result c.args.nested.tree.layers.ok.0 c.is_empty-is_innermost.ensures in
    λ inside rest. refuses _ c.from_residual.result _ c.from_residual.ensures.1
    (λ s. layered_high c.args.budget c.args.stars.items c.args.arrays.tree.arrays.items (map layer_view c.args.nested.tree.layers.items) (map tree_of c.args.nested.tree.lengths.items) (map tree_of c.args.arrays.tree.lengths.items)
    c.args.nested.height c.args.arrays.height inside rest (ap (λ x. x && is_lone_star own) same ∙ c.in_err-height.ensures.refused.0) (subst (λ n. c.args.budget ≤ n) c.max.ensures c.in_err-height.ensures.refused.1))

pub returns-clause-read : goal.returns-clause-read
returns-clause-read c =
    let own = layer_of c.args.stars.items c.args.arrays.tree.arrays.items in
    let inside_out = map layer_view c.args.nested.tree.layers.items in
    let same = empty_by c.args.nested.tree.layers.items _ c.is_empty-is_innermost.result c.args.nested.tree.layers.ok.0 c.is_empty-is_innermost.ensures in
    let something : IsSomething inside_out own = search rules in
    let layers : map layer_view c.push.new.self.items ≡ inside_out ++ (own ∷ []) = ap (map layer_view) c.in_ok-push.ensures.items ∙ map-append layer_view c.args.nested.tree.layers.items _ in
    λ inside rest. layered_is c.args.budget c.args.stars.items c.args.arrays.tree.arrays.items inside_out (map layer_view c.push.new.self.items) (map tree_of c.args.nested.tree.lengths.items) (map tree_of c.args.arrays.tree.lengths.items) (map tree_of c.add_lengths.new.lengths.items)
    c.args.nested.height c.args.arrays.height c.in_ok-height.height inside rest something layers c.in_ok-add_lengths.ensures
    (c.in_ok-height.ensures.height ∙ ap (λ x. layer_height x own c.max.result) (sym same) ∙ ap (layer_height (is_empty inside_out) own) c.max.ensures) c.in_ok-height.ensures.within
