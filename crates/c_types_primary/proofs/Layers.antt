-- The layers of an abstract declarator, from the last one on.
use Rattle.std.proofs.Common.{◌≡◌, ◌<◌, ◌≤◌, ◌+◌, ◌-◌, ℕ, suc, List, [], ◌∷◌, ◌++◌, length, map, drop, get_or, slice_index_or, sym, ◌∙◌, ap, arith, drop-cons, add-one}
use Rattle.std.proofs.lemmas.List.{drop_all, drop-map}
use Rattle.c_layout.specs.SyntaxTrees.{LayerView, layer_view}
use Rattle.c_layout.specs.declared.syntax_tree.expressions.AbstractLayer.{AbstractLayer}
use Rattle.c_types_scopes.specs.declared.type_steps.TypeStep.{TypeStep}
use Rattle.c_types_scopes.specs.declared.type_steps.TypeStep.TheVariants as step
use Rattle.c_types_primary.specs.TypeNames.{StepsView, with_layer, with_layers, with_stars}

-- with the next star
pub star_more : (steps next whole : List TypeStep) (stars : List ℕ) (i : ℕ) → i < length stars
    → next ≡ steps ++ step.Pointer ∷ []
    → with_stars steps (drop i stars) ≡ whole
    → with_stars next (drop (i + 1) stars) ≡ whole
unfolding with_stars
star_more steps next whole stars i some is before =
    let cut : drop i stars ≡ get_or stars i 0 ∷ drop (suc i) stars = drop-cons stars i 0 some in
    rw (add-one, is) (sym (ap (with_stars steps) cut) ∙ before)

pub none_yet : (r : StepsView) (layers : List LayerView) (n : ℕ) → length layers ≤ n → with_layers r (drop n layers) ≡ r
unfolding with_layers
none_yet r layers n all = ap (with_layers r) (drop_all n layers all)

-- with the layer before
pub one_more : (r made next : StepsView) (layers : List AbstractLayer) (turn : ℕ) (here : AbstractLayer) → turn < length layers
    → with_layers r (drop (length layers - turn) (map layer_view layers)) ≡ made
    → here ≡ slice_index_or layers (length layers - 1 - turn) here
    → next ≡ with_layer made (layer_view here)
    → with_layers r (drop (length layers - (turn + 1)) (map layer_view layers)) ≡ next
unfolding with_layers
one_more r made next layers turn here some before found is =
    let at : length layers - 1 - turn < length layers = omega (arith, some) in
    let which : length layers - (turn + 1) ≡ length layers - 1 - turn = omega (arith, some) in
    let behind : suc (length layers - 1 - turn) ≡ length layers - turn = omega (arith, some) in
    let cut : drop (length layers - 1 - turn) layers ≡ slice_index_or layers (length layers - 1 - turn) here ∷ drop (suc (length layers - 1 - turn)) layers = drop-cons layers (length layers - 1 - turn) here at in
    let viewed : drop (length layers - (turn + 1)) (map layer_view layers) ≡ layer_view here ∷ drop (length layers - turn) (map layer_view layers) =
    ap (λ m. drop m (map layer_view layers)) which
    ∙ (drop-map layer_view (length layers - 1 - turn) layers
    ∙ (ap (map layer_view) cut
    ∙ (ap (λ l. layer_view l ∷ map layer_view (drop (suc (length layers - 1 - turn)) layers)) (sym found)
    ∙ (ap (λ ls. layer_view here ∷ ls) (sym (drop-map layer_view (suc (length layers - 1 - turn)) layers))
    ∙ ap (λ m. layer_view here ∷ drop m (map layer_view layers)) behind)))) in
    ap (with_layers r) viewed
    ∙ (ap (λ x. with_layer x (layer_view here)) before
    ∙ sym is)
