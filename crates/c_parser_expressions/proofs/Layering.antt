-- Layers of abstract declarators and type names, as the readers as definitions build them.
use Rattle.std.proofs.Common.{◌≡◌, ℕ, ◌+◌, ◌<◌, ◌≤◌, Bool, true, false, ◌&&◌, ◌==◌, List, [], ◌∷◌, ◌++◌, length, map, reverse, cond, nat_lt, max, Option, Some, None, refl, sym, ap, ◌∙◌, arith}
use Rattle.std.proofs.lemmas.List.{reverse-append}
use Rattle.c_layout.specs.SyntaxTrees.{Tree, Trees, trees, LayerView, layer_view, TypeNameView, End, More}
use Rattle.c_layout.specs.declared.syntax_tree.expressions.AbstractLayer.{AbstractLayer}
use Rattle.c_layout.specs.declared.syntax_tree.expressions.Brackets.{Brackets}
use Rattle.c_layout.specs.declared.syntax_tree.expressions.TypeNameWord.{TypeNameWord}
use Rattle.c_parser_tokens.specs.declared.terminals.Terminal.{Terminal}
use Rattle.c_parser_expression_grammar.specs.Findings.{layer_of, is_empty, IsSomething}
use Rattle.c_parser_expression_grammar.specs.Findings as found
use Rattle.c_parser_expression_grammar.specs.Readings.{GotLayers, got, made}
use Rattle.c_parser_expression_grammar.specs.TypeNames.{is_something, is_lone_star, words_height}
use Rattle.c_parser_expression_grammar.specs.TypeNameReaders.{GotArrays, both, is_layer, layer_height, layered_at, layered, plain}

pub below : (a b : ℕ) → a < b → nat_lt a b ≡ true
below a b h = grind arith

pub not_below : (a b : ℕ) → b ≤ a → nat_lt a b ≡ false
not_below a b h = grind arith

pub made_is : (b h parts : ℕ) (e n : Tree) (rest : List Terminal) → n ≡ e → h ≡ parts + 1 → h ≤ b → made b e parts rest ≡ Some (got n h rest)
made_is b h parts e n rest n-is h-is low =
    ap (λ x. cond x (Some (got e (parts + 1) rest)) None) (below parts b (omega (arith, h-is, low)))
    ∙ ap (λ (k : ℕ). Some (got e k rest)) (sym h-is)
    ∙ ap (λ (x : Tree). Some (got x h rest)) (sym n-is)

pub made_none : (b parts : ℕ) (e : Tree) (rest : List Terminal) → b ≤ parts → made b e parts rest ≡ None
made_none b parts e rest high = ap (λ x. cond x (Some (got e (parts + 1) rest)) None) (not_below parts b high)

-- ---- layers

joined_trees : (es fs : List Tree) → both (trees es) (trees fs) ≡ trees (es ++ fs)
joined_trees [] fs = refl
joined_trees (e ∷ es) fs = ap (More e) (joined_trees es fs)

ends_full : (vs : List LayerView) (v : LayerView) → is_empty (vs ++ (v ∷ [])) ≡ false
ends_full [] v = refl
ends_full (w ∷ vs) v = refl

reversed_empty : (vs : List LayerView) → is_empty (reverse vs) ≡ is_empty vs
reversed_empty [] = refl
reversed_empty (v ∷ vs) = ap is_empty (reverse-append (v ∷ []) vs) ∙ ends_full (reverse vs) v

is_one_layer : (ls vs : List LayerView) (layer : LayerView) → is_empty ls ≡ is_empty vs → IsSomething vs layer → is_layer ls layer ≡ true
is_one_layer [] [] layer same something = something
is_one_layer (l ∷ ls) vs layer same something = refl
is_one_layer [] (v ∷ vs) layer same something = absurd (cc same)

fits : (lone : Bool) (b parts h : ℕ) → h ≡ cond lone 0 (parts + 1) → h ≤ b → cond lone (Some 0) (cond (nat_lt parts b) (Some (parts + 1)) None) ≡ Some h
fits true b parts h h-is low = ap Some (sym h-is)
fits false b parts h h-is low = ap (λ x. cond x (Some (parts + 1)) None) (below parts b (omega (arith, h-is, low))) ∙ ap Some (sym h-is)

height_fits : (b : ℕ) (ls vs : List LayerView) (layer : LayerView) (parts h : ℕ) → is_empty ls ≡ is_empty vs → h ≡ found.layer_height (is_empty vs) layer parts → h ≤ b → layer_height b ls layer parts ≡ Some h
height_fits b [] [] layer parts h same h-is low = fits (is_lone_star layer) b parts h h-is low
height_fits b (l ∷ ls) (v ∷ vs) layer parts h same h-is low = fits false b parts h h-is low
height_fits b [] (v ∷ vs) layer parts h same h-is low = absurd (cc same)
height_fits b (l ∷ ls) [] layer parts h same h-is low = absurd (cc same)

height_unfit : (b : ℕ) (ls vs : List LayerView) (layer : LayerView) (parts : ℕ) → is_empty ls ≡ is_empty vs → is_empty vs && is_lone_star layer ≡ false → b ≤ parts → layer_height b ls layer parts ≡ None
height_unfit b [] [] layer parts same lone high =
    ap (λ x. cond x (Some 0) (cond (nat_lt parts b) (Some (parts + 1)) None)) lone ∙ ap (λ x. cond x (Some (parts + 1)) None) (not_below parts b high)
height_unfit b (l ∷ ls) vs layer parts same lone high = ap (λ x. cond x (Some (parts + 1)) None) (not_below parts b high)
height_unfit b [] (v ∷ vs) layer parts same lone high = absurd (cc same)

pub layered_is : (b : ℕ) (stars : List ℕ) (arrays : List Brackets) (vs all : List LayerView) (es fs gs : List Tree) (h k height : ℕ) (inside rest : List Terminal) →
    IsSomething vs (layer_of stars arrays) → all ≡ vs ++ (layer_of stars arrays ∷ []) → gs ≡ es ++ fs → height ≡ found.layer_height (is_empty vs) (layer_of stars arrays) (max h k) → height ≤ b →
    layered b stars (record { layers = reverse vs; lengths = trees es; height = h; rest = inside }) (record { arrays = arrays; lengths = trees fs; height = k; rest = rest })
    ≡ Some (record { layers = reverse all; lengths = trees gs; height = height; rest = rest })
layered_is b stars arrays vs all es fs gs h k height inside rest something all-is gs-is height-is low =
    let layer : LayerView = layer_of stars arrays in
    let inner : GotLayers = record { layers = reverse vs; lengths = trees es; height = h; rest = inside } in
    let own : GotArrays = record { arrays = arrays; lengths = trees fs; height = k; rest = rest } in
    ap (λ x. cond x (layered_at layer inner own (layer_height b (reverse vs) layer (max h k))) None) (is_one_layer (reverse vs) vs layer (reversed_empty vs) something)
    ∙ ap (layered_at layer inner own) (height_fits b (reverse vs) vs layer (max h k) height (reversed_empty vs) height-is low)
    ∙ ap (λ (ls : List LayerView). Some (record { layers = ls; lengths = both (trees es) (trees fs); height = height; rest = rest })) (sym (reverse-append vs (layer ∷ [])) ∙ ap reverse (sym all-is))
    ∙ ap (λ (ts : Trees). Some (record { layers = reverse all; lengths = ts; height = height; rest = rest })) (joined_trees es fs ∙ ap trees (sym gs-is))

drop_none : (x : Bool) (o : Option GotLayers) → o ≡ None → cond x o None ≡ None
drop_none true o is = is
drop_none false o is = refl

pub layered_high : (b : ℕ) (stars : List ℕ) (arrays : List Brackets) (vs : List LayerView) (es fs : List Tree) (h k : ℕ) (inside rest : List Terminal) →
    is_empty vs && is_lone_star (layer_of stars arrays) ≡ false → b ≤ max h k →
    layered b stars (record { layers = reverse vs; lengths = trees es; height = h; rest = inside }) (record { arrays = arrays; lengths = trees fs; height = k; rest = rest }) ≡ None
layered_high b stars arrays vs es fs h k inside rest lone high =
    let layer : LayerView = layer_of stars arrays in
    let inner : GotLayers = record { layers = reverse vs; lengths = trees es; height = h; rest = inside } in
    let own : GotArrays = record { arrays = arrays; lengths = trees fs; height = k; rest = rest } in
    drop_none (is_layer (reverse vs) layer) (layered_at layer inner own (layer_height b (reverse vs) layer (max h k))) (ap (layered_at layer inner own) (height_unfit b (reverse vs) vs layer (max h k) (reversed_empty vs) lone high))

positive : (n : ℕ) → 0 < n → (n == 0) ≡ false
positive n some = grind arith

pub empty_by : (vs : List AbstractLayer) (n : ℕ) (is_innermost : Bool) → n ≡ length vs → is_innermost ≡ (n == 0) → is_empty (map layer_view vs) ≡ is_innermost
empty_by [] n is_innermost n-is is = sym (is ∙ ap (λ k. k == 0) n-is)
empty_by (v ∷ vs) n is_innermost n-is is = sym (is ∙ ap (λ k. k == 0) n-is ∙ positive (length (v ∷ vs)) (omega arith))

-- ---- type names

pub plain_is : (ws : List TypeNameWord) (n : TypeNameView) (es : List Tree) (h k : ℕ) (rest : List Terminal) → n ≡ record { words = ws; layers = [] } → es ≡ [] → h ≡ k → k ≡ words_height ws →
    plain (record { words = ws; rest = rest }) ≡ Some (record { name = n; lengths = trees es; height = h; rest = rest })
plain_is ws n es h k rest n-is es-is h-is k-is =
    ap (λ (x : ℕ). Some (record { name = record { words = ws; layers = [] }; lengths = End; height = x; rest = rest })) (sym (h-is ∙ k-is))
    ∙ ap (λ (x : TypeNameView). Some (record { name = x; lengths = End; height = h; rest = rest })) (sym n-is)
    ∙ ap (λ (x : List Tree). Some (record { name = n; lengths = trees x; height = h; rest = rest })) (sym es-is)
