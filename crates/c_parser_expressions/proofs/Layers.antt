-- Brackets and layers of abstract declarators, put together.
use Rattle.std.proofs.Common.{◌≡◌, ℕ, ◌+◌, ◌-◌, Bool, true, false, cond, Some, List, [], ◌∷◌, ◌++◌, max, map, reverse, length, take, drop, refl, sym, ap, ◌∙◌, subst, arith, length-append}
use mathlib.Core.List.{reverse_aux}
use Rattle.std.proofs.lemmas.List.{reverse-append, append_assoc, append-nil}
use Rattle.std.proofs.Math.Seq.{take-append_seam}
use Rattle.std.specs.Prelude.{Box}
use Rattle.std.specs.Global.{Global}
use Rattle.cc_base.specs.declared.diagnostics.Place.{Place}
use Rattle.c_layout.specs.declared.syntax_tree.expressions.Expr.{Expr}
use Rattle.c_layout.specs.SyntaxTrees.{Tree, trees, tree_of, LayerView, TypeNameView}
use Rattle.c_layout.specs.declared.syntax_tree.expressions.Brackets.{Brackets}
use Rattle.c_layout.specs.declared.syntax_tree.expressions.TypeNameWord.{TypeNameWord}
use Rattle.c_parser_tokens.specs.declared.terminals.Terminal.{Terminal}
use Rattle.c_parser_tokens.specs.declared.terminals.Punctuator.TheVariants as p
use Rattle.c_parser_expression_grammar.specs.declared.type_name_parts.ArrayLength.{ArrayLength}
use Rattle.c_parser_expression_grammar.specs.Expressions.{height_of, heights_of}
use Rattle.c_parser_expression_grammar.specs.Findings.{Found, FoundPair, FoundArrays, FoundLayers, FoundNested, FoundTypeName, IsSomeLayer, lengths_of, brackets_of, layer_height, is_empty, IsSomething}
use Rattle.c_parser_expression_grammar.specs.Fronts.{first_place, IsSign}
use Rattle.c_parser_expression_grammar.specs.Spans.{Span, Chain}
use Rattle.c_parser_expression_grammar.specs.TypeNames.{IsTypeNameWord, IsBrackets, Length, Arrays, Stars, Layers, Nested, Declarator, is_one_type, counts_of, words_height, length_count, greatest, layers_height, nested_height, declared_height}
use Rattle.c_parser_expressions.proofs.Listing.{each_append, each_length, heights_append, greatest_append}

map_onto : {X Y : Type 0} (f : X → Y) (xs ys : List X) → map f (reverse_aux xs ys) ≡ reverse_aux (map f xs) (map f ys)
map_onto f [] ys = refl
map_onto f (x ∷ xs) ys = map_onto f xs (x ∷ ys)

pub map_reverse : {X Y : Type 0} (f : X → Y) (xs : List X) → map f (reverse xs) ≡ reverse (map f xs)
map_reverse f xs = map_onto f xs []

-- ---- brackets

arrays_more : (pairs : List Brackets) (pair : Brackets) (spans own : List Span) (ts a b : List Terminal) → Arrays pairs spans ts a → IsBrackets pair own a b → Arrays (pairs ++ (pair ∷ [])) (spans ++ own) ts b
arrays_more [] pair spans own ts a b d is =
    subst (λ (ss : List Span). Arrays (pair ∷ []) (ss ++ own) ts b) (sym d.0)
    (subst (λ (start : List Terminal). Arrays (pair ∷ []) own start b) d.1 (own, [], sym (append-nil own), b, is, (refl, refl)))
arrays_more (p ∷ ps) pair spans own ts a b d is =
    let joined : spans ++ own ≡ d.0 ++ (d.1 ++ own) = ap (λ (ss : List Span). ss ++ own) d.2 ∙ append_assoc d.0 d.1 own in
    (d.0, d.1 ++ own, joined, d.3, d.4, arrays_more ps pair d.1 own d.3 a b d.5 is)

length_one : (has : Bool) (spans : List Span) (ts rest : List Terminal) → Length has spans ts rest → cond has 1 0 ≡ length spans
length_one true spans ts rest l = sym (ap length l)
length_one false spans ts rest l = sym (ap length l.0)

arrays_length : (pairs : List Brackets) (spans : List Span) (ts rest : List Terminal) → Arrays pairs spans ts rest → length_count pairs ≡ length spans
arrays_length [] spans ts rest d = sym (ap length d.0)
arrays_length (p ∷ ps) spans ts rest d =
    let own : cond p.has_length 1 0 ≡ length d.0 = length_one p.has_length d.0 d.4.inside d.4.last d.4.length in
    let others : length_count ps ≡ length d.1 = arrays_length ps d.1 d.3 rest d.5 in
    let whole : length spans ≡ length d.0 + length d.1 = ap length d.2 ∙ length-append d.0 d.1 in
    omega arith

pub one_length : {known : List (List ℕ)} (place : Place) (length : Box Expr Global) {b h : ℕ} {ts a m c rest : List Terminal} →
    place ≡ first_place ts → IsSign p.LeftBracket ts a → m ≡ a → Found known 2 b (tree_of length.value) h m c → IsSign p.RightBracket c rest → FoundPair known (record { place = place; length = Some length }) h ts rest
one_length {known} place length {b} {h} {ts} {a} {m} {c} {rest} place-is opens same f closes =
    let span : Span = record { from = m; to = c } in
    let high : max (height_of (tree_of length.value)) 0 ≡ height_of (tree_of length.value) = omega arith in
    record {
      spans = span ∷ [];
      each = (span, [], refl, f.derives, refl);
      brackets = record { inside = m; last = c; place = place-is; opens = subst (λ (at : List Terminal). IsSign p.LeftBracket ts at) (sym same) opens; length = refl; closes = closes };
      height = f.height ∙ sym high;
    }

pub arrays_found : {known : List (List ℕ)} {pairs all : List Brackets} {es fs : List Tree} {pair : ArrayLength} {g h k : ℕ} {ts a rest : List Terminal} →
    FoundArrays known pairs es g ts a → FoundPair known pair k a rest → all ≡ pairs ++ (brackets_of pair ∷ []) → fs ≡ es ++ lengths_of pair.length → h ≡ max g k → FoundArrays known all fs h ts rest
arrays_found {known} {pairs} {all} {es} {fs} {pair} {g} {h} {k} {ts} {a} {rest} f one all-is fs-is h-is =
    let heights : heights_of (trees (es ++ lengths_of pair.length)) ≡ heights_of (trees es) ++ heights_of (trees (lengths_of pair.length)) = heights_append es (lengths_of pair.length) in
    let tall : greatest (heights_of (trees es) ++ heights_of (trees (lengths_of pair.length))) ≡ max (greatest (heights_of (trees es))) (greatest (heights_of (trees (lengths_of pair.length)))) = greatest_append (heights_of (trees es)) (heights_of (trees (lengths_of pair.length))) in
    let high : max g k ≡ greatest (heights_of (trees (es ++ lengths_of pair.length))) = rw (heights, tall, f.height, one.height) in
    rw (all-is, fs-is, h-is) (record {
      spans = f.spans ++ one.spans;
      each = each_append es (lengths_of pair.length) known 2 f.spans one.spans f.each one.each;
      arrays = arrays_more pairs (brackets_of pair) f.spans one.spans ts a rest f.arrays one.brackets;
      height = high;
    })

-- ---- layers

layers_around : (inner : List LayerView) (layer : LayerView) (within own : List Span) (ts a b rest : List Terminal) →
    IsSomething inner layer → Stars layer.stars ts a → Nested inner within a b → Arrays layer.arrays own b rest → Layers inner layer (within ++ own) ts rest
layers_around [] layer within own ts a b rest some stars nested arrays =
    subst (λ (ss : List Span). Layers [] layer (ss ++ own) ts rest) (sym nested.0)
    (some, a, stars, subst (λ (start : List Terminal). Arrays layer.arrays own start rest) nested.1 arrays)
layers_around (next ∷ inner) layer within own ts a b rest some stars nested arrays =
    (within, own, refl, a, nested.0, nested.1, b, stars, nested.2, nested.3, nested.4, arrays)

no_heights : (ms : List ℕ) → length ms ≡ 0 → ms ≡ []
no_heights [] e = refl
no_heights (m ∷ ms) e = absurd (omega arith)

take_front : (ms ns : List ℕ) (n : ℕ) → n ≡ length ms → take n (ms ++ ns) ≡ ms
take_front ms ns n e = rw e (take-append_seam ms ns)

drop_seam : (ms ns : List ℕ) → drop (length ms) (ms ++ ns) ≡ ns
drop_seam [] ns = refl
drop_seam (m ∷ ms) ns = drop_seam ms ns

drop_front : (ms ns : List ℕ) (n : ℕ) → n ≡ length ms → drop n (ms ++ ns) ≡ ns
drop_front ms ns n e = rw e (drop_seam ms ns)

-- the heights of the lengths within a layer, and those of its own brackets
split_height : (inner : List LayerView) (layer : LayerView) (ms ns : List ℕ) → (is_empty inner ≡ true → ms ≡ []) → length_count layer.arrays ≡ length ns →
    layers_height inner layer (ms ++ ns) ≡ layer_height (is_empty inner) layer (max (nested_height inner ms) (greatest ns))
split_height [] layer ms ns none counted =
    let low : max 0 (greatest ns) ≡ greatest ns = omega arith in
    rw (none refl, low)
split_height (next ∷ inner) layer ms ns none counted =
    let within : ℕ = length (ms ++ ns) - length_count layer.arrays in
    let within-is : within ≡ length ms = omega (arith, length-append ms ns) in
    let front : take within (ms ++ ns) ≡ ms = take_front ms ns within within-is in
    let behind : drop within (ms ++ ns) ≡ ns = drop_front ms ns within within-is in
    ap (λ (n : ℕ). n + 1) (ap (λ (hs : List ℕ). max (layers_height inner next hs) (greatest (drop within (ms ++ ns)))) front ∙ ap (λ (hs : List ℕ). max (layers_height inner next ms) (greatest hs)) behind)

reverse_cons : (x : LayerView) (xs : List LayerView) → reverse (x ∷ xs) ≡ reverse xs ++ (x ∷ [])
reverse_cons x xs = reverse-append (x ∷ []) xs

not_empty : (ys : List LayerView) (x : LayerView) → is_empty (ys ++ (x ∷ [])) ≡ false
not_empty [] x = refl
not_empty (y ∷ ys) x = refl

is_something_with : (ys : List LayerView) (x layer : LayerView) → IsSomething (ys ++ (x ∷ [])) layer
is_something_with [] x layer = tt
is_something_with (y ∷ ys) x layer = tt

empty_reverse : (xs : List LayerView) → is_empty (reverse xs) ≡ is_empty xs
empty_reverse [] = refl
empty_reverse (x ∷ xs) = ap is_empty (reverse_cons x xs) ∙ not_empty (reverse xs) x

something_reverse : (xs : List LayerView) (layer : LayerView) → IsSomething xs layer → IsSomething (reverse xs) layer
something_reverse [] layer s = s
something_reverse (x ∷ xs) layer s = subst (λ (ys : List LayerView). IsSomething ys layer) (sym (reverse_cons x xs)) (is_something_with (reverse xs) x layer)

reverse_snoc : (xs : List LayerView) (x : LayerView) → reverse (xs ++ (x ∷ [])) ≡ x ∷ reverse xs
reverse_snoc xs x = reverse-append xs (x ∷ [])

nested_none : (inner : List LayerView) (spans : List Span) (a b : List Terminal) → Nested inner spans a b → is_empty inner ≡ true → spans ≡ []
nested_none [] spans a b n e = n.0
nested_none (x ∷ xs) spans a b n e = cc

pub around : {known : List (List ℕ)} {inside all : List LayerView} (layer : LayerView) {es more fs : List Tree} {g h k : ℕ} {ts a b rest : List Terminal} →
    Stars layer.stars ts a → FoundNested known inside es g a b → FoundArrays known layer.arrays more k b rest → IsSomething inside layer →
    all ≡ inside ++ (layer ∷ []) → fs ≡ es ++ more → h ≡ layer_height (is_empty inside) layer (max g k) → FoundLayers known all fs h ts rest
around {known} {inside} {all} layer {es} {more} {fs} {g} {h} {k} {ts} {a} {b} {rest} stars nested arrays some all-is fs-is h-is =
    let ms : List ℕ = heights_of (trees es) in
    let ns : List ℕ = heights_of (trees more) in
    let inner : List LayerView = reverse inside in
    let reversed : reverse all ≡ layer ∷ inner = ap reverse all-is ∙ reverse_snoc inside layer in
    let some-in : IsSomething inner layer = something_reverse inside layer some in
    let shape : Layers inner layer (nested.spans ++ arrays.spans) ts rest = layers_around inner layer nested.spans arrays.spans ts a b rest some-in stars nested.layers arrays.arrays in
    let ms-long : length ms ≡ length nested.spans = each_length es known 2 nested.spans nested.each in
    let ns-long : length ns ≡ length arrays.spans = each_length more known 2 arrays.spans arrays.each in
    let counted : length_count layer.arrays ≡ length ns = arrays_length layer.arrays arrays.spans b rest arrays.arrays ∙ sym ns-long in
    let none : is_empty inner ≡ true → ms ≡ [] = λ (e : is_empty inner ≡ true). no_heights ms (ms-long ∙ ap length (nested_none inner nested.spans a b nested.layers e)) in
    let split : layers_height inner layer (ms ++ ns) ≡ layer_height (is_empty inner) layer (max (nested_height inner ms) (greatest ns)) = split_height inner layer ms ns none counted in
    let joined : heights_of (trees (es ++ more)) ≡ ms ++ ns = heights_append es more in
    let parts : max g k ≡ max (nested_height inner ms) (greatest ns) = ap (λ (n : ℕ). max n k) nested.height ∙ ap (λ (n : ℕ). max (nested_height inner ms) n) arrays.height in
    let high : h ≡ layers_height inner layer (heights_of (trees (es ++ more))) =
    h-is ∙ (ap (λ (e : Bool). layer_height e layer (max g k)) (sym (empty_reverse inside)) ∙ (ap (λ (n : ℕ). layer_height (is_empty inner) layer n) parts ∙ (sym split ∙ sym (ap (λ (hs : List ℕ). layers_height inner layer hs) joined)))) in
    let answer : FoundLayers known all (es ++ more) h ts rest = record {
      spans = nested.spans ++ arrays.spans;
      each = each_append es more known 2 nested.spans arrays.spans nested.each arrays.each;
      layers = subst (λ (layers : List LayerView). Declarator layers (nested.spans ++ arrays.spans) ts rest) (sym reversed) shape;
      some = subst IsSomeLayer (sym reversed) tt;
      height = high ∙ ap (λ (layers : List LayerView). nested_height layers (heights_of (trees (es ++ more)))) (sym reversed);
    } in
    subst (λ (gs : List Tree). FoundLayers known all gs h ts rest) (sym fs-is) answer

pub nothing : (known : List (List ℕ)) (ts : List Terminal) → FoundNested known [] [] 0 ts ts
nothing known ts = record { spans = []; each = refl; layers = (refl, refl); height = refl }

nest : (layers : List LayerView) (spans : List Span) (ts a b rest : List Terminal) → IsSomeLayer layers → IsSign p.LeftParenthesis ts a → Declarator layers spans a b → IsSign p.RightParenthesis b rest → Nested layers spans ts rest
nest [] spans ts a b rest some opens d closes = absurd some
nest (layer ∷ inner) spans ts a b rest some opens d closes = (a, b, opens, d, closes)

pub enclosed : {known : List (List ℕ)} {layers : List LayerView} {es : List Tree} {h : ℕ} {ts a b rest : List Terminal} →
    IsSign p.LeftParenthesis ts a → FoundLayers known layers es h a b → IsSign p.RightParenthesis b rest → FoundNested known layers es h ts rest
enclosed {known} {layers} {es} {h} {ts} {a} {b} {rest} opens f closes = record {
  spans = f.spans;
  each = f.each;
  layers = nest (reverse layers) f.spans ts a b rest f.some opens f.layers closes;
  height = f.height;
}

-- ---- type names

pub plain : {known : List (List ℕ)} {name : TypeNameView} {words : List TypeNameWord} {es : List Tree} {g h : ℕ} {ts rest : List Terminal} →
    Chain (IsTypeNameWord known) words ts rest → is_one_type (counts_of words) ≡ true → g ≡ words_height words →
    name ≡ record { words = words; layers = [] } → es ≡ [] → h ≡ g → FoundTypeName known name es h ts rest
plain {known} {name} {words} {es} {g} {h} {ts} {rest} chain one high name-is es-is h-is =
    rw (name-is, es-is, h-is) (record {
      spans = [];
      each = refl;
      named = record { behind = rest; words = chain; one_type = one; declarator = (refl, refl) };
      height = high;
    })

declared_high : (layers : List LayerView) (words : ℕ) (hs : List ℕ) → IsSomeLayer layers → declared_height layers words hs ≡ max words (nested_height layers hs) + 1
declared_high [] words hs some = absurd some
declared_high (layer ∷ inner) words hs some = refl

pub declared : {known : List (List ℕ)} {name : TypeNameView} {words : List TypeNameWord} {inside : List LayerView} {es fs : List Tree} {g h k : ℕ} {ts a rest : List Terminal} →
    Chain (IsTypeNameWord known) words ts a → is_one_type (counts_of words) ≡ true → g ≡ words_height words → FoundLayers known inside es k a rest →
    name ≡ record { words = words; layers = reverse inside } → fs ≡ es → h ≡ max g k + 1 → FoundTypeName known name fs h ts rest
declared {known} {name} {words} {inside} {es} {fs} {g} {h} {k} {ts} {a} {rest} chain one high f name-is fs-is h-is =
    let whole : declared_height (reverse inside) (words_height words) (heights_of (trees es)) ≡ max (words_height words) (nested_height (reverse inside) (heights_of (trees es))) + 1 = declared_high (reverse inside) (words_height words) (heights_of (trees es)) f.some in
    rw (name-is, fs-is, h-is) (record {
      spans = f.spans;
      each = f.each;
      named = record { behind = a; words = chain; one_type = one; declarator = f.layers };
      height = rw (whole, high, f.height);
    })
