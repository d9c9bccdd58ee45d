-- Brackets and layers of declarators, put together.
use Rattle.std.proofs.Common.{◌≡◌, ℕ, suc, ◌+◌, ◌≤◌, Bool, true, false, List, [], ◌∷◌, ◌++◌, max, map, reverse, length, Option, Some, None, is_some, refl, sym, ap, ◌∙◌, subst}
use Rattle.std.specs.Option.{option_map}
use Rattle.std.proofs.lemmas.List.{reverse-append}
use Rattle.c_layout.specs.SyntaxTrees.{Tree}
use Rattle.c_layout.specs.DeclarationTrees.{NameView, SuffixView, DeclaratorLayerView, DeclaratorView}
use Rattle.c_parser_tokens.specs.declared.terminals.Terminal.{Terminal}
use Rattle.c_parser_tokens.specs.declared.terminals.Punctuator.TheVariants as p
use Rattle.c_parser_expression_grammar.specs.Findings.{Found}
use Rattle.c_parser_expression_grammar.specs.Fronts.{first_place, IsSign}
use Rattle.c_parser_expression_grammar.specs.Spans.{Chain}
use Rattle.c_parser_expression_grammar.specs.TypeNames.{Stars}
use Rattle.c_parser_expressions.proofs.Listing.{chain_more}
use Rattle.c_parser_declarations.specs.Grammar.Declarators.{IsSuffix, Inside, Layers, Shape, length_height, flat, climbed, height_by, layer_height, enclosed_by, enclosed_height, layers_height, shape_height, inside_height}
use Rattle.c_parser_declarations.specs.Grammar.Findings.{FoundSuffix, FoundSuffixes, FoundInside, FoundLayers, FoundBehind, FoundDeclarator, FoundNamedBehind, FoundNamed, is_empty, IsSomething, layer_of}
use Rattle.c_parser_expressions.proofs.Layers as lower

pub map_reverse : {X Y : Type 0} (f : X → Y) (xs : List X) → map f (reverse xs) ≡ reverse (map f xs)
map_reverse f xs = lower.map_reverse f xs

-- ---- brackets

pub one_suffix : {known : List (List ℕ)} (s : SuffixView) (e : Tree) {b h : ℕ} {ts a m c rest : List Terminal} →
    s.length ≡ Some e → s.at ≡ first_place ts → IsSign p.LeftBracket ts a → m ≡ a → Found known 2 b e h m c → IsSign p.RightBracket c rest → FoundSuffix known s h ts rest
one_suffix {known} s e {b} {h} {ts} {a} {m} {c} {rest} s-is place opens same f closes = record {
  derives = record {
    inside = m;
    last = c;
    place = place;
    opens = subst (λ (at : List Terminal). IsSign p.LeftBracket ts at) (sym same) opens;
    length = rw s-is f.derives;
    closes = closes;
  };
  height = rw s-is f.height;
}

flat_more : (before : ℕ) (xs : List SuffixView) (s : SuffixView) → flat before (xs ++ (s ∷ [])) ≡ max (flat before xs) (length_height s.length)
flat_more before [] s = refl
flat_more before (x ∷ xs) s = flat_more (max before (length_height x.length)) xs s

climbed_more : (before : ℕ) (xs : List SuffixView) (s : SuffixView) → climbed before (xs ++ (s ∷ [])) ≡ max (climbed before xs) (length_height s.length) + 1
climbed_more before [] s = refl
climbed_more before (x ∷ xs) s = climbed_more (max before (length_height x.length) + 1) xs s

pub suffix_more : {known : List (List ℕ)} {inside : ℕ} {xs ys : List SuffixView} {s : SuffixView} {f g k f' g' : ℕ} {ts a rest : List Terminal} →
    FoundSuffixes known inside xs f g ts a → FoundSuffix known s k a rest → ys ≡ xs ++ (s ∷ []) → f' ≡ max f k → g' ≡ max g k + 1 → FoundSuffixes known inside ys f' g' ts rest
suffix_more {known} {inside} {xs} {ys} {s} {f} {g} {k} {f'} {g'} {ts} {a} {rest} so one ys-is f-is g-is =
    rw (ys-is, f-is, g-is) (record {
      derive = chain_more (IsSuffix known) xs s ts a rest so.derive one.derives;
      level_is = rw (flat_more inside xs s, so.level_is, one.height);
      steps_is = rw (climbed_more inside xs s, so.steps_is, one.height);
    })

-- ---- layers

reverse_cons : (x : DeclaratorLayerView) (xs : List DeclaratorLayerView) → reverse (x ∷ xs) ≡ reverse xs ++ (x ∷ [])
reverse_cons x xs = reverse-append (x ∷ []) xs

not_empty : (ys : List DeclaratorLayerView) (x : DeclaratorLayerView) → is_empty (ys ++ (x ∷ [])) ≡ false
not_empty [] x = refl
not_empty (y ∷ ys) x = refl

something_with : (ys : List DeclaratorLayerView) (x : DeclaratorLayerView) (named : Bool) (layer : DeclaratorLayerView) → IsSomething (ys ++ (x ∷ [])) named layer
something_with [] x named layer = tt
something_with (y ∷ ys) x named layer = tt

empty_reverse : (xs : List DeclaratorLayerView) → is_empty (reverse xs) ≡ is_empty xs
empty_reverse [] = refl
empty_reverse (x ∷ xs) = ap is_empty (reverse_cons x xs) ∙ not_empty (reverse xs) x

something_reverse : (xs : List DeclaratorLayerView) (named : Bool) (layer : DeclaratorLayerView) → IsSomething xs named layer → IsSomething (reverse xs) named layer
something_reverse [] named layer s = s
something_reverse (x ∷ xs) named layer s = subst (λ (ys : List DeclaratorLayerView). IsSomething ys named layer) (sym (reverse_cons x xs)) (something_with (reverse xs) x named layer)

reverse_snoc : (xs : List DeclaratorLayerView) (x : DeclaratorLayerView) → reverse (xs ++ (x ∷ [])) ≡ x ∷ reverse xs
reverse_snoc xs x = reverse-append xs (x ∷ [])

around : (inner : List DeclaratorLayerView) (layer : DeclaratorLayerView) (known : List (List ℕ)) (name : Option NameView) (start ts a rest : List Terminal) →
    IsSomething inner (is_some name) layer → Stars layer.stars start ts → Inside inner known name ts a → Chain (IsSuffix known) layer.arrays a rest → Layers inner layer known name start rest
around [] layer known name start ts a rest some stars inside arrays = (some, ts, a, stars, inside, arrays)
around (next ∷ inner) layer known name start ts a rest some stars inside arrays = (ts, inside.0, inside.1, a, stars, inside.2, inside.3, inside.4, arrays)

around_height : (inner : List DeclaratorLayerView) (layer : DeclaratorLayerView) (name : Option NameView) →
    layers_height inner layer name ≡ layer_height name (is_empty inner) layer (inside_height inner name)
around_height [] layer name = refl
around_height (next ∷ inner) layer name = refl

is_some_map : {X Y : Type 0} (f : X → Y) (o : Option X) → is_some (option_map f o) ≡ is_some o
is_some_map f None = refl
is_some_map f (Some x) = refl

pub behind : {known : List (List ℕ)} {inside all : List DeclaratorLayerView} (stars : List ℕ) (arrays : List SuffixView) {name : Option NameView} {named : Bool} {budget f g h k pairs : ℕ} {ts a rest : List Terminal} →
    FoundInside known inside name k ts a → FoundSuffixes known k arrays f g a rest → named ≡ is_some name → pairs ≡ length arrays → IsSomething inside named (layer_of stars arrays) →
    all ≡ inside ++ (layer_of stars arrays ∷ []) → h ≡ height_by named (is_empty inside) stars pairs f g → h ≤ budget → FoundBehind known budget stars all name h ts rest
behind {known} {inside} {all} stars arrays {name} {named} {budget} {f} {g} {h} {k} {pairs} {ts} {a} {rest} core suffixes named-is pairs-is some all-is h-is within =
    let layer : DeclaratorLayerView = layer_of stars arrays in
    let inner : List DeclaratorLayerView = reverse inside in
    let reversed : reverse all ≡ layer ∷ inner = ap reverse all-is ∙ reverse_snoc inside layer in
    let some-named : IsSomething inside (is_some name) layer = subst (λ (n : Bool). IsSomething inside n layer) named-is some in
    let some-in : IsSomething inner (is_some name) layer = something_reverse inside (is_some name) layer some-named in
    let high : h ≡ layers_height inner layer name =
    h-is ∙ (ap (λ (n : Bool). height_by n (is_empty inside) stars pairs f g) named-is
    ∙ (ap (λ (e : Bool). height_by (is_some name) e stars pairs f g) (sym (empty_reverse inside))
    ∙ (ap (λ (n : ℕ). height_by (is_some name) (is_empty inner) stars n f g) pairs-is
    ∙ (ap (λ (n : ℕ). height_by (is_some name) (is_empty inner) stars (length arrays) n g) (suffixes.level_is ∙ ap (λ (n : ℕ). flat n arrays) core.height)
    ∙ (ap (λ (n : ℕ). height_by (is_some name) (is_empty inner) stars (length arrays) (flat (inside_height inner name) arrays) n) (suffixes.steps_is ∙ ap (λ (n : ℕ). climbed n arrays) core.height)
    ∙ sym (around_height inner layer name)))))) in
    record {
      goes = λ (start : List Terminal) (s : Stars stars start ts).
          subst (λ (layers : List DeclaratorLayerView). Shape layers known name start rest) (sym reversed)
          (around inner layer known name start ts a rest some-in s core.shape suffixes.derive);
      height = high ∙ ap (λ (layers : List DeclaratorLayerView). shape_height layers name) (sym reversed);
      within = within;
    }

pub whole : {known : List (List ℕ)} {budget : ℕ} {stars : List ℕ} {inside_out : List DeclaratorLayerView} {name : Option NameView} {high : ℕ} {ts a rest : List Terminal} →
    Stars stars ts a → FoundBehind known budget stars inside_out name high a rest → FoundLayers known budget inside_out name high ts rest
whole {known} {budget} {stars} {inside_out} {name} {high} {ts} {a} {rest} s f = record { shape = f.goes ts s; height = f.height; within = f.within }

nest : (layers : List DeclaratorLayerView) (known : List (List ℕ)) (name : Option NameView) (ts a b rest : List Terminal) →
    IsSign p.LeftParenthesis ts a → Shape layers known name a b → IsSign p.RightParenthesis b rest → Inside layers known name ts rest
nest [] known name ts a b rest opens s closes = absurd s
nest (layer ∷ inner) known name ts a b rest opens s closes = (a, b, opens, s, closes)

nest_height : (layers : List DeclaratorLayerView) (known : List (List ℕ)) (name : Option NameView) (a b : List Terminal) → Shape layers known name a b → enclosed_height name (shape_height layers name) ≡ inside_height layers name
nest_height [] known name a b s = absurd s
nest_height (layer ∷ inner) known name a b s = refl

pub nested : {known : List (List ℕ)} {budget : ℕ} {inside_out : List DeclaratorLayerView} {name : Option NameView} {named : Bool} {high k : ℕ} {ts a b rest : List Terminal} →
    IsSign p.LeftParenthesis ts a → FoundLayers known budget inside_out name k a b → IsSign p.RightParenthesis b rest → named ≡ is_some name → high ≡ enclosed_by named k → FoundInside known inside_out name high ts rest
nested {known} {budget} {inside_out} {name} {named} {high} {k} {ts} {a} {b} {rest} opens f closes named-is high-is = record {
  shape = nest (reverse inside_out) known name ts a b rest opens f.shape closes;
  height = high-is ∙ (ap (λ (n : Bool). enclosed_by n k) named-is ∙ (ap (λ (n : ℕ). enclosed_height name n) f.height ∙ nest_height (reverse inside_out) known name a b f.shape));
}

pub declared : {known : List (List ℕ)} {budget : ℕ} {inside_out : List DeclaratorLayerView} {name : Option NameView} {d : DeclaratorView} {h k : ℕ} {ts rest : List Terminal} →
    FoundLayers known budget inside_out name k ts rest → d ≡ record { layers = reverse inside_out; name = name } → h ≡ k → FoundDeclarator known budget d h ts rest
declared {known} {budget} {inside_out} {name} {d} {h} {k} {ts} {rest} f d-is h-is =
    rw (d-is, h-is) (record { derives = f.shape; height = f.height; within = f.within })

pub named_behind : {known : List (List ℕ)} {budget : ℕ} {stars : List ℕ} {inside_out : List DeclaratorLayerView} {name : Option NameView} {d : DeclaratorView} {h k : ℕ} {ts rest : List Terminal} →
    FoundBehind known budget stars inside_out name k ts rest → is_some name ≡ true → d ≡ record { layers = reverse inside_out; name = name } → h ≡ k → FoundNamedBehind known budget stars d h ts rest
named_behind {known} {budget} {stars} {inside_out} {name} {d} {h} {k} {ts} {rest} f some d-is h-is =
    rw (d-is, h-is) (record { goes = f.goes; named = some; height = f.height; within = f.within })

pub named : {known : List (List ℕ)} {budget : ℕ} {stars : List ℕ} {d : DeclaratorView} {h : ℕ} {ts a rest : List Terminal} →
    Stars stars ts a → FoundNamedBehind known budget stars d h a rest → FoundNamed known budget d h ts rest
named {known} {budget} {stars} {d} {h} {ts} {a} {rest} s f = record { derives = record { derives = f.goes ts s; named = f.named }; height = f.height; within = f.within }

pub mapped_is_some : {X Y : Type 0} (f : X → Y) (o : Option X) → is_some o ≡ is_some (option_map f o)
mapped_is_some f o = sym (is_some_map f o)

pub mapped_length : {X Y : Type 0} (f : X → Y) (xs : List X) → length xs ≡ length (map f xs)
mapped_length f [] = refl
mapped_length f (x ∷ xs) = ap suc (mapped_length f xs)
