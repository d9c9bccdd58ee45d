-- Declarators with a name, lists of them and the declarators of parameters are found.
use Rattle.std.proofs.Common.{◌≡◌, ℕ, suc, ◌+◌, ◌≤◌, ◌<◌, true, false, List, [], ◌∷◌, length, Option, Some, None, is_some, refl, arith, ◌∙◌, sym}
use Rattle.c_layout.specs.DeclarationTrees.{NameView, SuffixView, DeclaratorLayerView, DeclaratorView}
use Rattle.c_parser_tokens.specs.declared.terminals.Terminal.{Terminal}
use Rattle.c_parser_tokens.specs.declared.terminals.Punctuator.TheVariants as p
use Rattle.c_parser_tokens.specs.declared.terminals.Symbol.TheVariants as symbol
use Rattle.c_parser_expression_grammar.specs.Fronts.{first_symbol, IsSign, IsName}
use Rattle.c_parser_expression_grammar.specs.Spans.{Chain}
use Rattle.c_parser_expression_grammar.specs.TypeNames.{Stars}
use Rattle.c_parser_declarations.specs.Grammar.Declarations.{begins_declarator}
use Rattle.c_parser_declarations.specs.Grammar.Declarators.{IsSuffix, Core, Layers, Shape, IsDeclarator, is_something, shape_height, declarator_height}
use Rattle.c_parser_declarations.specs.Grammar.Lists.{Listed, highest}
use Rattle.c_parser_declarations.specs.Grammar.Specifiers.{IsNamed}
use Rattle.c_parser_expression_grammar.specs.Readings.{is_comma}
use Rattle.c_parser_expression_grammar.specs.TypeNameReaders.{stars, readers_inside}
use Rattle.c_parser_theorems.proofs.complete_expressions.Shrinking.{length_behind}
use Rattle.c_parser_theorems.proofs.complete_expressions.Stars.{stars_few}
use Rattle.c_parser_theorems.specs.CompleteDeclarations.Found.{DeclaratorEnds}
use Rattle.c_parser_declarations.specs.Grammar.Items.{item_of}
use Rattle.c_parser_declarations.specs.Grammar.DeclaratorReaders.{parts_of, behind_stars, declarators, declarators_inside, parameter_declarator, declarator, declarator_list}
use Rattle.c_parser_theorems.proofs.complete_declarations.Lists.{ReadsItem, TakesOne, all_read, listed_few, listed_read}
use Rattle.c_parser_theorems.proofs.complete_declarations.Suffixes.{suffixes_few}
use Rattle.c_parser_theorems.proofs.complete_declarations.Declarators.{by_inside, declarators_read, layers_shrink}

-- where an item derives there is room for its height in 32 bits
abbrev pub Roomy : {X : Type 0} → ℕ → (X → List Terminal → List Terminal → Type 0) → X → List Terminal → List Terminal → Type 0
Roomy b Derive x ts rest = Derive x ts rest × (b + length ts < 4294967295)

pub roomy : {X : Type 0} (b : ℕ) (Derive : X → List Terminal → List Terminal → Type 0) → TakesOne Derive → (xs : List X) (ts rest : List Terminal) → Listed Derive xs ts rest → b + length ts < 4294967295 → Listed (Roomy b Derive) xs ts rest
roomy b Derive takes [] ts rest d room = d
roomy b Derive takes (x ∷ []) ts rest d room = (d, room)
roomy b Derive takes (x ∷ (y ∷ more)) ts rest (a, c, one, comma, others) room =
    let h = takes x ts a one in
    let s = length_behind a c comma in
    (a, c, (one, room), comma, roomy b Derive takes (y ∷ more) c rest others (omega arith))

-- ---- what declarators take

pub name_takes : {known : List (List ℕ)} (n : NameView) (ts rest : List Terminal) → IsName known n.at n.text ts rest → length rest + 1 ≡ length ts
name_takes n [] rest is = absurd (cc is.symbol)
name_takes n (t ∷ ts) rest is = rw is.behind (omega arith)

named_layers_take : (known : List (List ℕ)) (inner : List DeclaratorLayerView) (layer : DeclaratorLayerView) (n : NameView) (ts rest : List Terminal) → Layers inner layer known (Some n) ts rest → length rest + 1 ≤ length ts
named_layers_take known [] layer n ts rest (some, a, c, qs, is, arrays) =
    let one = stars_few layer.stars ts a qs in let two = name_takes n a c is in let three = suffixes_few known layer.arrays c rest arrays in omega arith
named_layers_take known (next ∷ inner) layer n ts rest (a, c, d, e, qs, opens, inside-is, shut, arrays) =
    let one = stars_few layer.stars ts a qs in
    let two = length_behind a c opens in
    let three = layers_shrink known inner next (Some n) c d inside-is in
    let four = length_behind d e shut in
    let five = suffixes_few known layer.arrays e rest arrays in
    omega arith

named_shape_takes : (known : List (List ℕ)) (layers : List DeclaratorLayerView) (name : Option NameView) (ts rest : List Terminal) → Shape layers known name ts rest → is_some name ≡ true → length rest + 1 ≤ length ts
named_shape_takes known [] name ts rest d some = absurd d
named_shape_takes known (layer ∷ inner) None ts rest d some = absurd (cc some)
named_shape_takes known (layer ∷ inner) (Some n) ts rest d some = named_layers_take known inner layer n ts rest d

pub named_takes : (known : List (List ℕ)) → TakesOne (IsNamed known)
named_takes known d ts rest is = named_shape_takes known d.layers d.name ts rest is.derives is.named

shape_shrinks : (known : List (List ℕ)) (layers : List DeclaratorLayerView) (name : Option NameView) (ts rest : List Terminal) → Shape layers known name ts rest → length rest ≤ length ts
shape_shrinks known [] name ts rest d = absurd d
shape_shrinks known (layer ∷ inner) name ts rest d = layers_shrink known inner layer name ts rest d

pub declarator_shrinks : (known : List (List ℕ)) (d : DeclaratorView) (ts rest : List Terminal) → IsDeclarator known d ts rest → length rest ≤ length ts
declarator_shrinks known d ts rest is = shape_shrinks known d.layers d.name ts rest is

-- ---- what declarators begin with

layer_begins : (known : List (List ℕ)) (qs : List ℕ) (xs : List SuffixView) (name : Option NameView) (ts a b r : List Terminal) → is_something (is_some name) (record { stars = qs; arrays = xs }) ≡ true → Stars qs ts a → Core known name a b → Chain (IsSuffix known) xs b r → begins_declarator known ts ≡ true
layer_begins known (q ∷ qs) xs name ts a b r some (c, star, more) core all = rw star.star.symbol refl
layer_begins known [] xs (Some n) ts a b r some same core all = rw same at (begins core)
  where
    begins : IsName known n.at n.text a b → begins_declarator known a ≡ true
    begins is = rw (is.symbol, is.other) refl
layer_begins known [] [] None ts a b r some same core all = absurd (cc some)
layer_begins known [] (x ∷ xs) None ts a b r some same core (c, one, more) =
    let at : first_symbol ts ≡ symbol.Punctuator p.LeftBracket = rw same at (rw core at one.opens.symbol) in rw at refl

enclosed_begins : (known : List (List ℕ)) (qs : List ℕ) (ts a b : List Terminal) → Stars qs ts a → IsSign p.LeftParenthesis a b → begins_declarator known ts ≡ true
enclosed_begins known (q ∷ qs) ts a b (c, star, more) opens = rw star.star.symbol refl
enclosed_begins known [] ts a b same opens = let at : first_symbol ts ≡ symbol.Punctuator p.LeftParenthesis = rw same at opens.symbol in rw at refl

shape_begins : (known : List (List ℕ)) (xs : List DeclaratorLayerView) (name : Option NameView) (ts r : List Terminal) → Shape xs known name ts r → begins_declarator known ts ≡ true
shape_begins known [] name ts r d = absurd d
shape_begins known (x ∷ []) name ts r (some, a, b, star, core, all) = layer_begins known x.stars x.arrays name ts a b r some star core all
shape_begins known (x ∷ (y ∷ ys)) name ts r (a, b, c, d, star, opens, inside, shut, all) = enclosed_begins known x.stars ts a b star opens

pub declarator_begins : (known : List (List ℕ)) (x : DeclaratorView) (ts r : List Terminal) → IsDeclarator known x ts r → begins_declarator known ts ≡ true
declarator_begins known x ts r d = shape_begins known x.layers x.name ts r d

pub listed_begins : (known : List (List ℕ)) (ds : List DeclaratorView) (ts r : List Terminal) → Listed (IsNamed known) ds ts r → begins_declarator known ts ≡ true
listed_begins known [] ts r d = absurd d
listed_begins known (x ∷ []) ts r d = declarator_begins known x ts r d.derives
listed_begins known (x ∷ (y ∷ ys)) ts r (a, b, one, comma, more) = declarator_begins known x ts a one.derives

-- ---- what is found

pub behind_read : (known : List (List ℕ)) (b : ℕ) (layers : List DeclaratorLayerView) (name : Option NameView) (ts rest : List Terminal) → Shape layers known name ts rest → DeclaratorEnds rest → shape_height layers name ≤ b → b + length ts < 4294967295 →
    behind_stars known b (readers_inside known b) (declarators_inside known b) (stars (length ts) ts).stars (stars (length ts) ts).rest ≡ Some (parts_of layers name (shape_height layers name) rest)
behind_read known b [] name ts rest d end small room = absurd d
behind_read known b (layer ∷ inner) name ts rest d end small room = sym (by_inside known b ts) ∙ declarators_read known inner layer name b ts rest d end small room

shape_read : (known : List (List ℕ)) (b : ℕ) (layers : List DeclaratorLayerView) (name : Option NameView) (ts rest : List Terminal) → Shape layers known name ts rest → DeclaratorEnds rest → shape_height layers name ≤ b → b + length ts < 4294967295 →
    declarators known b ts ≡ Some (parts_of layers name (shape_height layers name) rest)
shape_read known b [] name ts rest d end small room = absurd d
shape_read known b (layer ∷ inner) name ts rest d end small room = declarators_read known inner layer name b ts rest d end small room

pub named_found : (known : List (List ℕ)) (b : ℕ) (d : DeclaratorView) → ReadsItem (Roomy b (IsNamed known)) DeclaratorEnds declarator_height (suc b) (declarator known b) d
named_found known b d ts rest (is, room) end small =
    let one = behind_read known b d.layers d.name ts rest is.derives end (omega arith) room in
    rw (one, is.named) refl

pub parameter_declarator_found : (known : List (List ℕ)) (b : ℕ) (d : DeclaratorView) (ts rest : List Terminal) → IsDeclarator known d ts rest → DeclaratorEnds rest → declarator_height d ≤ b → b + length ts < 4294967295 → parameter_declarator known b ts ≡ Some (item_of d (declarator_height d) rest)
parameter_declarator_found known b d ts rest is end small room =
    let one = shape_read known b d.layers d.name ts rest is end small room in
    rw one refl

end_comma : (a b : List Terminal) → IsSign p.Comma a b → DeclaratorEnds a
end_comma a b comma = rw comma.symbol refl

pub declarator_list_found : (known : List (List ℕ)) (b : ℕ) (ds : List DeclaratorView) (ts rest : List Terminal) → Listed (IsNamed known) ds ts rest → DeclaratorEnds rest → is_comma (first_symbol rest) ≡ false → highest declarator_height ds ≤ b → b + length ts < 4294967295 →
    declarator_list known b ts ≡ Some (item_of ds (highest declarator_height ds) rest)
declarator_list_found known b ds ts rest d end none small room =
    let few = listed_few (IsNamed known) (named_takes known) ds ts rest d in
    let from = roomy b (IsNamed known) (named_takes known) ds ts rest d room in
    listed_read (Roomy b (IsNamed known)) DeclaratorEnds declarator_height (suc b) (declarator known b) end_comma ds (all_read (Roomy b (IsNamed known)) DeclaratorEnds declarator_height (suc b) (declarator known b) (named_found known b) ds) (length ts) ts rest from end none (omega arith) (omega arith)
