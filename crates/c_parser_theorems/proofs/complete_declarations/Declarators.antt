-- Declarators are found.
use Rattle.std.proofs.Common.{◌≡◌, ◌==◌, ◌&&◌, not, ℕ, zero, suc, ◌+◌, ◌≤◌, ◌<◌, Bool, true, false, cond, List, [], ◌∷◌, length, Option, Some, None, nat_le, refl, arith, ◌∙◌}
use Rattle.c_layout.specs.DeclarationTrees.{NameView, SuffixView, DeclaratorLayerView}
use Rattle.c_parser_tokens.specs.declared.terminals.Terminal.{Terminal}
use Rattle.c_parser_tokens.specs.declared.terminals.Punctuator.TheVariants as p
use Rattle.c_parser_tokens.specs.declared.terminals.Symbol.{Symbol}
use Rattle.c_parser_tokens.specs.declared.terminals.Symbol.TheVariants as symbol
use Rattle.c_parser_expression_grammar.specs.Fronts.{first_symbol, behind_first, is_identifier, is_identifier_first, IsSign, IsName}
use Rattle.c_parser_expression_grammar.specs.Spans.{Chain}
use Rattle.c_parser_expression_grammar.specs.TypeNames.{Stars, is_one_star, is_pointer_qualifier}
use Rattle.c_parser_declarations.specs.Grammar.Declarators.{IsSuffix, Core, Layers, flat, climbed, layers_height}
use Rattle.c_parser_theorems.proofs.unique_expressions.Levels.{below}
use Rattle.c_parser_expression_grammar.specs.Readings.{is_left_parenthesis, is_left_bracket}
use Rattle.c_parser_expression_grammar.specs.TypeNameReaders.{is_star, stars, readers_inside}
use Rattle.c_parser_theorems.proofs.complete_expressions.Shrinking.{length_behind}
use Rattle.c_parser_theorems.proofs.complete_expressions.Stars.{NoStar, stars_are, stars_few}
use Rattle.c_parser_theorems.specs.CompleteDeclarations.Found.{is_end, DeclaratorEnds}
use Rattle.c_parser_declarations.specs.Grammar.DeclaratorReaders.{parts_of, name_at, within, above, named_height, innermost_height, any_declarator, declarators, declarators_inside}
use Rattle.c_parser_theorems.proofs.complete_declarations.Suffixes.{AllLow, suffixes_read, suffixes_few, low_flat, low_climbed, flat_high, climbed_high}

-- ---- what ends a declarator

end_star : (x : Symbol) → is_end x ≡ true → is_star x ≡ false
end_star (symbol.Punctuator p.Star) end = absurd (cc end)
end_star _ end = refl

end_qualifier : (x : Symbol) → is_end x ≡ true → is_pointer_qualifier x ≡ false
end_qualifier (symbol.Keyword w) end = absurd (cc end)
end_qualifier _ end = refl

end_bracket : (x : Symbol) → is_end x ≡ true → is_left_bracket x ≡ false
end_bracket (symbol.Punctuator p.LeftBracket) end = absurd (cc end)
end_bracket _ end = refl

end_parenthesis : (x : Symbol) → is_end x ≡ true → is_left_parenthesis x ≡ false
end_parenthesis (symbol.Punctuator p.LeftParenthesis) end = absurd (cc end)
end_parenthesis _ end = refl

end_identifier : (x : Symbol) → is_end x ≡ true → is_identifier x ≡ false
end_identifier symbol.Identifier end = absurd (cc end)
end_identifier _ end = refl

end_name : (known : List (List ℕ)) (ts : List Terminal) → is_identifier (first_symbol ts) ≡ false → is_identifier_first known ts ≡ false
end_name known ts off = rw off refl

-- ---- what stands behind the stars

-- what begins brackets or ends the declarator
pub record Behind (known : List (List ℕ)) (ts : List Terminal) : Type 0 where
  pub no_star : NoStar ts
  pub no_parenthesis : is_left_parenthesis (first_symbol ts) ≡ false
  pub no_name : is_identifier_first known ts ≡ false

pub chain_behind : (known : List (List ℕ)) (arrays : List SuffixView) (ts rest : List Terminal) → Chain (IsSuffix known) arrays ts rest → DeclaratorEnds rest → Behind known ts
chain_behind known [] ts rest same end =
    let here : rest ≡ ts = same in
    let end-at : is_end (first_symbol ts) ≡ true = rw here at end in
    record { no_star = record { star = end_star (first_symbol ts) end-at; qualifier = end_qualifier (first_symbol ts) end-at }; no_parenthesis = end_parenthesis (first_symbol ts) end-at; no_name = end_name known ts (end_identifier (first_symbol ts) end-at) }
chain_behind known (s ∷ more) ts rest (a, is, all) end =
    record { no_star = record { star = rw is.opens.symbol refl; qualifier = rw is.opens.symbol refl }; no_parenthesis = rw is.opens.symbol refl; no_name = rw is.opens.symbol refl }

pub stars_read : (layer : DeclaratorLayerView) (ts a : List Terminal) → Stars layer.stars ts a → NoStar a → stars (length ts) ts ≡ record { stars = layer.stars; rest = a }
stars_read layer ts a all stop = let few = stars_few layer.stars ts a all in stars_are layer.stars (length ts) ts a all stop (omega arith)

pub name_is : (known : List (List ℕ)) (n : NameView) (ts rest : List Terminal) → IsName known n.at n.text ts rest → n ≡ name_at ts
name_is known n ts rest is = λ i. record { at = is.place i; text = is.spelled i }

-- ---- heights

reaches : (a b : ℕ) → a ≤ b → nat_le a b ≡ true
reaches a b h = grind arith

-- ---- declarators

abbrev pub IsDeclaratorRead : List (List ℕ) → List DeclaratorLayerView → DeclaratorLayerView → Option NameView → Type 0
IsDeclaratorRead known inner layer name =
    (b : ℕ) (ts rest : List Terminal) → Layers inner layer known name ts rest → DeclaratorEnds rest → layers_height inner layer name ≤ b → b + length ts < 4294967295 →
    declarators known b ts ≡ Some (parts_of (layer ∷ inner) name (layers_height inner layer name) rest)

pub by_inside : (known : List (List ℕ)) (b : ℕ) (ts : List Terminal) → declarators known b ts ≡ any_declarator known b (readers_inside known b) (declarators_inside known b) ts
by_inside known zero ts = refl
by_inside known (suc b) ts = refl

read_inside : (known : List (List ℕ)) (inner : List DeclaratorLayerView) (layer : DeclaratorLayerView) (name : Option NameView) → IsDeclaratorRead known inner layer name → (b : ℕ) (ts rest : List Terminal) → Layers inner layer known name ts rest → DeclaratorEnds rest → layers_height inner layer name < b → b + length ts < 4294967295 →
    declarators_inside known b ts ≡ Some (parts_of (layer ∷ inner) name (layers_height inner layer name) rest)
read_inside known inner layer name reads zero ts rest all end small room = absurd (omega arith)
read_inside known inner layer name reads (suc b) ts rest all end small room = reads b ts rest all end (omega arith) (omega arith)

-- a name with stars and brackets around it
named_fits : (b : ℕ) (qs : List ℕ) (steps : ℕ) → cond (length qs == 0) steps (steps + 1) ≤ b → named_height b qs steps ≡ Some (cond (length qs == 0) steps (steps + 1))
named_fits b qs steps small = fits (length qs == 0) small
  where
    fits : (none : Bool) → cond none steps (steps + 1) ≤ b → cond none (within b steps) (above b steps) ≡ Some (cond none steps (steps + 1))
    fits true small = let h = reaches steps b small in rw h refl
    fits false small = let h = below steps b (omega arith) in rw h refl

named_low : (b : ℕ) (qs : List ℕ) (steps : ℕ) → cond (length qs == 0) steps (steps + 1) ≤ b → steps ≤ b
named_low b qs steps small = low (length qs == 0) small
  where
    low : (none : Bool) → cond none steps (steps + 1) ≤ b → steps ≤ b
    low true small = small
    low false small = omega arith

-- nothing with stars and brackets around it
abbrev alone : List ℕ → ℕ → ℕ → ℕ
alone qs pairs level = cond (pairs == 0) (cond (is_one_star qs) 0 1) (level + 1)

alone_fits : (b : ℕ) (qs : List ℕ) (pairs level : ℕ) → alone qs pairs level ≤ b → innermost_height b qs pairs level ≡ Some (alone qs pairs level)
alone_fits b qs pairs level small = fits (pairs == 0) (is_one_star qs) small
  where
    fits : (none one : Bool) → cond none (cond one 0 1) (level + 1) ≤ b → cond none (cond one (Some 0) (above b 0)) (above b level) ≡ Some (cond none (cond one 0 1) (level + 1))
    fits true true small = refl
    fits true false small = let h = below 0 b (omega arith) in rw h refl
    fits false one small = let h = below level b (omega arith) in rw h refl

alone_low : (b : ℕ) (qs : List ℕ) (arrays : List SuffixView) → alone qs (length arrays) (flat 0 arrays) ≤ b → AllLow b arrays
alone_low b qs [] small = tt
alone_low b qs (s ∷ more) small = let some : (length (s ∷ more) == 0) ≡ false = grind arith in let high : flat 0 (s ∷ more) + 1 ≤ b = rw some at small in low_flat 0 b (s ∷ more) (omega arith)

innermost_read : (known : List (List ℕ)) (layer : DeclaratorLayerView) (name : Option NameView) → IsDeclaratorRead known [] layer name
innermost_read known layer None b ts rest (some, a, c, qs, same, arrays) end small room =
    let here : c ≡ a = same in
    let arrays-at : Chain (IsSuffix known) layer.arrays a rest = rw here at arrays in
    let behind = chain_behind known layer.arrays a rest arrays-at end in
    let one = stars_read layer ts a qs behind.no_star in
    let first = stars_few layer.stars ts a qs in
    let few = suffixes_few known layer.arrays a rest arrays-at in
    let low = alone_low b layer.stars layer.arrays small in
    let two = suffixes_read known b layer.arrays (length a) 0 0 a rest arrays-at (end_bracket (first_symbol rest) end) low (omega arith) (omega arith) in
    let off : (length layer.stars == 0 && length layer.arrays == 0) ≡ false = turned (length layer.stars == 0 && length layer.arrays == 0) some in
    let high = alone_fits b layer.stars (length layer.arrays) (flat 0 layer.arrays) small in
    by_inside known b ts ∙ rw (one, behind.no_parenthesis, behind.no_name, two, off, high) refl
  where
    turned : (x : Bool) → not x ≡ true → x ≡ false
    turned true is = absurd (cc is)
    turned false is = refl
innermost_read known layer (Some n) b ts rest (some, a, c, qs, is, arrays) end small room =
    let one = stars_read layer ts a qs (record { star = rw is.symbol refl; qualifier = rw is.symbol refl }) in
    let first = stars_few layer.stars ts a qs in
    let off : is_left_parenthesis (first_symbol a) ≡ false = rw is.symbol refl in
    let yes : is_identifier_first known a ≡ true = rw (is.symbol, is.other) refl in
    let arrays-at : Chain (IsSuffix known) layer.arrays (behind_first a) rest = rw is.behind at arrays in
    let few = suffixes_few known layer.arrays (behind_first a) rest arrays-at in
    let shorter = short a in
    let steps = named_low b layer.stars (climbed 0 layer.arrays) small in
    let two = suffixes_read known b layer.arrays (length (behind_first a)) 0 0 (behind_first a) rest arrays-at (end_bracket (first_symbol rest) end) (low_climbed 0 b layer.arrays steps) (omega arith) (omega arith) in
    let high = named_fits b layer.stars (climbed 0 layer.arrays) small in
    let same = name_is known n a c is in
    by_inside known b ts ∙ rw (one, off, yes, two, high, same) refl
  where
    short : (a : List Terminal) → length (behind_first a) ≤ length a
    short [] = omega arith
    short (t ∷ ts) = omega arith

core_shrinks : (known : List (List ℕ)) (name : Option NameView) (ts rest : List Terminal) → Core known name ts rest → length rest ≤ length ts
core_shrinks known None ts rest same = let here : rest ≡ ts = same in rw here (omega arith)
core_shrinks known (Some n) [] rest is = rw is.behind (omega arith)
core_shrinks known (Some n) (t ∷ ts) rest is = rw is.behind (omega arith)

pub layers_shrink : (known : List (List ℕ)) (inner : List DeclaratorLayerView) (layer : DeclaratorLayerView) (name : Option NameView) (ts rest : List Terminal) → Layers inner layer known name ts rest → length rest ≤ length ts
layers_shrink known [] layer name ts rest (some, a, c, qs, core-is, arrays) =
    let one = stars_few layer.stars ts a qs in let two = core_shrinks known name a c core-is in let three = suffixes_few known layer.arrays c rest arrays in omega arith
layers_shrink known (next ∷ inner) layer name ts rest (a, c, d, e, qs, opens, inside-is, shut, arrays) =
    let one = stars_few layer.stars ts a qs in
    let two = length_behind a c opens in
    let three = layers_shrink known inner next name c d inside-is in
    let four = length_behind d e shut in
    let five = suffixes_few known layer.arrays e rest arrays in
    omega arith

pub closing_ends : {ts rest : List Terminal} → IsSign p.RightParenthesis ts rest → DeclaratorEnds ts
closing_ends is = rw is.symbol refl

pub opening_star : {ts rest : List Terminal} → IsSign p.LeftParenthesis ts rest → NoStar ts
opening_star is = record { star = rw is.symbol refl; qualifier = rw is.symbol refl }

outer_read : (known : List (List ℕ)) (inner : List DeclaratorLayerView) (next layer : DeclaratorLayerView) (name : Option NameView) → IsDeclaratorRead known inner next name → IsDeclaratorRead known (next ∷ inner) layer name
outer_read known inner next layer None reads b ts rest (a, c, d, e, qs, opens, inside-is, shut, arrays) end small room =
    let one = stars_read layer ts a qs (opening_star opens) in
    let first = stars_few layer.stars ts a qs in
    let opening = length_behind a c opens in
    let from : Layers inner next known None (behind_first a) d = rw opens.behind at inside-is in
    let high = flat_high (layers_height inner next None) layer.arrays in
    let length-at : length (behind_first a) + 1 ≡ length a = rw opens.behind at opening in
    let two = read_inside known inner next None reads b (behind_first a) d from (closing_ends shut) (omega arith) (omega arith) in
    let shrink = layers_shrink known inner next None (behind_first a) d from in
    let closing = length_behind d e shut in
    let arrays-at : Chain (IsSuffix known) layer.arrays (behind_first d) rest = rw shut.behind at arrays in
    let closing-at : length (behind_first d) + 1 ≡ length d = rw shut.behind at closing in
    let few = suffixes_few known layer.arrays (behind_first d) rest arrays-at in
    let three = suffixes_read known b layer.arrays (length (behind_first d)) (layers_height inner next None) (layers_height inner next None) (behind_first d) rest arrays-at (end_bracket (first_symbol rest) end) (low_flat (layers_height inner next None) b layer.arrays (omega arith)) (omega arith) (omega arith) in
    let fits = below (flat (layers_height inner next None) layer.arrays) b (omega arith) in
    by_inside known b ts ∙ rw (one, opens.symbol, two, shut.symbol, three, fits) refl
outer_read known inner next layer (Some n) reads b ts rest (a, c, d, e, qs, opens, inside-is, shut, arrays) end small room =
    let one = stars_read layer ts a qs (opening_star opens) in
    let first = stars_few layer.stars ts a qs in
    let opening = length_behind a c opens in
    let from : Layers inner next known (Some n) (behind_first a) d = rw opens.behind at inside-is in
    let steps = named_low b layer.stars (climbed (layers_height inner next (Some n) + 1) layer.arrays) small in
    let high = climbed_high (layers_height inner next (Some n) + 1) layer.arrays in
    let length-at : length (behind_first a) + 1 ≡ length a = rw opens.behind at opening in
    let two = read_inside known inner next (Some n) reads b (behind_first a) d from (closing_ends shut) (omega arith) (omega arith) in
    let shrink = layers_shrink known inner next (Some n) (behind_first a) d from in
    let closing = length_behind d e shut in
    let arrays-at : Chain (IsSuffix known) layer.arrays (behind_first d) rest = rw shut.behind at arrays in
    let closing-at : length (behind_first d) + 1 ≡ length d = rw shut.behind at closing in
    let few = suffixes_few known layer.arrays (behind_first d) rest arrays-at in
    let three = suffixes_read known b layer.arrays (length (behind_first d)) (layers_height inner next (Some n) + 1) (layers_height inner next (Some n) + 1) (behind_first d) rest arrays-at (end_bracket (first_symbol rest) end) (low_climbed (layers_height inner next (Some n) + 1) b layer.arrays steps) (omega arith) (omega arith) in
    let enclosed-fits = below (layers_height inner next (Some n)) b (omega arith) in
    let fits = named_fits b layer.stars (climbed (layers_height inner next (Some n) + 1) layer.arrays) small in
    by_inside known b ts ∙ rw (one, opens.symbol, two, shut.symbol, enclosed-fits, three, fits) refl

pub declarators_read : (known : List (List ℕ)) (inner : List DeclaratorLayerView) (layer : DeclaratorLayerView) (name : Option NameView) → IsDeclaratorRead known inner layer name
declarators_read known [] layer name = innermost_read known layer name
declarators_read known (next ∷ inner) layer name = outer_read known inner next layer name (declarators_read known inner next name)
