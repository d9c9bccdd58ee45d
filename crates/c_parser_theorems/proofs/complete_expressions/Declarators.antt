-- Abstract declarators are read.
use Rattle.std.proofs.Common.{◌≡◌, ℕ, zero, suc, ◌+◌, ◌-◌, ◌≤◌, ◌<◌, Bool, true, false, max, cond, List, [], ◌∷◌, ◌++◌, length, Some, refl, arith, ap, ◌∙◌, sym}
use Rattle.std.proofs.Math.Seq.{take-append_seam, drop-append_seam}
use Rattle.c_layout.specs.SyntaxTrees.{Trees, LayerView, End, More}
use Rattle.c_layout.specs.declared.syntax_tree.expressions.Brackets.{Brackets}
use Rattle.c_parser_tokens.specs.declared.terminals.Terminal.{Terminal}
use Rattle.c_parser_tokens.specs.declared.terminals.Punctuator.{Punctuator}
use Rattle.c_parser_tokens.specs.declared.terminals.Punctuator.TheVariants as p
use Rattle.c_parser_tokens.specs.declared.terminals.Symbol.TheVariants as symbol
use Rattle.c_parser_expression_grammar.specs.Expressions.{DeriveEach, height_of, heights_of}
use Rattle.c_parser_expression_grammar.specs.Fronts.{first_symbol, behind_first, IsSign}
use Rattle.c_parser_expression_grammar.specs.Spans.{Span}
use Rattle.c_parser_expression_grammar.specs.TypeNames.{Arrays, Layers, Stars, is_lone_star, greatest, layers_height, length_count}
use Rattle.c_parser_theorems.proofs.unique_expressions.Levels.{below}
use Rattle.c_parser_expression_grammar.specs.Readings.{GotLayers, is_left_parenthesis, is_left_bracket}
use Rattle.c_parser_expression_grammar.specs.ExpressionReaders.{NameReaders, inside}
use Rattle.c_parser_theorems.specs.CompleteExpressions.Found.{AllFound}
use Rattle.c_parser_expression_grammar.specs.TypeNameReaders.{is_star, stars, both, layer_height, declarator, names_of}
use Rattle.c_parser_theorems.proofs.complete_expressions.Arrays.{Fits, lengths_counted, fits_all, arrays_are, arrays_few}
use Rattle.c_parser_theorems.proofs.complete_expressions.Shrinking.{all_shrink}
use Rattle.c_parser_theorems.proofs.complete_expressions.Stars.{NoStar, stars_are, stars_few}

-- ---- the trees of the lengths, in two parts

pub record Parts (names : NameReaders) (known : List (List ℕ)) (es : Trees) (left right : List Span) : Type 0 where
  pub first : Trees
  pub second : Trees
  pub whole : es ≡ both first second
  pub first_derive : DeriveEach first known 2 left
  pub second_derive : DeriveEach second known 2 right
  pub first_found : AllFound names known first
  pub second_found : AllFound names known second
  pub first_count : length (heights_of first) ≡ length left
  pub second_count : length (heights_of second) ≡ length right

count_is : (known : List (List ℕ)) (es : Trees) (spans : List Span) → DeriveEach es known 2 spans → length (heights_of es) ≡ length spans
count_is known End spans none = rw none refl
count_is known (More e es) spans (s, others, parts, d, each) = let tail = count_is known es others each in rw parts (omega arith)

head_is : (x y : Span) (xs ys : List Span) → x ∷ xs ≡ y ∷ ys → x ≡ y
head_is x y xs ys same = cc

tail_is : (x y : Span) (xs ys : List Span) → x ∷ xs ≡ y ∷ ys → xs ≡ ys
tail_is x y xs ys same = cc

pub parts_of : (names : NameReaders) (known : List (List ℕ)) (es : Trees) (left right : List Span) → AllFound names known es → DeriveEach es known 2 (left ++ right) → Parts names known es left right
parts_of names known es [] right found each = record { first = End; second = es; whole = refl; first_derive = refl; second_derive = each; first_found = tt; second_found = found; first_count = refl; second_count = count_is known es right each }
parts_of names known End (x ∷ left) right found none = absurd (cc none)
parts_of names known (More e es) (x ∷ left) right (of-e, all) (s, others, parts, d, each) =
    let same : x ≡ s = head_is x s (left ++ right) others parts in
    let each-at : DeriveEach es known 2 (left ++ right) = rw (sym (tail_is x s (left ++ right) others parts)) at each in
    let tail = parts_of names known es left right all each-at in
    let first : DeriveEach (More e tail.first) known 2 (x ∷ left) = (s, left, rw same refl, d, tail.first_derive) in
    record {
      first = More e tail.first;
      second = tail.second;
      whole = ap (More e) tail.whole;
      first_derive = first;
      second_derive = tail.second_derive;
      first_found = (of-e, tail.first_found);
      second_found = tail.second_found;
      first_count = let h = tail.first_count in omega arith;
      second_count = tail.second_count;
    }

heights_both : (xs ys : Trees) → heights_of (both xs ys) ≡ heights_of xs ++ heights_of ys
heights_both End ys = refl
heights_both (More e xs) ys = ap (λ (hs : List ℕ). height_of e ∷ hs) (heights_both xs ys)

length_append : (xs ys : List ℕ) → length (xs ++ ys) ≡ length xs + length ys
length_append [] ys = omega arith
length_append (x ∷ xs) ys = let h = length_append xs ys in omega arith

-- ---- what stands behind stars

sign_no_star : {sign : Punctuator} {ts rest : List Terminal} → IsSign sign ts rest → is_star (symbol.Punctuator sign) ≡ false → NoStar ts
sign_no_star is off = record { star = rw is.symbol off; qualifier = rw is.symbol refl }

arrays_no_star : (bs : List Brackets) (spans : List Span) (ts rest last : List Terminal) → Arrays bs spans ts rest → IsSign p.RightParenthesis rest last → NoStar ts
arrays_no_star [] spans ts rest last (none, same) shut = let here : IsSign p.RightParenthesis ts last = rw same at shut in sign_no_star here refl
arrays_no_star (b ∷ bs) spans ts rest last (own, others, parts, a, is, more) shut = sign_no_star is.opens refl

arrays_no_parenthesis : (bs : List Brackets) (spans : List Span) (ts rest last : List Terminal) → Arrays bs spans ts rest → IsSign p.RightParenthesis rest last → is_left_parenthesis (first_symbol ts) ≡ false
arrays_no_parenthesis [] spans ts rest last (none, same) shut = let here : IsSign p.RightParenthesis ts last = rw same at shut in rw here.symbol refl
arrays_no_parenthesis (b ∷ bs) spans ts rest last (own, others, parts, a, is, more) shut = rw is.opens.symbol refl

-- ---- declarators

abbrev pub gathered_layers : List LayerView → LayerView → Trees → List Terminal → GotLayers
gathered_layers inner layer es rest = record { layers = layer ∷ inner; lengths = es; height = layers_height inner layer (heights_of es); rest = rest }

abbrev pub IsDeclaratorRead : List (List ℕ) → List LayerView → LayerView → Type 0
IsDeclaratorRead known inner layer =
    (b : ℕ) (es : Trees) (spans : List Span) (ts rest last : List Terminal) → AllFound (names_of known) known es → DeriveEach es known 2 spans → Layers inner layer spans ts rest → IsSign p.RightParenthesis rest last →
    layers_height inner layer (heights_of es) ≤ b → declarator b (inside (names_of known) known b) ts ≡ Some (gathered_layers inner layer es rest)

height_alone : (b : ℕ) (layer : LayerView) (lone : Bool) (parts : ℕ) → is_lone_star layer ≡ lone → cond lone 0 (parts + 1) ≤ b → layer_height b [] layer (max 0 parts) ≡ Some (cond lone 0 (parts + 1))
height_alone b layer true parts is small = rw is refl
height_alone b layer false parts is small = let fits = below (max 0 parts) b (omega arith) in let same : max 0 parts ≡ parts = omega arith in rw (is, fits, same) refl

-- a lone star has no brackets
lone_fits : (qs : List ℕ) (bs : List Brackets) (es : Trees) (b : ℕ) → is_lone_star (record { stars = qs; arrays = bs }) ≡ true → Fits bs es b
lone_fits qs [] es b is = tt
lone_fits qs (x ∷ bs) es b is = absurd (grind arith)

alone_fits : (layer : LayerView) (es : Trees) (b : ℕ) (lone : Bool) → is_lone_star layer ≡ lone → cond lone 0 (greatest (heights_of es) + 1) ≤ b → Fits layer.arrays es b
alone_fits layer es b true is small = lone_fits layer.stars layer.arrays es b is
alone_fits layer es b false is small = fits_all layer.arrays es b (omega arith)

stars_read : (layer : LayerView) (ts a : List Terminal) → Stars layer.stars ts a → NoStar a → stars (length ts) ts ≡ record { stars = layer.stars; rest = a }
stars_read layer ts a all stop = let few = stars_few layer.stars ts a all in stars_are layer.stars (length ts) ts a all stop (omega arith)

no_bracket_end : {ts rest : List Terminal} → IsSign p.RightParenthesis ts rest → is_left_bracket (first_symbol ts) ≡ false
no_bracket_end is = rw is.symbol refl

-- the declarators of the readers inside
pub declarator_inside : (known : List (List ℕ)) (inner : List LayerView) (layer : LayerView) → IsDeclaratorRead known inner layer → (b : ℕ) (es : Trees) (spans : List Span) (ts rest last : List Terminal) → AllFound (names_of known) known es → DeriveEach es known 2 spans → Layers inner layer spans ts rest → IsSign p.RightParenthesis rest last →
    layers_height inner layer (heights_of es) < b → (inside (names_of known) known b).declarator ts ≡ Some (gathered_layers inner layer es rest)
declarator_inside known inner layer reads zero es spans ts rest last found each all shut small = absurd (omega arith)
declarator_inside known inner layer reads (suc zero) es spans ts rest last found each all shut small = reads zero es spans ts rest last found each all shut (omega arith)
declarator_inside known inner layer reads (suc (suc b)) es spans ts rest last found each all shut small = reads (suc b) es spans ts rest last found each all shut (omega arith)

innermost_read : (known : List (List ℕ)) (layer : LayerView) → IsDeclaratorRead known [] layer
innermost_read known layer b es spans ts rest last found each (some, a, all, own) shut small =
    let one = stars_read layer ts a all (arrays_no_star layer.arrays spans a rest last own shut) in
    let off = arrays_no_parenthesis layer.arrays spans a rest last own shut in
    let shrink = all_shrink es known 2 spans each in
    let few = arrays_few layer.arrays spans a rest shrink own in
    let two = arrays_are (names_of known) known b layer.arrays es spans (length a) a rest found each own (no_bracket_end shut) (alone_fits layer es b (is_lone_star layer) refl small) (omega arith) in
    let high = height_alone b layer (is_lone_star layer) (greatest (heights_of es)) refl small in
    rw (one, off, two, some, high) refl

-- heights in two parts
abbrev pub parted : List LayerView → LayerView → List ℕ → List ℕ → ℕ
parted inner next within own = max (layers_height inner next within) (greatest own) + 1

height_parts : (inner : List LayerView) (next layer : LayerView) (xs ys : List ℕ) → length ys ≡ length_count layer.arrays → layers_height (next ∷ inner) layer (xs ++ ys) ≡ parted inner next xs ys
height_parts inner next layer xs ys counted =
    let whole = length_append xs ys in
    let within : length (xs ++ ys) - length_count layer.arrays ≡ length xs = omega arith in
    let left = take-append_seam xs ys in
    let right = drop-append_seam xs ys in
    rw (within, left, right) refl

outer_read : (known : List (List ℕ)) (inner : List LayerView) (next layer : LayerView) → IsDeclaratorRead known inner next → IsDeclaratorRead known (next ∷ inner) layer
outer_read known inner next layer reads b es spans ts rest last found each (within, own, parts, a, c, d, e, all, opens, inner-is, shut-inner, arrays) shut small =
    let parts-at : DeriveEach es known 2 (within ++ own) = rw parts at each in
    let two = parts_of (names_of known) known es within own found parts-at in
    let counted : length (heights_of two.second) ≡ length_count layer.arrays = two.second_count ∙ lengths_counted layer.arrays own e rest arrays in
    let heights : heights_of es ≡ heights_of two.first ++ heights_of two.second = ap heights_of two.whole ∙ heights_both two.first two.second in
    let height : layers_height (next ∷ inner) layer (heights_of es) ≡ parted inner next (heights_of two.first) (heights_of two.second) = ap (layers_height (next ∷ inner) layer) heights ∙ height_parts inner next layer (heights_of two.first) (heights_of two.second) counted in
    let one = stars_read layer ts a all (sign_no_star opens refl) in
    let inner-at : Layers inner next within (behind_first a) d = rw opens.behind at inner-is in
    let nested-is = declarator_inside known inner next reads b two.first within (behind_first a) d e two.first_found two.first_derive inner-at shut-inner (omega arith) in
    let shrink = all_shrink two.second known 2 own two.second_derive in
    let few = arrays_few layer.arrays own e rest shrink arrays in
    let fits : Fits layer.arrays two.second b = fits_all layer.arrays two.second b (omega arith) in
    let arrays-at : Arrays layer.arrays own (behind_first d) rest = rw shut-inner.behind at arrays in
    let few-at : length layer.arrays + length rest ≤ length (behind_first d) = rw shut-inner.behind at few in
    let three = arrays_are (names_of known) known b layer.arrays two.second own (length (behind_first d)) (behind_first d) rest two.second_found two.second_derive arrays-at (no_bracket_end shut) fits (omega arith) in
    let room = below (max (layers_height inner next (heights_of two.first)) (greatest (heights_of two.second))) b (omega arith) in
    let made : declarator b (inside (names_of known) known b) ts ≡ Some (record { layers = layer ∷ (next ∷ inner); lengths = both two.first two.second; height = parted inner next (heights_of two.first) (heights_of two.second); rest = rest }) =
    rw (one, opens.symbol, nested-is, shut-inner.symbol, three, room) refl in
    made ∙ (λ j. Some (record { layers = layer ∷ (next ∷ inner); lengths = sym two.whole j; height = sym height j; rest = rest }))

pub declarators_read : (known : List (List ℕ)) (inner : List LayerView) (layer : LayerView) → IsDeclaratorRead known inner layer
declarators_read known [] layer = innermost_read known layer
declarators_read known (next ∷ inner) layer = outer_read known inner next layer (declarators_read known inner next)
