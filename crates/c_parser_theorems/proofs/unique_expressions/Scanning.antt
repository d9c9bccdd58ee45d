-- Reading what begins with its own sign: stars, brackets, and layers of an abstract declarator. The numbers
-- bound how often a loop turns.
use Rattle.std.proofs.Common.{◌≡◌, ℕ, zero, suc, ◌+◌, ◌≤◌, Bool, true, false, cond, List, [], ◌∷◌, ◌++◌, length, Option, Some, None, refl, ap, ◌∙◌, arith}
use Rattle.c_layout.specs.SyntaxTrees.{LayerView}
use Rattle.c_layout.specs.declared.syntax_tree.expressions.Brackets.{Brackets}
use Rattle.c_parser_tokens.specs.declared.terminals.Terminal.{Terminal}
use Rattle.c_parser_tokens.specs.declared.terminals.Symbol.{Symbol}
use Rattle.c_parser_tokens.specs.declared.terminals.Symbol.TheVariants as symbol
use Rattle.c_parser_tokens.specs.declared.terminals.Punctuator.{Punctuator}
use Rattle.c_parser_tokens.specs.declared.terminals.Punctuator.TheVariants as p
use Rattle.c_parser_expression_grammar.specs.Fronts.{first_symbol, first_place, behind_first, IsSign}
use Rattle.c_parser_expression_grammar.specs.Spans.{Span}
use Rattle.c_parser_expression_grammar.specs.TypeNames.{is_pointer_qualifier, Qualifiers, Stars, Length, IsBrackets, Arrays, is_something, Layers, Declarator}

-- ---- signs

abbrev pub is_star : Symbol → Bool
is_star (symbol.Punctuator p.Star) = true
is_star _ = false

abbrev pub is_left_parenthesis : Symbol → Bool
is_left_parenthesis (symbol.Punctuator p.LeftParenthesis) = true
is_left_parenthesis _ = false

abbrev pub is_left_bracket : Symbol → Bool
is_left_bracket (symbol.Punctuator p.LeftBracket) = true
is_left_bracket _ = false

abbrev pub is_right_parenthesis : Symbol → Bool
is_right_parenthesis (symbol.Punctuator p.RightParenthesis) = true
is_right_parenthesis _ = false

-- no star and no qualifier of one
pub record NoStar (ts : List Terminal) : Type 0 where
  pub star : is_star (first_symbol ts) ≡ false
  pub qualifier : is_pointer_qualifier (first_symbol ts) ≡ false

pub no_star : {ts : List Terminal} {s : Punctuator} → first_symbol ts ≡ symbol.Punctuator s → is_star (symbol.Punctuator s) ≡ false → NoStar ts
no_star {ts} {s} at other = record { star = rw at other; qualifier = rw at refl }

-- ---- stars

abbrev one_more : ℕ × List Terminal → ℕ × List Terminal
one_more r = (suc r.0, r.1)

abbrev pub qualifiers : ℕ → List Terminal → ℕ × List Terminal
qualifiers zero ts = (zero, ts)
qualifiers (suc k) ts = cond (is_pointer_qualifier (first_symbol ts)) (one_more (qualifiers k (behind_first ts))) (zero, ts)

pub qualifiers_are : (q k : ℕ) (ts rest : List Terminal) → Qualifiers q ts rest → is_pointer_qualifier (first_symbol rest) ≡ false → q ≤ k → qualifiers k ts ≡ (q, rest)
qualifiers_are zero zero ts rest all stop enough = rw all
qualifiers_are zero (suc k) ts rest all stop enough = let here : is_pointer_qualifier (first_symbol ts) ≡ false = rw all at stop in rw (here, all)
qualifiers_are (suc q) zero ts rest all stop enough = absurd (omega arith)
qualifiers_are (suc q) (suc k) ts rest (one, all) stop enough =
    let more : qualifiers k (behind_first ts) ≡ (q, rest) = qualifiers_are q k (behind_first ts) rest all stop (omega arith) in rw (one, more)

abbrev starred : ℕ × List Terminal → (List Terminal → List ℕ × List Terminal) → List ℕ × List Terminal
starred r more = (r.0 ∷ (more r.1).0, (more r.1).1)

abbrev pub stars : ℕ → List Terminal → List ℕ × List Terminal
stars zero ts = ([], ts)
stars (suc k) ts = cond (is_star (first_symbol ts)) (starred (qualifiers k (behind_first ts)) (stars k)) ([], ts)

abbrev pub star_weight : List ℕ → ℕ
star_weight [] = 0
star_weight (q ∷ qs) = suc (q + star_weight qs)

behind_stars : (qs : List ℕ) (ts rest : List Terminal) → Stars qs ts rest → NoStar rest → is_pointer_qualifier (first_symbol ts) ≡ false
behind_stars [] ts rest all stop = rw all at stop.qualifier
behind_stars (q ∷ qs) ts rest (a, star, all) stop = rw star.star.symbol refl

pub stars_are : (qs : List ℕ) (k : ℕ) (ts rest : List Terminal) → Stars qs ts rest → NoStar rest → star_weight qs ≤ k → stars k ts ≡ (qs, rest)
stars_are [] zero ts rest all stop enough = rw all
stars_are [] (suc k) ts rest all stop enough = let here : is_star (first_symbol ts) ≡ false = rw all at stop.star in rw (here, all)
stars_are (q ∷ qs) zero ts rest all stop enough = absurd (omega arith)
stars_are (q ∷ qs) (suc k) ts rest (a, star, all) stop enough =
    let next : is_pointer_qualifier (first_symbol a) ≡ false = behind_stars qs a rest all stop in
    let from : Qualifiers q (behind_first ts) a = rw star.star.behind at star.qualified in
    let one : qualifiers k (behind_first ts) ≡ (q, a) = qualifiers_are q k (behind_first ts) a from next (omega arith) in
    let more : stars k a ≡ (qs, rest) = stars_are qs k a rest all stop (omega arith) in
    rw (star.star.symbol, one, more)

-- ---- brackets

-- skips an expression; what is in brackets may be nothing
abbrev pub Skip : Type 0
Skip = List Terminal → Option (List Terminal)

pub record Bracketed : Type 0 where
  pub pairs : List Brackets
  pub spans : List Span
  pub left : List Terminal

abbrev pair_at : List Terminal → Bool → Brackets
pair_at ts filled = record { place = first_place ts; has_length = filled }

abbrev bracketed : List Terminal → Option (List Terminal) → (List Terminal → Bracketed) → Bracketed
bracketed ts None more =
    let others = more (behind_first (behind_first ts)) in record { pairs = pair_at ts false ∷ others.pairs; spans = others.spans; left = others.left }
bracketed ts (Some last) more =
    let others = more (behind_first last) in record { pairs = pair_at ts true ∷ others.pairs; spans = record { from = behind_first ts; to = last } ∷ others.spans; left = others.left }

abbrev pub arrays : Skip → ℕ → List Terminal → Bracketed
arrays skip zero ts = record { pairs = []; spans = []; left = ts }
arrays skip (suc k) ts = cond (is_left_bracket (first_symbol ts)) (bracketed ts (skip (behind_first ts)) (arrays skip k)) (record { pairs = []; spans = []; left = ts })

-- the spans are skipped, and a `]` is not
abbrev pub Skips : Skip → Span → Type 0
Skips skip s = skip s.from ≡ Some s.to

abbrev pub StopsAtBracket : Skip → Type 0
StopsAtBracket skip = (ts : List Terminal) → first_symbol ts ≡ symbol.Punctuator p.RightBracket → skip ts ≡ None

abbrev pub AllSkipped : Skip → List Span → Type 0
AllSkipped skip [] = Unit {0}
AllSkipped skip (s ∷ more) = Skips skip s × AllSkipped skip more

pub skipped_left : (skip : Skip) (xs ys : List Span) → AllSkipped skip (xs ++ ys) → AllSkipped skip xs
skipped_left skip [] ys all = tt
skipped_left skip (x ∷ xs) ys (one, all) = (one, skipped_left skip xs ys all)

pub skipped_right : (skip : Skip) (xs ys : List Span) → AllSkipped skip (xs ++ ys) → AllSkipped skip ys
skipped_right skip [] ys all = all
skipped_right skip (x ∷ xs) ys (one, all) = skipped_right skip xs ys all

-- one pair, then the others
one_pair : (skip : Skip) (pair : Brackets) (own : List Span) (ts a : List Terminal) (more : List Terminal → Bracketed) → StopsAtBracket skip → IsBrackets pair own ts a → AllSkipped skip own →
    bracketed ts (skip (behind_first ts)) more ≡ record { pairs = pair ∷ (more a).pairs; spans = own ++ (more a).spans; left = (more a).left }
one_pair skip pair own ts a more stops is skipped = filled pair.has_length refl is.length
  where
    filled : (f : Bool) → pair.has_length ≡ f → Length f own is.inside is.last → bracketed ts (skip (behind_first ts)) more ≡ record { pairs = pair ∷ (more a).pairs; spans = own ++ (more a).spans; left = (more a).left }
    filled false f-is (none, same) =
        let inside : is.last ≡ behind_first ts = same ∙ is.opens.behind in
        let closes : first_symbol (behind_first ts) ≡ symbol.Punctuator p.RightBracket = rw inside at is.closes.symbol in
        let empty : skip (behind_first ts) ≡ None = stops (behind_first ts) closes in
        let left : a ≡ behind_first (behind_first ts) = is.closes.behind ∙ ap behind_first inside in
        let whole : pair ≡ pair_at ts false = λ i. record { place = is.place i; has_length = f-is i } in
        rw (empty, none, left, whole)
    filled true f-is own-is =
        let from : is.inside ≡ behind_first ts = is.opens.behind in
        let mine : own ≡ record { from = behind_first ts; to = is.last } ∷ [] = rw from at own-is in
        let skips : AllSkipped skip (record { from = behind_first ts; to = is.last } ∷ []) = rw mine at skipped in
        let whole : pair ≡ pair_at ts true = λ i. record { place = is.place i; has_length = f-is i } in
        let past : skip (behind_first ts) ≡ Some is.last = skips.0 in
        rw (past, mine, is.closes.behind, whole)

pub arrays_are : (skip : Skip) (pairs : List Brackets) (spans : List Span) (k : ℕ) (ts rest : List Terminal) → StopsAtBracket skip → Arrays pairs spans ts rest → AllSkipped skip spans → is_left_bracket (first_symbol rest) ≡ false → length pairs ≤ k →
    arrays skip k ts ≡ record { pairs = pairs; spans = spans; left = rest }
arrays_are skip [] spans zero ts rest stops (none, same) skipped ends enough = rw (none, same)
arrays_are skip [] spans (suc k) ts rest stops (none, same) skipped ends enough = let here : is_left_bracket (first_symbol ts) ≡ false = rw same at ends in rw (here, none, same)
arrays_are skip (pair ∷ pairs) spans zero ts rest stops all skipped ends enough = absurd (omega arith)
arrays_are skip (pair ∷ pairs) spans (suc k) ts rest stops (own, others, parts, a, is, all) skipped ends enough =
    let each : AllSkipped skip (own ++ others) = rw parts at skipped in
    let one = one_pair skip pair own ts a (arrays skip k) stops is (skipped_left skip own others each) in
    let more : arrays skip k a ≡ record { pairs = pairs; spans = others; left = rest } = arrays_are skip pairs others k a rest stops all (skipped_right skip own others each) ends (omega arith) in
    rw (is.opens.symbol, one, more, parts)

-- ---- layers

pub record Layered : Type 0 where
  pub layers : List LayerView
  pub spans : List Span
  pub left : List Terminal

abbrev innermost : List ℕ → Bracketed → Layered
innermost qs b = record { layers = record { stars = qs; arrays = b.pairs } ∷ []; spans = b.spans; left = b.left }

abbrev around : List ℕ → Layered → Bracketed → Layered
around qs inner b = record { layers = record { stars = qs; arrays = b.pairs } ∷ inner.layers; spans = inner.spans ++ b.spans; left = b.left }

abbrev enclosed : List ℕ → Layered → (List Terminal → Bracketed) → Layered
enclosed qs inner more = around qs inner (more (behind_first inner.left))

abbrev behind_the_stars : Skip → ℕ → (List Terminal → Layered) → List ℕ × List Terminal → Layered
behind_the_stars skip k inside r = cond (is_left_parenthesis (first_symbol r.1)) (enclosed r.0 (inside (behind_first r.1)) (arrays skip k)) (innermost r.0 (arrays skip k r.1))

abbrev pub layers : Skip → ℕ → List Terminal → Layered
layers skip zero ts = record { layers = []; spans = []; left = ts }
layers skip (suc k) ts = behind_the_stars skip k (layers skip k) (stars k ts)

abbrev pub layer_weight : LayerView → ℕ
layer_weight layer = star_weight layer.stars + length layer.arrays

abbrev pub layers_weight : List LayerView → LayerView → ℕ
layers_weight [] layer = suc (layer_weight layer)
layers_weight (next ∷ inner) layer = suc (layer_weight layer + layers_weight inner next)

-- behind a layer neither a star nor a bracket nor a parenthesis stands
pub record Closes (ts : List Terminal) : Type 0 where
  pub star : NoStar ts
  pub bracket : is_left_bracket (first_symbol ts) ≡ false
  pub parenthesis : is_left_parenthesis (first_symbol ts) ≡ false

pub closes : {ts rest : List Terminal} → IsSign p.RightParenthesis ts rest → Closes ts
closes sign = record { star = no_star sign.symbol refl; bracket = rw sign.symbol refl; parenthesis = rw sign.symbol refl }

before_arrays : (pairs : List Brackets) (spans : List Span) (ts rest : List Terminal) → Arrays pairs spans ts rest → Closes rest → NoStar ts
before_arrays [] spans ts rest (none, same) stop = rw same at stop.star
before_arrays (pair ∷ pairs) spans ts rest (own, others, parts, a, is, all) stop = no_star is.opens.symbol refl

no_parenthesis : (pairs : List Brackets) (spans : List Span) (ts rest : List Terminal) → Arrays pairs spans ts rest → Closes rest → is_left_parenthesis (first_symbol ts) ≡ false
no_parenthesis [] spans ts rest (none, same) stop = rw same at stop.parenthesis
no_parenthesis (pair ∷ pairs) spans ts rest (own, others, parts, a, is, all) stop = rw is.opens.symbol refl

pub layers_are : (skip : Skip) (inner : List LayerView) (layer : LayerView) (spans : List Span) (k : ℕ) (ts rest : List Terminal) → StopsAtBracket skip → Layers inner layer spans ts rest → AllSkipped skip spans → Closes rest → layers_weight inner layer ≤ k →
    layers skip k ts ≡ record { layers = layer ∷ inner; spans = spans; left = rest }
layers_are skip [] layer spans zero ts rest stops all skipped ends enough = absurd (omega arith)
layers_are skip [] layer spans (suc k) ts rest stops (some, a, star, all) skipped ends enough =
    let first : stars k ts ≡ (layer.stars, a) = stars_are layer.stars k ts a star (before_arrays layer.arrays spans a rest all ends) (omega arith) in
    let none : is_left_parenthesis (first_symbol a) ≡ false = no_parenthesis layer.arrays spans a rest all ends in
    let more : arrays skip k a ≡ record { pairs = layer.arrays; spans = spans; left = rest } = arrays_are skip layer.arrays spans k a rest stops all skipped ends.bracket (omega arith) in
    rw (first, none, more)
layers_are skip (next ∷ inner) layer spans zero ts rest stops all skipped ends enough = absurd (omega arith)
layers_are skip (next ∷ inner) layer spans (suc k) ts rest stops (within, own, parts, a, b, c, d, star, opens, inside, shut, all) skipped ends enough =
    let each : AllSkipped skip (within ++ own) = rw parts at skipped in
    let first : stars k ts ≡ (layer.stars, a) = stars_are layer.stars k ts a star (no_star opens.symbol refl) (omega arith) in
    let from : Layers inner next within (behind_first a) c = rw opens.behind at inside in
    let nested : layers skip k (behind_first a) ≡ record { layers = next ∷ inner; spans = within; left = c } = layers_are skip inner next within k (behind_first a) c stops from (skipped_left skip within own each) (closes shut) (omega arith) in
    let outer : Arrays layer.arrays own (behind_first c) rest = rw shut.behind at all in
    let more : arrays skip k (behind_first c) ≡ record { pairs = layer.arrays; spans = own; left = rest } = arrays_are skip layer.arrays own k (behind_first c) rest stops outer (skipped_right skip within own each) ends.bracket (omega arith) in
    rw (first, opens.symbol, nested, more, parts)

-- ---- abstract declarators, in front of a `)`

abbrev pub declarator : Skip → ℕ → List Terminal → Layered
declarator skip k ts = cond (is_right_parenthesis (first_symbol ts)) (record { layers = []; spans = []; left = ts }) (layers skip k ts)

abbrev pub declarator_weight : List LayerView → ℕ
declarator_weight [] = 0
declarator_weight (layer ∷ inner) = layers_weight inner layer

-- the sign at the front of an abstract declarator, or behind none
pub record Fronted (ts : List Terminal) : Type 0 where
  pub sign : Punctuator
  pub symbol : first_symbol ts ≡ symbol.Punctuator sign
  pub other : is_right_parenthesis (first_symbol ts) ≡ false

fronted : {ts : List Terminal} (s : Punctuator) → first_symbol ts ≡ symbol.Punctuator s → is_right_parenthesis (symbol.Punctuator s) ≡ false → Fronted ts
fronted s at other = record { sign = s; symbol = at; other = rw at other }

-- nothing at all stands only where a layer has neither stars nor brackets
layer_fronted : (qs : List ℕ) (pairs : List Brackets) (spans : List Span) (ts a rest : List Terminal) → is_something (record { stars = qs; arrays = pairs }) ≡ true → Stars qs ts a → Arrays pairs spans a rest → Fronted ts
layer_fronted [] [] spans ts a rest some star all = absurd (cc some)
layer_fronted [] (pair ∷ pairs) spans ts a rest some star (own, others, parts, b, is, all) = rw (← star) (fronted p.LeftBracket is.opens.symbol refl)
layer_fronted (q ∷ qs) pairs spans ts a rest some (b, star, more) all = fronted p.Star star.star.symbol refl

enclosed_fronted : (qs : List ℕ) (ts a b : List Terminal) → Stars qs ts a → IsSign p.LeftParenthesis a b → Fronted ts
enclosed_fronted [] ts a b star opens = rw (← star) (fronted p.LeftParenthesis opens.symbol refl)
enclosed_fronted (q ∷ qs) ts a b (c, star, more) opens = fronted p.Star star.star.symbol refl

layers_fronted : (inner : List LayerView) (layer : LayerView) (spans : List Span) (ts rest : List Terminal) → Layers inner layer spans ts rest → Fronted ts
layers_fronted [] layer spans ts rest (some, a, star, all) = layer_fronted layer.stars layer.arrays spans ts a rest some star all
layers_fronted (next ∷ inner) layer spans ts rest (within, own, parts, a, b, c, d, star, opens, more, shut, all) = enclosed_fronted layer.stars ts a b star opens

pub declarator_is : (skip : Skip) (shapes : List LayerView) (spans : List Span) (k : ℕ) (ts rest last : List Terminal) → StopsAtBracket skip → Declarator shapes spans ts rest → AllSkipped skip spans → IsSign p.RightParenthesis rest last → declarator_weight shapes ≤ k →
    declarator skip k ts ≡ record { layers = shapes; spans = spans; left = rest }
declarator_is skip [] spans k ts rest last stops (none, same) skipped shut enough =
    let here : first_symbol ts ≡ symbol.Punctuator p.RightParenthesis = rw same at shut.symbol in rw (here, none, same)
declarator_is skip (layer ∷ inner) spans k ts rest last stops all skipped shut enough =
    rw ((layers_fronted inner layer spans ts rest all).other) (layers_are skip inner layer spans k ts rest stops all skipped (closes shut) enough)

-- a declarator or the `)` behind none begins with a sign
pub declarator_sign : (shapes : List LayerView) (spans : List Span) (ts rest last : List Terminal) → Declarator shapes spans ts rest → IsSign p.RightParenthesis rest last → (s : Punctuator) × (first_symbol ts ≡ symbol.Punctuator s)
declarator_sign [] spans ts rest last (none, same) shut = (p.RightParenthesis, rw same at shut.symbol)
declarator_sign (layer ∷ inner) spans ts rest last all shut = let f = layers_fronted inner layer spans ts rest all in (f.sign, f.symbol)
