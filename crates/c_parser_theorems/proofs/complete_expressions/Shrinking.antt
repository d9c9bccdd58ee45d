-- What is left behind an expression is no longer than what was there.
use Rattle.std.proofs.Common.{◌≡◌, ℕ, zero, suc, ◌+◌, ◌≤◌, Bool, true, false, List, [], ◌∷◌, ◌++◌, length, arith}
use Rattle.c_layout.specs.SyntaxTrees.{Tree, Trees, LayerView, TypeNameView, Name, Number, Literal, Paren, Subscript, Call, Member, Arrow, Postfix, Prefix, Unary, SizeofExpr, SizeofType, Cast, Binary, Logical, Conditional, Assign, Comma, End, More}
use Rattle.c_layout.specs.declared.syntax_tree.expressions.Brackets.{Brackets}
use Rattle.c_layout.specs.declared.syntax_tree.expressions.TypeNameWord.{TypeNameWord}
use Rattle.c_layout.specs.declared.syntax_tree.expressions.TypeNameWord.TheVariants as word
use Rattle.c_parser_tokens.specs.declared.terminals.Terminal.{Terminal}
use Rattle.c_parser_tokens.specs.declared.terminals.Punctuator.{Punctuator}
use Rattle.c_parser_expression_grammar.specs.Expressions.{Derives, DeriveEach}
use Rattle.c_parser_expression_grammar.specs.Fronts.{behind_first, IsSign}
use Rattle.c_parser_expression_grammar.specs.Spans.{Span, Separated, Chain}
use Rattle.c_parser_expression_grammar.specs.TypeNames.{Qualifiers, IsStar, Length, Arrays, Layers, Declarator, IsTypeName, IsTypeNameWord}

abbrev pub IsNoLonger : List Terminal → List Terminal → Type 0
IsNoLonger rest ts = length rest ≤ length ts

front_shrinks : (ts : List Terminal) → IsNoLonger (behind_first ts) ts
front_shrinks [] = omega arith
front_shrinks (t ∷ ts) = omega arith

behind_shrinks : (ts rest : List Terminal) → rest ≡ behind_first ts → IsNoLonger rest ts
behind_shrinks ts rest is = let h = front_shrinks ts in rw is h

sign_shrinks : {sign : Punctuator} {ts rest : List Terminal} → IsSign sign ts rest → IsNoLonger rest ts
sign_shrinks {sign} {ts} {rest} is = behind_shrinks ts rest is.behind

-- a sign takes one terminal
pub length_behind : {sign : Punctuator} (ts rest : List Terminal) → IsSign sign ts rest → length rest + 1 ≡ length ts
length_behind [] rest is = absurd (cc is.symbol)
length_behind (t ∷ ts) rest is = rw is.behind (omega arith)

abbrev pub AllShrink : List Span → Type 0
AllShrink [] = Unit {0}
AllShrink (s ∷ more) = IsNoLonger s.to s.from × AllShrink more

pub shrink_left : (xs ys : List Span) → AllShrink (xs ++ ys) → AllShrink xs
shrink_left [] ys all = tt
shrink_left (x ∷ xs) ys (one, more) = (one, shrink_left xs ys more)

pub shrink_right : (xs ys : List Span) → AllShrink (xs ++ ys) → AllShrink ys
shrink_right [] ys all = all
shrink_right (x ∷ xs) ys (one, more) = shrink_right xs ys more

-- ---- lists

pub separated_count : (spans : List Span) (ts rest : List Terminal) → AllShrink spans → Separated spans ts rest → length spans + length rest ≤ length ts + 1
separated_count [] ts rest all sep = let same : rest ≡ ts = sep in rw same (omega arith)
separated_count (s ∷ []) ts rest all sep =
    let one = all.0 in
    let from : ts ≡ s.from = sep.0 in
    let to : rest ≡ s.to = sep.1 in
    rw (from, to) (omega arith)
separated_count (s ∷ (next ∷ more)) ts rest all sep =
    let one = all.0 in
    let tail = separated_count (next ∷ more) sep.0 rest all.1 sep.3 in
    let comma = length_behind s.to sep.0 sep.2 in
    let from : ts ≡ s.from = sep.1 in
    rw from (omega arith)

-- ---- type names

pub word_shrinks : (known : List (List ℕ)) (w : TypeNameWord) (ts rest : List Terminal) → IsTypeNameWord known w ts rest → IsNoLonger rest ts
word_shrinks known (word.Storage at class) ts rest (place, w, is, front) = behind_shrinks ts rest front.behind
word_shrinks known (word.Qualifier at) ts rest (place, w, is, front) = behind_shrinks ts rest front.behind
word_shrinks known (word.Type at named) ts rest (place, w, is, front) = behind_shrinks ts rest front.behind
word_shrinks known (word.Struct at tag) ts rest (place, a, front, name) = let one = behind_shrinks ts a front.behind in let two = behind_shrinks a rest name.behind in omega arith
word_shrinks known (word.Enum at tag) ts rest (place, a, front, name) = let one = behind_shrinks ts a front.behind in let two = behind_shrinks a rest name.behind in omega arith
word_shrinks known (word.Typedef name) ts rest is = behind_shrinks ts rest is.behind

chain_shrinks : {X : Type 0} (Item : X → List Terminal → List Terminal → Type 0) → ((x : X) (ts rest : List Terminal) → Item x ts rest → IsNoLonger rest ts) → (xs : List X) (ts rest : List Terminal) → Chain Item xs ts rest → IsNoLonger rest ts
chain_shrinks Item each [] ts rest same = let is : rest ≡ ts = same in rw is (omega arith)
chain_shrinks Item each (x ∷ xs) ts rest (a, one, more) = let first = each x ts a one in let others = chain_shrinks Item each xs a rest more in omega arith

qualifiers_shrink : (n : ℕ) (ts rest : List Terminal) → Qualifiers n ts rest → IsNoLonger rest ts
qualifiers_shrink zero ts rest same = let is : rest ≡ ts = same in rw is (omega arith)
qualifiers_shrink (suc n) ts rest (is, more) = let one = front_shrinks ts in let others = qualifiers_shrink n (behind_first ts) rest more in omega arith

star_shrinks : (n : ℕ) (ts rest : List Terminal) → IsStar n ts rest → IsNoLonger rest ts
star_shrinks n ts rest is = let one = sign_shrinks is.star in let others = qualifiers_shrink n is.behind rest is.qualified in omega arith

length_shrinks : (filled : Bool) (spans : List Span) (ts rest : List Terminal) → AllShrink spans → Length filled spans ts rest → IsNoLonger rest ts
length_shrinks false spans ts rest all (none, same) = rw same (omega arith)
length_shrinks true spans ts rest all one = let here : AllShrink (record { from = ts; to = rest } ∷ []) = rw one at all in here.0

arrays_shrink : (pairs : List Brackets) (spans : List Span) (ts rest : List Terminal) → AllShrink spans → Arrays pairs spans ts rest → IsNoLonger rest ts
arrays_shrink [] spans ts rest all (none, same) = rw same (omega arith)
arrays_shrink (pair ∷ pairs) spans ts rest all (own, others, parts, a, is, more) =
    let both : AllShrink (own ++ others) = rw parts at all in
    let opens = sign_shrinks is.opens in
    let inside = length_shrinks pair.has_length own is.inside is.last (shrink_left own others both) is.length in
    let closes = sign_shrinks is.closes in
    let tail = arrays_shrink pairs others a rest (shrink_right own others both) more in
    omega arith

layers_shrink : (inner : List LayerView) (layer : LayerView) (spans : List Span) (ts rest : List Terminal) → AllShrink spans → Layers inner layer spans ts rest → IsNoLonger rest ts
layers_shrink [] layer spans ts rest all (some, a, stars, arrays) =
    let one = chain_shrinks IsStar star_shrinks layer.stars ts a stars in
    let two = arrays_shrink layer.arrays spans a rest all arrays in
    omega arith
layers_shrink (next ∷ inner) layer spans ts rest all (within, own, parts, a, b, c, d, stars, opens, inside, shut, arrays) =
    let both : AllShrink (within ++ own) = rw parts at all in
    let one = chain_shrinks IsStar star_shrinks layer.stars ts a stars in
    let two = sign_shrinks opens in
    let three = layers_shrink inner next within b c (shrink_left within own both) inside in
    let four = sign_shrinks shut in
    let five = arrays_shrink layer.arrays own d rest (shrink_right within own both) arrays in
    omega arith

declarator_shrinks : (layers : List LayerView) (spans : List Span) (ts rest : List Terminal) → AllShrink spans → Declarator layers spans ts rest → IsNoLonger rest ts
declarator_shrinks [] spans ts rest all (none, same) = rw same (omega arith)
declarator_shrinks (layer ∷ inner) spans ts rest all layers = layers_shrink inner layer spans ts rest all layers

pub name_shrinks : (known : List (List ℕ)) (n : TypeNameView) (spans : List Span) (ts rest : List Terminal) → AllShrink spans → IsTypeName known n spans ts rest → IsNoLonger rest ts
name_shrinks known n spans ts rest all is =
    let words = chain_shrinks (IsTypeNameWord known) (word_shrinks known) n.words ts is.behind is.words in
    let declarator = declarator_shrinks n.layers spans is.behind rest all is.declarator in
    omega arith

-- ---- expressions

mutual
  pub shrinks : (e : Tree) (known : List (List ℕ)) (l : ℕ) (ts rest : List Terminal) → Derives e known l ts rest → IsNoLonger rest ts
  shrinks (Name at text) known l ts rest is = behind_shrinks ts rest is.behind
  shrinks (Number at value) known l ts rest is = behind_shrinks ts rest is.behind
  shrinks (Literal at bytes) known l ts rest is = behind_shrinks ts rest is.behind
  shrinks (Paren at e) known l ts rest (place, a, b, opens, inner, shut) =
      let one = sign_shrinks opens in let two = shrinks e known 0 a b inner in let three = sign_shrinks shut in omega arith
  shrinks (Subscript at e i) known l ts rest (level, a, b, c, place, left, opens, inner, shut) =
      let one = shrinks e known 15 ts a left in let two = sign_shrinks opens in let three = shrinks i known 0 b c inner in let four = sign_shrinks shut in omega arith
  shrinks (Call at name es) known l ts rest (level, spans, a, b, c, is, opens, each, sep, shut) =
      let one = behind_shrinks ts a is.behind in
      let two = length_behind a b opens in
      let three = separated_count spans b c (all_shrink es known 1 spans each) sep in
      let four = sign_shrinks shut in
      omega arith
  shrinks (Member at e name) known l ts rest (level, a, b, place, left, dot, is) = let one = shrinks e known 15 ts a left in let two = sign_shrinks dot in let three = behind_shrinks b rest is.behind in omega arith
  shrinks (Arrow at e name) known l ts rest (level, a, b, place, left, arrow, is) = let one = shrinks e known 15 ts a left in let two = sign_shrinks arrow in let three = behind_shrinks b rest is.behind in omega arith
  shrinks (Postfix at op e) known l ts rest (level, a, place, left, sign) = let one = shrinks e known 15 ts a left in let two = sign_shrinks sign in omega arith
  shrinks (Prefix at op e) known l ts rest (level, a, place, sign, inner) = let one = sign_shrinks sign in let two = shrinks e known 14 a rest inner in omega arith
  shrinks (Unary at op e) known l ts rest (level, a, place, sign, inner) = let one = sign_shrinks sign in let two = shrinks e known 13 a rest inner in omega arith
  shrinks (SizeofExpr at e) known l ts rest (level, a, place, front, inner) = let one = behind_shrinks ts a front.behind in let two = shrinks e known 14 a rest inner in omega arith
  shrinks (SizeofType at name es) known l ts rest (level, spans, a, b, c, place, front, opens, each, is, shut) =
      let one = behind_shrinks ts a front.behind in
      let two = sign_shrinks opens in
      let three = name_shrinks known name spans b c (all_shrink es known 2 spans each) is in
      let four = sign_shrinks shut in
      omega arith
  shrinks (Cast at name es e) known l ts rest (level, spans, a, b, c, place, opens, each, is, shut, inner) =
      let one = sign_shrinks opens in
      let two = name_shrinks known name spans a b (all_shrink es known 2 spans each) is in
      let three = sign_shrinks shut in
      let four = shrinks e known 13 c rest inner in
      omega arith
  shrinks (Binary at op x y) known l ts rest (level, a, b, place, left, sign, right) = let one = shrinks x known _ ts a left in let two = sign_shrinks sign in let three = shrinks y known _ b rest right in omega arith
  shrinks (Logical at op x y) known l ts rest (level, a, b, place, left, sign, right) = let one = shrinks x known _ ts a left in let two = sign_shrinks sign in let three = shrinks y known _ b rest right in omega arith
  shrinks (Conditional at x y z) known l ts rest (level, a, b, c, d, place, left, question, middle, colon, right) =
      let one = shrinks x known 3 ts a left in let two = sign_shrinks question in let three = shrinks y known 0 b c middle in let four = sign_shrinks colon in let five = shrinks z known 2 d rest right in omega arith
  shrinks (Assign at op x y) known l ts rest (level, sign, sign-is, a, b, place, left, is, right) = let one = shrinks x known 14 ts a left in let two = sign_shrinks is in let three = shrinks y known 1 b rest right in omega arith
  shrinks (Comma at x y) known l ts rest (level, a, b, place, left, comma, right) = let one = shrinks x known 0 ts a left in let two = sign_shrinks comma in let three = shrinks y known 1 b rest right in omega arith

  pub all_shrink : (es : Trees) (known : List (List ℕ)) (l : ℕ) (spans : List Span) → DeriveEach es known l spans → AllShrink spans
  all_shrink End known l spans none = rw none tt
  all_shrink (More e more) known l spans (s, others, parts, d, each) = rw parts (shrinks e known l s.from s.to d, all_shrink more known l others each)
