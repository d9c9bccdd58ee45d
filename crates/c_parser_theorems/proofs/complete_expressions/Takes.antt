-- An expression takes a terminal at least.
use Rattle.std.proofs.Common.{◌≡◌, ℕ, ◌+◌, ◌≤◌, List, [], ◌∷◌, length, arith}
use Rattle.c_layout.specs.SyntaxTrees.{Tree, Name, Number, Literal, Paren, Subscript, Call, Member, Arrow, Postfix, Prefix, Unary, SizeofExpr, SizeofType, Cast, Binary, Logical, Conditional, Assign, Comma}
use Rattle.c_parser_tokens.specs.declared.terminals.Keyword.{Keyword}
use Rattle.c_parser_tokens.specs.declared.terminals.Terminal.{Terminal}
use Rattle.c_parser_expression_grammar.specs.Expressions.{Derives}
use Rattle.c_parser_expression_grammar.specs.Fronts.{first_symbol, behind_first, IsSign, IsWord}
use Rattle.c_parser_theorems.proofs.complete_expressions.Shrinking.{shrinks, all_shrink, name_shrinks, length_behind, separated_count}

word_takes : {word : Keyword} (ts rest : List Terminal) → IsWord word ts rest → length rest + 1 ≡ length ts
word_takes [] rest is = absurd (cc is.symbol)
word_takes (t ∷ ts) rest is = rw is.behind (omega arith)

behind_short : (ts rest : List Terminal) → rest ≡ behind_first ts → length rest ≤ length ts
behind_short [] rest is = rw is (omega arith)
behind_short (t ∷ ts) rest is = rw is (omega arith)

pub takes : (e : Tree) (known : List (List ℕ)) (l : ℕ) (ts rest : List Terminal) → Derives e known l ts rest → length rest + 1 ≤ length ts
takes (Name at text) known l [] rest is = absurd (cc is.symbol)
takes (Name at text) known l (t ∷ ts) rest is = rw is.behind (omega arith)
takes (Number at value) known l [] rest is = absurd (cc is.symbol)
takes (Number at value) known l (t ∷ ts) rest is = rw is.behind (omega arith)
takes (Literal at bytes) known l [] rest is = absurd (cc is.symbol)
takes (Literal at bytes) known l (t ∷ ts) rest is = rw is.behind (omega arith)
takes (Paren at e) known l ts rest (place, a, b, opens, inner, shut) = let one = length_behind ts a opens in let two = shrinks e known 0 a b inner in let three = length_behind b rest shut in omega arith
takes (Subscript at e i) known l ts rest (level, a, b, c, place, left, opens, inner, shut) =
    let one = shrinks e known 15 ts a left in let two = length_behind a b opens in let three = shrinks i known 0 b c inner in let four = length_behind c rest shut in omega arith
takes (Call at name es) known l ts rest (level, spans, a, b, c, is, opens, each, sep, shut) =
    let one = behind_short ts a is.behind in
    let two = length_behind a b opens in
    let three = separated_count spans b c (all_shrink es known 1 spans each) sep in
    let four = length_behind c rest shut in
    omega arith
takes (Member at e name) known l ts rest (level, a, b, place, left, dot, is) = let one = shrinks e known 15 ts a left in let two = length_behind a b dot in let three = behind_short b rest is.behind in omega arith
takes (Arrow at e name) known l ts rest (level, a, b, place, left, arrow, is) = let one = shrinks e known 15 ts a left in let two = length_behind a b arrow in let three = behind_short b rest is.behind in omega arith
takes (Postfix at op e) known l ts rest (level, a, place, left, sign) = let one = shrinks e known 15 ts a left in let two = length_behind a rest sign in omega arith
takes (Prefix at op e) known l ts rest (level, a, place, sign, inner) = let one = length_behind ts a sign in let two = shrinks e known 14 a rest inner in omega arith
takes (Unary at op e) known l ts rest (level, a, place, sign, inner) = let one = length_behind ts a sign in let two = shrinks e known 13 a rest inner in omega arith
takes (SizeofExpr at e) known l ts rest (level, a, place, front, inner) = let one = word_takes ts a front in let two = shrinks e known 14 a rest inner in omega arith
takes (SizeofType at name es) known l ts rest (level, spans, a, b, c, place, front, opens, each, is, shut) =
    let one = word_takes ts a front in
    let two = length_behind a b opens in
    let three = name_shrinks known name spans b c (all_shrink es known 2 spans each) is in
    let four = length_behind c rest shut in
    omega arith
takes (Cast at name es e) known l ts rest (level, spans, a, b, c, place, opens, each, is, shut, inner) =
    let one = length_behind ts a opens in
    let two = name_shrinks known name spans a b (all_shrink es known 2 spans each) is in
    let three = length_behind b c shut in
    let four = shrinks e known 13 c rest inner in
    omega arith
takes (Binary at op x y) known l ts rest (level, a, b, place, left, sign, right) = let one = shrinks x known _ ts a left in let two = length_behind a b sign in let three = shrinks y known _ b rest right in omega arith
takes (Logical at op x y) known l ts rest (level, a, b, place, left, sign, right) = let one = shrinks x known _ ts a left in let two = length_behind a b sign in let three = shrinks y known _ b rest right in omega arith
takes (Conditional at x y z) known l ts rest (level, a, b, c, d, place, left, question, middle, colon, right) =
    let one = shrinks x known 3 ts a left in let two = length_behind a b question in let three = shrinks y known 0 b c middle in let four = length_behind c d colon in let five = shrinks z known 2 d rest right in omega arith
takes (Assign at op x y) known l ts rest (level, sign, sign-is, a, b, place, left, is, right) = let one = shrinks x known 14 ts a left in let two = length_behind a b is in let three = shrinks y known 1 b rest right in omega arith
takes (Comma at x y) known l ts rest (level, a, b, place, left, comma, right) = let one = shrinks x known 0 ts a left in let two = length_behind a b comma in let three = shrinks y known 1 b rest right in omega arith
