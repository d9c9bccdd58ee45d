-- Type names are read, and so every expression is found.
use Rattle.std.proofs.Common.{◌≡◌, ℕ, ◌≤◌, true, false, max, List, [], ◌∷◌, length, Some, refl, arith}
use Rattle.c_layout.specs.SyntaxTrees.{Tree, Trees, LayerView, End, More}
use Rattle.c_layout.specs.declared.syntax_tree.expressions.Brackets.{Brackets}
use Rattle.c_layout.specs.declared.syntax_tree.expressions.TypeNameWord.{TypeNameWord}
use Rattle.c_parser_tokens.specs.declared.terminals.Terminal.{Terminal}
use Rattle.c_parser_tokens.specs.declared.terminals.Punctuator.{Punctuator}
use Rattle.c_parser_tokens.specs.declared.terminals.Punctuator.TheVariants as p
use Rattle.c_parser_tokens.specs.declared.terminals.Symbol.TheVariants as symbol
use Rattle.c_parser_expression_grammar.specs.Expressions.{DeriveEach, heights_of}
use Rattle.c_parser_expression_grammar.specs.Fronts.{first_symbol, begins_specifiers, IsSign}
use Rattle.c_parser_expression_grammar.specs.Spans.{Span}
use Rattle.c_parser_expression_grammar.specs.TypeNames.{Declarator, Layers, words_height, layers_height, type_name_height, is_one_type, counts_of}
use Rattle.c_parser_theorems.proofs.unique_expressions.Levels.{below}
use Rattle.c_parser_theorems.proofs.unique_expressions.Scanning.{declarator_sign}
use Rattle.c_parser_expression_grammar.specs.ExpressionReaders.{inside}
use Rattle.c_parser_theorems.specs.CompleteExpressions.Found.{IsFound, AllFound, FindsNames}
use Rattle.c_parser_expression_grammar.specs.TypeNameReaders.{named, begins_abstract, names_of}
use Rattle.c_parser_theorems.proofs.complete_expressions.Declarators.{declarator_inside, declarators_read}
use Rattle.c_parser_theorems.proofs.complete_expressions.Expressions.{expressions_found}
use Rattle.c_parser_theorems.proofs.complete_expressions.Words.{words_are, words_few}

sign_specifies : (known : List (List ℕ)) (ts : List Terminal) (s : Punctuator) → first_symbol ts ≡ symbol.Punctuator s → begins_specifiers known ts ≡ false
sign_specifies known ts s at = rw at refl

-- an abstract declarator begins with a star, a `(` or a `[`
begins_by : (inner : List LayerView) (qs : List ℕ) (bs : List Brackets) (spans : List Span) (ts rest : List Terminal) → Layers inner (record { stars = qs; arrays = bs }) spans ts rest → begins_abstract (first_symbol ts) ≡ true
begins_by [] [] [] spans ts rest (some, a, all, own) = absurd (cc some)
begins_by [] [] (b ∷ bs) spans ts rest (some, a, all, (own, others, parts, c, is, more)) = let same : a ≡ ts = all in let opens : IsSign p.LeftBracket ts is.inside = rw same at is.opens in rw opens.symbol refl
begins_by [] (q ∷ qs) bs spans ts rest (some, a, (c, star, all), own) = rw star.star.symbol refl
begins_by (next ∷ inner) [] bs spans ts rest (within, own, parts, a, c, d, e, all, opens, inner-is, shut, arrays) = let same : a ≡ ts = all in let opens-at : IsSign p.LeftParenthesis ts c = rw same at opens in rw opens-at.symbol refl
begins_by (next ∷ inner) (q ∷ qs) bs spans ts rest (within, own, parts, a, c, d, e, (f, star, all), opens, inner-is, shut, arrays) = rw star.star.symbol refl

no_trees : (known : List (List ℕ)) (es : Trees) → DeriveEach es known 2 [] → es ≡ End
no_trees known End none = refl
no_trees known (More e es) (s, others, parts, d, each) = absurd (cc parts)

-- what is read behind the words
behind_words : (known : List (List ℕ)) (b : ℕ) (ws : List TypeNameWord) (layers : List LayerView) (es : Trees) (spans : List Span) (ts rest last : List Terminal) → AllFound (names_of known) known es → DeriveEach es known 2 spans → Declarator layers spans ts rest → IsSign p.RightParenthesis rest last → is_one_type (counts_of ws) ≡ true →
    type_name_height (record { words = ws; layers = layers }) (heights_of es) ≤ b → named b (inside (names_of known) known b) (record { words = ws; rest = ts }) ≡ Some (record { name = record { words = ws; layers = layers }; lengths = es; height = type_name_height (record { words = ws; layers = layers }) (heights_of es); rest = rest })
behind_words known b ws [] es spans ts rest last found each (none, same) shut one small =
    let empty = no_trees known es (rw none at each) in
    let shut-at : IsSign p.RightParenthesis ts last = rw same at shut in
    rw (one, shut-at.symbol, empty, same) refl
behind_words known b ws (layer ∷ inner) es spans ts rest last found each all shut one small =
    let begins = begins_by inner layer.stars layer.arrays spans ts rest all in
    let is = declarator_inside known inner layer (declarators_read known inner layer) b es spans ts rest last found each all shut (omega arith) in
    let room = below (max (words_height ws) (layers_height inner layer (heights_of es))) b (omega arith) in
    rw (one, begins, is, room) refl

pub names_found : (known : List (List ℕ)) → FindsNames (names_of known) known
names_found known b n es spans ts rest last found each is shut small =
    let sign = declarator_sign n.layers spans is.behind rest last is.declarator shut in
    let stop = sign_specifies known is.behind sign.0 sign.1 in
    let few = words_few known n.words ts is.behind is.words in
    let first = words_are known n.words (length ts) ts is.behind is.words stop few in
    let second = behind_words known b n.words n.layers es spans is.behind rest last found each is.declarator shut is.one_type small in
    rw (first) second

pub all_expressions_found : (known : List (List ℕ)) (e : Tree) → IsFound (names_of known) known e
all_expressions_found known e = expressions_found (names_of known) known (names_found known) e
