-- Expressions at spans: each is read, since what stands behind it ends it.
use Rattle.std.proofs.Common.{◌≡◌, ℕ, zero, suc, ◌≤◌, Bool, true, false, List, [], ◌∷◌, ◌++◌, Some, None, refl, arith}
use Rattle.c_layout.specs.SyntaxTrees.{LayerView, TypeNameView, Trees, End, More}
use Rattle.c_layout.specs.declared.syntax_tree.declarations.Storage.{Storage}
use Rattle.c_layout.specs.declared.syntax_tree.declarations.TypeWord.{TypeWord}
use Rattle.c_layout.specs.declared.syntax_tree.expressions.Brackets.{Brackets}
use Rattle.c_layout.specs.declared.syntax_tree.expressions.TypeNameWord.{TypeNameWord}
use Rattle.c_layout.specs.declared.syntax_tree.expressions.TypeNameWord.TheVariants as word
use Rattle.c_parser_tokens.specs.declared.terminals.Keyword.{Keyword}
use Rattle.c_parser_tokens.specs.declared.terminals.Keyword.TheVariants as k
use Rattle.c_parser_tokens.specs.declared.terminals.Terminal.{Terminal}
use Rattle.c_parser_tokens.specs.declared.terminals.Punctuator.TheVariants as p
use Rattle.c_parser_tokens.specs.declared.terminals.Symbol.TheVariants as symbol
use Rattle.c_parser_expression_grammar.specs.Expressions.{DeriveEach}
use Rattle.c_parser_expression_grammar.specs.Fronts.{first_symbol, behind_first, IsSign}
use Rattle.c_parser_expression_grammar.specs.Spans.{Span, Separated}
use Rattle.c_parser_expression_grammar.specs.TypeNames.{type_word_of, storage_class, is_qualifier, Length, Arrays, Layers, Declarator, IsTypeName, IsTypeNameWord}
use Rattle.c_parser_theorems.specs.UniqueExpressions.Endings.{EndsBefore}
use Rattle.c_parser_theorems.proofs.unique_expressions.Scanning.{StopsAtBracket}
use Rattle.c_parser_theorems.proofs.unique_expressions.WordReading.{BeginsWord}
use Rattle.c_parser_theorems.proofs.unique_expressions.Reading.{skip_by, read}
use Rattle.c_parser_theorems.proofs.unique_expressions.Levels.{ends_at}
use Rattle.c_parser_theorems.proofs.unique_expressions.Operands.{Spined, operand, sizes, Each, count}

-- ---- what ends each

abbrev pub AllEnd : ℕ → List Span → Type 0
AllEnd l [] = Unit {0}
AllEnd l (s ∷ more) = EndsBefore l s.to × AllEnd l more

all_end_append : (l : ℕ) (xs ys : List Span) → AllEnd l xs → AllEnd l ys → AllEnd l (xs ++ ys)
all_end_append l [] ys none all = all
all_end_append l (x ∷ xs) ys (one, more) all = (one, all_end_append l xs ys more all)

pub separated_end : (spans : List Span) (ts rest : List Terminal) → Separated spans ts rest → EndsBefore 1 rest → AllEnd 1 spans
separated_end [] ts rest sep ends = tt
separated_end (s ∷ []) ts rest sep ends = (rw (sep.1) at ends, tt)
separated_end (s ∷ (next ∷ more)) ts rest sep ends = (ends_at 1 sep.2 (omega arith), separated_end (next ∷ more) sep.0 rest sep.3 ends)

length_end : (filled : Bool) (spans : List Span) (ts rest last : List Terminal) → Length filled spans ts rest → IsSign p.RightBracket rest last → AllEnd 2 spans
length_end false spans ts rest last (none, same) shut = rw none tt
length_end true spans ts rest last one shut = rw one (ends_at 2 shut (omega arith), tt)

arrays_end : (pairs : List Brackets) (spans : List Span) (ts rest : List Terminal) → Arrays pairs spans ts rest → AllEnd 2 spans
arrays_end [] spans ts rest (none, same) = rw none tt
arrays_end (pair ∷ pairs) spans ts rest (own, others, parts, a, is, all) =
    rw parts (all_end_append 2 own others (length_end pair.has_length own is.inside is.last a is.length is.closes) (arrays_end pairs others a rest all))

layers_end : (inner : List LayerView) (layer : LayerView) (spans : List Span) (ts rest : List Terminal) → Layers inner layer spans ts rest → AllEnd 2 spans
layers_end [] layer spans ts rest (some, a, star, all) = arrays_end layer.arrays spans a rest all
layers_end (next ∷ inner) layer spans ts rest (within, own, parts, a, b, c, d, star, opens, inside, shut, all) =
    rw parts (all_end_append 2 within own (layers_end inner next within b c inside) (arrays_end layer.arrays own d rest all))

declarator_end : (shapes : List LayerView) (spans : List Span) (ts rest : List Terminal) → Declarator shapes spans ts rest → AllEnd 2 spans
declarator_end [] spans ts rest (none, same) = rw none tt
declarator_end (layer ∷ inner) spans ts rest all = layers_end inner layer spans ts rest all

pub type_name_end : {known : List (List ℕ)} {name : TypeNameView} {spans : List Span} {ts rest : List Terminal} → IsTypeName known name spans ts rest → AllEnd 2 spans
type_name_end {known} {name} {spans} {ts} {rest} is = declarator_end name.layers spans is.behind rest is.declarator

-- ---- each is read

abbrev pub AllSpined : Trees → Type 0
AllSpined End = Unit {0}
AllSpined (More e more) = Spined e × AllSpined more

pub each_read : (es : Trees) → AllSpined es → (known : List (List ℕ)) (l : ℕ) (spans : List Span) → DeriveEach es known l spans → AllEnd l spans → (m : ℕ) → sizes es ≤ m → Each (read known m l) es spans
each_read End all known l spans none ends m small = none
each_read (More e more) (one, all) known l spans (s, others, parts, d, each) ends m small =
    let ends-of : AllEnd l (s ∷ others) = rw parts at ends in
    (s, others, parts, operand e one known l s.from s.to d ends-of.0 m (omega arith), each_read more all known l others each ends-of.1 m (omega arith))

pub count_small : (es : Trees) → count es ≤ sizes es
count_small End = omega arith
count_small (More e more) = let h = count_small more in omega arith

-- ---- what begins no expression

pub no_bracket : (known : List (List ℕ)) (m l : ℕ) → StopsAtBracket (skip_by (read known m l))
no_bracket known zero l ts at = refl
no_bracket known (suc m) l ts at = rw at

pub no_parenthesis : (known : List (List ℕ)) (m l : ℕ) (ts : List Terminal) → first_symbol ts ≡ symbol.Punctuator p.RightParenthesis → read known m l ts ≡ None
no_parenthesis known zero l ts at = refl
no_parenthesis known (suc m) l ts at = rw at

abbrev is_sizeof : Keyword → Bool
is_sizeof k.Sizeof = true
is_sizeof _ = false

no_keyword : (w : Keyword) → is_sizeof w ≡ false → (known : List (List ℕ)) (m l : ℕ) (ts : List Terminal) → first_symbol ts ≡ symbol.Keyword w → read known m l ts ≡ None
no_keyword w other known zero l ts at = refl
no_keyword k.Sizeof other known (suc m) l ts at = absurd (cc other)
no_keyword _ other known (suc m) l ts at = rw at

storage_other : (w : Keyword) (class : Storage) → storage_class w ≡ Some class → is_sizeof w ≡ false
storage_other k.Sizeof class is = cc
storage_other _ class is = refl

qualifier_other : (w : Keyword) → is_qualifier w ≡ true → is_sizeof w ≡ false
qualifier_other k.Sizeof is = cc
qualifier_other _ is = refl

type_other : (w : Keyword) (named : TypeWord) → type_word_of w ≡ Some named → is_sizeof w ≡ false
type_other k.Sizeof named is = cc
type_other _ named is = refl

no_word : (known : List (List ℕ)) (w : TypeNameWord) (m l : ℕ) (ts rest : List Terminal) → IsTypeNameWord known w ts rest → read known m l ts ≡ None
no_word known (word.Storage at class) m l ts rest (place, w, is, front) = no_keyword w (storage_other w class is) known m l ts front.symbol
no_word known (word.Qualifier at) m l ts rest (place, w, is, front) = no_keyword w (qualifier_other w is) known m l ts front.symbol
no_word known (word.Type at named) m l ts rest (place, w, is, front) = no_keyword w (type_other w named is) known m l ts front.symbol
no_word known (word.Struct at tag) m l ts rest (place, a, front, name) = no_keyword k.Struct refl known m l ts front.symbol
no_word known (word.Enum at tag) m l ts rest (place, a, front, name) = no_keyword k.Enum refl known m l ts front.symbol
no_word known (word.Typedef name) zero l ts rest is = refl
no_word known (word.Typedef name) (suc m) l ts rest is = rw (is.symbol, is.among)

pub no_type : (known : List (List ℕ)) (m l : ℕ) (ts : List Terminal) → BeginsWord known ts → read known m l ts ≡ None
no_type known m l ts begins = no_word known begins.word m l ts begins.behind begins.is

-- a type name in parentheses is no unary expression
pub no_cast : (known : List (List ℕ)) (m : ℕ) (ts : List Terminal) → first_symbol ts ≡ symbol.Punctuator p.LeftParenthesis → BeginsWord known (behind_first ts) → read known m 14 ts ≡ None
no_cast known zero ts opens begins = refl
no_cast known (suc m) ts opens begins = let none : read known m 0 (behind_first ts) ≡ None = no_type known m 0 (behind_first ts) begins in rw (opens, none)
