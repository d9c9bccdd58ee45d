-- Type names (6.7.7): specifiers without bodies, and an abstract declarator. The lengths of arrays are
-- spans of terminals here; what they hold is said where expressions are.
use Rattle.std.specs.Prelude.{◌≡◌, ◌+◌, ◌-◌, ◌==◌, ℕ, zero, suc, Bool, true, false, ◌&&◌, ◌||◌, not, cond, min, max, List, [], ◌∷◌, ◌++◌, take, drop, length, fold, nat_le, Option, Some, None}
use Rattle.std.specs.List.{list_any}
use Rattle.c_layout.specs.SyntaxTrees.{LayerView, TypeNameView}
use Rattle.c_layout.specs.declared.syntax_tree.declarations.Storage.{Storage}
use Rattle.c_layout.specs.declared.syntax_tree.declarations.Storage.TheVariants as storage
use Rattle.c_layout.specs.declared.syntax_tree.declarations.TypeWord.{TypeWord}
use Rattle.c_layout.specs.declared.syntax_tree.declarations.TypeWord.TheVariants as type_word
use Rattle.c_layout.specs.declared.syntax_tree.expressions.Brackets.{Brackets}
use Rattle.c_layout.specs.declared.syntax_tree.expressions.TypeNameWord.{TypeNameWord}
use Rattle.c_layout.specs.declared.syntax_tree.expressions.TypeNameWord.TheVariants as word
use Rattle.c_parser_tokens.specs.declared.terminals.Terminal.{Terminal}
use Rattle.c_parser_tokens.specs.declared.terminals.Keyword.{Keyword}
use Rattle.c_parser_tokens.specs.declared.terminals.Keyword.TheVariants as k
use Rattle.c_parser_tokens.specs.declared.terminals.Symbol.{Symbol}
use Rattle.c_parser_tokens.specs.declared.terminals.Symbol.TheVariants as symbol
use Rattle.c_parser_tokens.specs.declared.terminals.Punctuator.TheVariants as p
use Rattle.c_parser_expression_grammar.specs.declared.specifier_words.SpecifierCounts.{SpecifierCounts}
use Rattle.c_parser_expression_grammar.specs.Fronts.{first_symbol, first_place, behind_first, IsSign, IsWord, IsName, IsTypedefName}
use Rattle.c_parser_expression_grammar.specs.Spans.{Span, Chain}

-- ---- words

-- the word of an integer type or void that a keyword is
abbrev pub type_word_of : Keyword → Option TypeWord
type_word_of k.Void = Some type_word.Void
type_word_of k.Char = Some type_word.Char
type_word_of k.Short = Some type_word.Short
type_word_of k.Int = Some type_word.Int
type_word_of k.Long = Some type_word.Long
type_word_of k.Signed = Some type_word.Signed
type_word_of k.Unsigned = Some type_word.Unsigned
type_word_of _ = None

-- the storage class that a keyword is (6.7.1)
abbrev pub storage_class : Keyword → Option Storage
storage_class k.Typedef = Some storage.Typedef
storage_class k.Extern = Some storage.Extern
storage_class k.Static = Some storage.Static
storage_class k.Auto = Some storage.Auto
storage_class k.Register = Some storage.Register
storage_class _ = None

-- the qualifiers, and `inline`
abbrev pub is_qualifier : Keyword → Bool
is_qualifier k.Const = true
is_qualifier k.Restrict = true
is_qualifier k.Inline = true
is_qualifier _ = false

-- one word of a type name
abbrev pub IsTypeNameWord : List (List ℕ) → TypeNameWord → List Terminal → List Terminal → Type 0
IsTypeNameWord known (word.Storage at class) ts rest = (at ≡ first_place ts) × (w : Keyword) × (storage_class w ≡ Some class) × IsWord w ts rest
IsTypeNameWord known (word.Qualifier at) ts rest = (at ≡ first_place ts) × (w : Keyword) × (is_qualifier w ≡ true) × IsWord w ts rest
IsTypeNameWord known (word.Type at named) ts rest = (at ≡ first_place ts) × (w : Keyword) × (type_word_of w ≡ Some named) × IsWord w ts rest
IsTypeNameWord known (word.Struct at tag) ts rest = (at ≡ first_place ts) × (a : List Terminal) × IsWord k.Struct ts a × IsName known tag.place tag.text a rest
IsTypeNameWord known (word.Enum at tag) ts rest = (at ≡ first_place ts) × (a : List Terminal) × IsWord k.Enum ts a × IsName known tag.place tag.text a rest
IsTypeNameWord known (word.Typedef name) ts rest = IsTypedefName known name.place name.text ts rest

-- ---- which lists of words name one type (6.7.2p2). Counts stop at 255, since no list with so many
-- words of a kind is in.

abbrev pub up : ℕ → ℕ
up n = min (n + 1) 255

abbrev pub no_words : SpecifierCounts
no_words = record { storages = 0; voids = 0; chars = 0; shorts = 0; ints = 0; longs = 0; signs = 0; others = 0 }

abbrev pub with_type : SpecifierCounts → TypeWord → SpecifierCounts
with_type c type_word.Void = record c { voids = up c.voids }
with_type c type_word.Char = record c { chars = up c.chars }
with_type c type_word.Short = record c { shorts = up c.shorts }
with_type c type_word.Int = record c { ints = up c.ints }
with_type c type_word.Long = record c { longs = up c.longs }
with_type c type_word.Signed = record c { signs = up c.signs }
with_type c type_word.Unsigned = record c { signs = up c.signs }

abbrev pub with_storage : SpecifierCounts → SpecifierCounts
with_storage c = record c { storages = up c.storages }

-- with a structure, an enumeration or a typedef name
abbrev pub with_other : SpecifierCounts → SpecifierCounts
with_other c = record c { others = up c.others }

-- whether the words of integer types and void name a type, in any order
abbrev pub is_word_type : SpecifierCounts → Bool
is_word_type c = nat_le c.ints 1 && (nat_le c.signs 1 && (
    (c.voids == 1 && (c.chars == 0 && (c.shorts == 0 && (c.longs == 0 && (c.ints == 0 && c.signs == 0)))))
    || ((c.voids == 0 && (c.chars == 1 && (c.shorts == 0 && (c.longs == 0 && c.ints == 0))))
    || ((c.voids == 0 && (c.chars == 0 && (c.shorts == 1 && c.longs == 0)))
    || ((c.voids == 0 && (c.chars == 0 && (c.shorts == 0 && (c.longs == 1 || c.longs == 2))))
    || (c.voids == 0 && (c.chars == 0 && (c.shorts == 0 && (c.longs == 0 && (c.ints == 1 || c.signs == 1))))))))))

abbrev pub has_no_word_type : SpecifierCounts → Bool
has_no_word_type c = c.voids == 0 && (c.chars == 0 && (c.shorts == 0 && (c.ints == 0 && (c.longs == 0 && c.signs == 0))))

-- whether there is exactly one type, and at most one storage class
abbrev pub is_one_type : SpecifierCounts → Bool
is_one_type c = nat_le c.storages 1 && ((c.others == 0 && is_word_type c) || (c.others == 1 && has_no_word_type c))

abbrev pub counted : SpecifierCounts → TypeNameWord → SpecifierCounts
counted c (word.Storage at class) = with_storage c
counted c (word.Qualifier at) = c
counted c (word.Type at named) = with_type c named
counted c (word.Struct at tag) = with_other c
counted c (word.Enum at tag) = with_other c
counted c (word.Typedef name) = with_other c

abbrev pub counts_of : List TypeNameWord → SpecifierCounts
counts_of words = fold counted no_words words

-- `struct` or `enum` with its tag is a production of its own
abbrev pub is_tagged : TypeNameWord → Bool
is_tagged (word.Struct at tag) = true
is_tagged (word.Enum at tag) = true
is_tagged _ = false

-- the height of the words: one word alone adds nothing
abbrev pub words_height : List TypeNameWord → ℕ
words_height words = cond (list_any is_tagged words) 1 0 + cond (length words == 1) 0 1

-- ---- abstract declarators

-- `const` or `restrict`
abbrev pub is_pointer_qualifier : Symbol → Bool
is_pointer_qualifier (symbol.Keyword k.Const) = true
is_pointer_qualifier (symbol.Keyword k.Restrict) = true
is_pointer_qualifier _ = false

-- so many qualifiers
abbrev pub Qualifiers : ℕ → List Terminal → List Terminal → Type 0
Qualifiers zero ts rest = rest ≡ ts
Qualifiers (suc n) ts rest = (is_pointer_qualifier (first_symbol ts) ≡ true) × Qualifiers n (behind_first ts) rest

-- a star with so many qualifiers behind it
pub record IsStar (qualifiers : ℕ) (ts rest : List Terminal) : Type 0 where
  pub behind : List Terminal
  pub star : IsSign p.Star ts behind
  pub qualified : Qualifiers qualifiers behind rest

abbrev pub Stars : List ℕ → List Terminal → List Terminal → Type 0
Stars = Chain IsStar

-- what brackets hold: one span, or nothing
abbrev pub Length : Bool → List Span → List Terminal → List Terminal → Type 0
Length false spans ts rest = (spans ≡ []) × (rest ≡ ts)
Length true spans ts rest = spans ≡ (record { from = ts; to = rest }) ∷ []

-- one pair of brackets
pub record IsBrackets (pair : Brackets) (spans : List Span) (ts rest : List Terminal) : Type 0 where
  pub inside : List Terminal
  pub last : List Terminal
  pub place : pair.place ≡ first_place ts
  pub opens : IsSign p.LeftBracket ts inside
  pub length : Length pair.has_length spans inside last
  pub closes : IsSign p.RightBracket last rest

-- pairs of brackets whose lengths are these spans
abbrev pub Arrays : List Brackets → List Span → List Terminal → List Terminal → Type 0
Arrays [] spans ts rest = (spans ≡ []) × (rest ≡ ts)
Arrays (b ∷ bs) spans ts rest = (own others : List Span) × (spans ≡ own ++ others) × (a : List Terminal) × IsBrackets b own ts a × Arrays bs others a rest

abbrev pub is_something : LayerView → Bool
is_something layer = not (length layer.stars == 0 && length layer.arrays == 0)

-- an abstract declarator: its outermost layer around the others, which stand in parentheses. The
-- lengths stand in the order of the text, those of the inner layers first.
abbrev pub Layers : List LayerView → LayerView → List Span → List Terminal → List Terminal → Type 0
Layers [] layer spans ts rest = (is_something layer ≡ true) × (a : List Terminal) × Stars layer.stars ts a × Arrays layer.arrays spans a rest
Layers (next ∷ inner) layer spans ts rest =
    (within own : List Span) × (spans ≡ within ++ own) × (a b c d : List Terminal)
    × Stars layer.stars ts a × IsSign p.LeftParenthesis a b × Layers inner next within b c × IsSign p.RightParenthesis c d × Arrays layer.arrays own d rest

-- an abstract declarator in parentheses, or nothing
abbrev pub Nested : List LayerView → List Span → List Terminal → List Terminal → Type 0
Nested [] spans ts rest = (spans ≡ []) × (rest ≡ ts)
Nested (layer ∷ inner) spans ts rest = (b c : List Terminal) × IsSign p.LeftParenthesis ts b × Layers inner layer spans b c × IsSign p.RightParenthesis c rest

-- an abstract declarator, or none
abbrev pub Declarator : List LayerView → List Span → List Terminal → List Terminal → Type 0
Declarator [] spans ts rest = (spans ≡ []) × (rest ≡ ts)
Declarator (layer ∷ inner) spans ts rest = Layers inner layer spans ts rest

-- a type name whose arrays have the lengths that stand at these spans
pub record IsTypeName (known : List (List ℕ)) (name : TypeNameView) (spans : List Span) (ts rest : List Terminal) : Type 0 where
  pub behind : List Terminal
  pub words : Chain (IsTypeNameWord known) name.words ts behind
  pub one_type : is_one_type (counts_of name.words) ≡ true
  pub declarator : Declarator name.layers spans behind rest

-- ---- heights, from those of the lengths

abbrev pub greatest : List ℕ → ℕ
greatest [] = 0
greatest (n ∷ ns) = max n (greatest ns)

abbrev pub is_one_star : List ℕ → Bool
is_one_star (qualifiers ∷ []) = qualifiers == 0
is_one_star _ = false

-- one star without qualifiers alone adds nothing
abbrev pub is_lone_star : LayerView → Bool
is_lone_star layer = length layer.arrays == 0 && is_one_star layer.stars

-- how many pairs have a length
abbrev pub length_count : List Brackets → ℕ
length_count [] = 0
length_count (pair ∷ pairs) = cond pair.has_length 1 0 + length_count pairs

abbrev pub layers_height : List LayerView → LayerView → List ℕ → ℕ
layers_height [] layer heights = cond (is_lone_star layer) 0 (greatest heights + 1)
layers_height (next ∷ inner) layer heights =
    let within = length heights - length_count layer.arrays in
    max (layers_height inner next (take within heights)) (greatest (drop within heights)) + 1

-- that of an abstract declarator in parentheses, or of none
abbrev pub nested_height : List LayerView → List ℕ → ℕ
nested_height [] heights = 0
nested_height (layer ∷ inner) heights = layers_height inner layer heights

abbrev pub declared_height : List LayerView → ℕ → List ℕ → ℕ
declared_height [] words heights = words
declared_height (layer ∷ inner) words heights = max words (layers_height inner layer heights) + 1

abbrev pub type_name_height : TypeNameView → List ℕ → ℕ
type_name_height name heights = declared_height name.layers (words_height name.words) heights
