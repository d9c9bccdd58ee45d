-- Reading the words of a type name, and type names.
use Rattle.std.proofs.Common.{◌≡◌, ℕ, zero, suc, ◌+◌, ◌≤◌, true, cond, List, [], ◌∷◌, length, Option, Some, None, refl, arith}
use Rattle.c_layout.specs.SyntaxTrees.{TypeNameView}
use Rattle.c_layout.specs.declared.syntax_tree.declarations.Storage.{Storage}
use Rattle.c_layout.specs.declared.syntax_tree.declarations.Storage.TheVariants as storage
use Rattle.c_layout.specs.declared.syntax_tree.declarations.TypeWord.{TypeWord}
use Rattle.c_layout.specs.declared.syntax_tree.declarations.TypeWord.TheVariants as type_word
use Rattle.c_layout.specs.declared.syntax_tree.expressions.Name.{Name}
use Rattle.c_layout.specs.declared.syntax_tree.expressions.TypeNameWord.{TypeNameWord}
use Rattle.c_layout.specs.declared.syntax_tree.expressions.TypeNameWord.TheVariants as word
use Rattle.c_parser_tokens.specs.declared.terminals.Terminal.{Terminal}
use Rattle.c_parser_tokens.specs.declared.terminals.Keyword.{Keyword}
use Rattle.c_parser_tokens.specs.declared.terminals.Keyword.TheVariants as k
use Rattle.c_parser_tokens.specs.declared.terminals.Symbol.{Symbol}
use Rattle.c_parser_tokens.specs.declared.terminals.Symbol.TheVariants as symbol
use Rattle.c_parser_tokens.specs.declared.terminals.Punctuator.{Punctuator}
use Rattle.c_parser_tokens.specs.declared.terminals.Punctuator.TheVariants as p
use Rattle.c_parser_expression_grammar.specs.Fronts.{first_symbol, first_place, first_text, behind_first, is_typedef, IsSign, IsName}
use Rattle.c_parser_expression_grammar.specs.Spans.{Span, Chain}
use Rattle.c_parser_expression_grammar.specs.TypeNames.{type_word_of, storage_class, is_qualifier, IsTypeNameWord, IsTypeName, is_one_type, counts_of}
use Rattle.c_parser_theorems.proofs.unique_expressions.Scanning.{Skip, Layered, StopsAtBracket, AllSkipped, declarator, declarator_is, declarator_weight, declarator_sign}

-- ---- what a keyword is to a type name

pub data WordKind : Type 0 where
  OfStorage : (class : Storage) → WordKind
  OfQualifier : WordKind
  OfType : (named : TypeWord) → WordKind
  OfStruct : WordKind
  OfEnum : WordKind
  OfOther : WordKind

abbrev pub word_kind : Keyword → WordKind
word_kind k.Typedef = OfStorage storage.Typedef
word_kind k.Extern = OfStorage storage.Extern
word_kind k.Static = OfStorage storage.Static
word_kind k.Auto = OfStorage storage.Auto
word_kind k.Register = OfStorage storage.Register
word_kind k.Const = OfQualifier
word_kind k.Restrict = OfQualifier
word_kind k.Inline = OfQualifier
word_kind k.Void = OfType type_word.Void
word_kind k.Char = OfType type_word.Char
word_kind k.Short = OfType type_word.Short
word_kind k.Int = OfType type_word.Int
word_kind k.Long = OfType type_word.Long
word_kind k.Signed = OfType type_word.Signed
word_kind k.Unsigned = OfType type_word.Unsigned
word_kind k.Struct = OfStruct
word_kind k.Enum = OfEnum
word_kind _ = OfOther

pub storage_kind : (w : Keyword) (class : Storage) → storage_class w ≡ Some class → word_kind w ≡ OfStorage class
storage_kind k.Typedef class h = cc
storage_kind k.Extern class h = cc
storage_kind k.Static class h = cc
storage_kind k.Auto class h = cc
storage_kind k.Register class h = cc
storage_kind _ class h = cc

pub qualifier_kind : (w : Keyword) → is_qualifier w ≡ true → word_kind w ≡ OfQualifier
qualifier_kind k.Const h = refl
qualifier_kind k.Restrict h = refl
qualifier_kind k.Inline h = refl
qualifier_kind _ h = cc

pub type_kind : (w : Keyword) (named : TypeWord) → type_word_of w ≡ Some named → word_kind w ≡ OfType named
type_kind k.Void named h = cc
type_kind k.Char named h = cc
type_kind k.Short named h = cc
type_kind k.Int named h = cc
type_kind k.Long named h = cc
type_kind k.Signed named h = cc
type_kind k.Unsigned named h = cc
type_kind _ named h = cc

-- ---- words

abbrev pub name_first : List Terminal → Name
name_first ts = record { place = first_place ts; text = first_text ts }

abbrev pub word_of_kind : List Terminal → WordKind → Option (TypeNameWord × List Terminal)
word_of_kind ts (OfStorage class) = Some (word.Storage (first_place ts) class, behind_first ts)
word_of_kind ts OfQualifier = Some (word.Qualifier (first_place ts), behind_first ts)
word_of_kind ts (OfType named) = Some (word.Type (first_place ts) named, behind_first ts)
word_of_kind ts OfStruct = Some (word.Struct (first_place ts) (name_first (behind_first ts)), behind_first (behind_first ts))
word_of_kind ts OfEnum = Some (word.Enum (first_place ts) (name_first (behind_first ts)), behind_first (behind_first ts))
word_of_kind ts OfOther = None

abbrev pub word_by : List (List ℕ) → List Terminal → Symbol → Option (TypeNameWord × List Terminal)
word_by known ts (symbol.Keyword w) = word_of_kind ts (word_kind w)
word_by known ts symbol.Identifier = cond (is_typedef known (first_text ts)) (Some (word.Typedef (name_first ts), behind_first ts)) None
word_by known ts _ = None

abbrev name_is : (known : List (List ℕ)) (name : Name) (ts rest : List Terminal) → IsName known name.place name.text ts rest → name ≡ name_first ts
name_is known name ts rest is = λ i. record { place = is.place i; text = is.spelled i }

pub word_is : (known : List (List ℕ)) (w : TypeNameWord) (ts rest : List Terminal) → IsTypeNameWord known w ts rest → word_by known ts (first_symbol ts) ≡ Some (w, rest)
word_is known (word.Storage at class) ts rest (place, w, is, front) = rw (front.symbol, storage_kind w class is, front.behind, place)
word_is known (word.Qualifier at) ts rest (place, w, is, front) = rw (front.symbol, qualifier_kind w is, front.behind, place)
word_is known (word.Type at named) ts rest (place, w, is, front) = rw (front.symbol, type_kind w named is, front.behind, place)
word_is known (word.Struct at tag) ts rest (place, a, front, name) =
    let from : IsName known tag.place tag.text (behind_first ts) rest = rw front.behind at name in
    let tag-is : tag ≡ name_first (behind_first ts) = name_is known tag (behind_first ts) rest from in
    rw (front.symbol, from.behind, place, tag-is)
word_is known (word.Enum at tag) ts rest (place, a, front, name) =
    let from : IsName known tag.place tag.text (behind_first ts) rest = rw front.behind at name in
    let tag-is : tag ≡ name_first (behind_first ts) = name_is known tag (behind_first ts) rest from in
    rw (front.symbol, from.behind, place, tag-is)
word_is known (word.Typedef name) ts rest is =
    let name-is : name ≡ name_first ts = λ i. record { place = is.place i; text = is.spelled i } in
    rw (is.symbol, is.among, is.behind, name-is)

abbrev with_word : Option (TypeNameWord × List Terminal) → (List Terminal → List TypeNameWord × List Terminal) → List Terminal → List TypeNameWord × List Terminal
with_word None more ts = ([], ts)
with_word (Some r) more ts = (r.0 ∷ (more r.1).0, (more r.1).1)

abbrev pub words : List (List ℕ) → ℕ → List Terminal → List TypeNameWord × List Terminal
words known zero ts = ([], ts)
words known (suc k) ts = with_word (word_by known ts (first_symbol ts)) (words known k) ts

pub words_are : (known : List (List ℕ)) (ws : List TypeNameWord) (k : ℕ) (ts rest : List Terminal) (s : Punctuator) → Chain (IsTypeNameWord known) ws ts rest → first_symbol rest ≡ symbol.Punctuator s → length ws ≤ k → words known k ts ≡ (ws, rest)
words_are known [] zero ts rest s all stop enough = rw all
words_are known [] (suc k) ts rest s all stop enough = let here : first_symbol ts ≡ symbol.Punctuator s = rw all at stop in rw (here, all)
words_are known (w ∷ ws) zero ts rest s all stop enough = absurd (omega arith)
words_are known (w ∷ ws) (suc k) ts rest s (a, one, all) stop enough =
    rw (word_is known w ts a one, words_are known ws k a rest s all stop (omega arith))

-- ---- type names

pub record Named : Type 0 where
  pub name : TypeNameView
  pub spans : List Span
  pub left : List Terminal

abbrev named : List TypeNameWord → Layered → Named
named ws shape = record { name = record { words = ws; layers = shape.layers }; spans = shape.spans; left = shape.left }

abbrev with_words : Skip → ℕ → List TypeNameWord × List Terminal → Named
with_words skip k r = named r.0 (declarator skip k r.1)

abbrev pub type_name : List (List ℕ) → Skip → ℕ → List Terminal → Named
type_name known skip k ts = with_words skip k (words known k ts)

abbrev pub name_weight : TypeNameView → ℕ
name_weight name = length name.words + declarator_weight name.layers

pub type_name_is : (known : List (List ℕ)) (skip : Skip) (name : TypeNameView) (spans : List Span) (k : ℕ) (ts rest last : List Terminal) → StopsAtBracket skip → IsTypeName known name spans ts rest → AllSkipped skip spans → IsSign p.RightParenthesis rest last → name_weight name ≤ k →
    type_name known skip k ts ≡ record { name = name; spans = spans; left = rest }
type_name_is known skip name spans k ts rest last stops is skipped shut enough =
    let front = declarator_sign name.layers spans is.behind rest last is.declarator shut in
    let first : words known k ts ≡ (name.words, is.behind) = words_are known name.words k ts is.behind front.0 is.words front.1 (omega arith) in
    let shape : declarator skip k is.behind ≡ record { layers = name.layers; spans = spans; left = rest } = declarator_is skip name.layers spans k is.behind rest last stops is.declarator skipped shut (omega arith) in
    rw (first, shape)

-- ---- a type name begins with a word

-- a word of a type name at the front
pub record BeginsWord (known : List (List ℕ)) (ts : List Terminal) : Type 0 where
  pub word : TypeNameWord
  pub behind : List Terminal
  pub is : IsTypeNameWord known word ts behind

first_word : (known : List (List ℕ)) (ws : List TypeNameWord) (ts rest : List Terminal) → is_one_type (counts_of ws) ≡ true → Chain (IsTypeNameWord known) ws ts rest → BeginsWord known ts
first_word known [] ts rest one all = absurd (cc one)
first_word known (w ∷ ws) ts rest one (a, is, all) = record { word = w; behind = a; is = is }

pub begins_word : {known : List (List ℕ)} {name : TypeNameView} {spans : List Span} {ts rest : List Terminal} → IsTypeName known name spans ts rest → BeginsWord known ts
begins_word {known} {name} {spans} {ts} {rest} is = first_word known name.words ts is.behind is.one_type is.words
