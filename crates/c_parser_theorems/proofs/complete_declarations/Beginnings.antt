-- What specifiers and members begin with, what ends specifiers, and how many terminals they take.
use Rattle.std.proofs.Common.{◌≡◌, ℕ, ◌+◌, ◌≤◌, Bool, true, false, ◌&&◌, ◌||◌, not, List, [], ◌∷◌, length, Some, refl, arith}
use Rattle.c_layout.specs.DeclarationTrees.{SpecTree, SpecTrees, MemberTree, MemberTrees, StorageWord, Qualifier, TypeOf, StructTag, StructBody, EnumTag, EnumBody, TypedefName, NoWord, MoreWords, Members, NoMember, MoreMembers}
use Rattle.c_layout.specs.declared.syntax_tree.declarations.Storage.{Storage}
use Rattle.c_layout.specs.declared.syntax_tree.declarations.TypeWord.{TypeWord}
use Rattle.c_parser_tokens.specs.declared.terminals.Keyword.{Keyword}
use Rattle.c_parser_tokens.specs.declared.terminals.Keyword.TheVariants as k
use Rattle.c_parser_tokens.specs.declared.terminals.Punctuator.TheVariants as p
use Rattle.c_parser_tokens.specs.declared.terminals.Symbol.{Symbol}
use Rattle.c_parser_tokens.specs.declared.terminals.Symbol.TheVariants as symbol
use Rattle.c_parser_tokens.specs.declared.terminals.Terminal.{Terminal}
use Rattle.c_parser_expression_grammar.specs.Fronts.{first_symbol, first_text, behind_first, begins_specifiers, begins_with, is_identifier, is_specifier, is_typedef, IsWord}
use Rattle.c_parser_expression_grammar.specs.TypeNames.{type_word_of, storage_class, is_qualifier, is_one_type}
use Rattle.c_parser_declarations.specs.Grammar.Declarations.{is_declarator_sign, begins_declarator}
use Rattle.c_parser_declarations.specs.Grammar.Specifiers.{DeriveWord, DeriveWords, DeriveMember, DeriveMembers, counts_of, IsNamed}
use Rattle.c_parser_expression_grammar.specs.Readings.{is_left_brace, is_right_brace, is_right_parenthesis}
use Rattle.c_parser_theorems.proofs.complete_expressions.Shrinking.{length_behind}
use Rattle.c_parser_theorems.specs.CompleteDeclarations.Found.{is_end, DeclaratorEnds, SpecEnds}
use Rattle.c_parser_theorems.proofs.complete_declarations.Enumerators.{tag_shrinks, enumerators_few}
use Rattle.c_parser_theorems.proofs.complete_declarations.Lists.{listed_few}
use Rattle.c_parser_theorems.proofs.complete_declarations.Named.{named_takes}

-- ---- what they begin with

-- a word stands there, and so none of these signs
pub record SpecFront (known : List (List ℕ)) (ts : List Terminal) : Type 0 where
  pub word : begins_specifiers known ts ≡ true
  pub left_brace : is_left_brace (first_symbol ts) ≡ false
  pub right_brace : is_right_brace (first_symbol ts) ≡ false
  pub right_parenthesis : is_right_parenthesis (first_symbol ts) ≡ false

keyword_front : (known : List (List ℕ)) (w : Keyword) (ts rest : List Terminal) → is_specifier w ≡ true → IsWord w ts rest → SpecFront known ts
keyword_front known w ts rest begins is = record { word = rw is.symbol begins; left_brace = rw is.symbol refl; right_brace = rw is.symbol refl; right_parenthesis = rw is.symbol refl }

class_specifies : (w : Keyword) (class : Storage) → storage_class w ≡ Some class → is_specifier w ≡ true
class_specifies k.Typedef class is = refl
class_specifies k.Extern class is = refl
class_specifies k.Static class is = refl
class_specifies k.Auto class is = refl
class_specifies k.Register class is = refl
class_specifies _ class is = absurd (cc is)

qualifier_specifies : (w : Keyword) → is_qualifier w ≡ true → is_specifier w ≡ true
qualifier_specifies k.Const is = refl
qualifier_specifies k.Restrict is = refl
qualifier_specifies k.Inline is = refl
qualifier_specifies _ is = absurd (cc is)

type_specifies : (w : Keyword) (named : TypeWord) → type_word_of w ≡ Some named → is_specifier w ≡ true
type_specifies k.Void named is = refl
type_specifies k.Char named is = refl
type_specifies k.Short named is = refl
type_specifies k.Int named is = refl
type_specifies k.Long named is = refl
type_specifies k.Signed named is = refl
type_specifies k.Unsigned named is = refl
type_specifies _ named is = absurd (cc is)

pub word_front : (known : List (List ℕ)) (w : SpecTree) (ts rest : List Terminal) → DeriveWord w known ts rest → SpecFront known ts
word_front known (StorageWord at class) ts rest (place, w, is, front) = keyword_front known w ts rest (class_specifies w class is) front
word_front known (Qualifier at) ts rest (place, w, is, front) = keyword_front known w ts rest (qualifier_specifies w is) front
word_front known (TypeOf at named) ts rest (place, w, is, front) = keyword_front known w ts rest (type_specifies w named is) front
word_front known (StructTag at tag) ts rest (place, some, a, front, name) = keyword_front known k.Struct ts a refl front
word_front known (StructBody at tag members) ts rest (place, some, a, c, d, e, front, name, opens, all, shut) = keyword_front known k.Struct ts a refl front
word_front known (EnumTag at tag) ts rest (place, some, a, front, name) = keyword_front known k.Enum ts a refl front
word_front known (EnumBody at tag enumerators) ts rest (place, a, c, d, e, front, name, opens, all, shut) = keyword_front known k.Enum ts a refl front
word_front known (TypedefName name) ts rest is = record { word = rw (is.symbol, is.among) refl; left_brace = rw is.symbol refl; right_brace = rw is.symbol refl; right_parenthesis = rw is.symbol refl }

pub spec_front : (known : List (List ℕ)) (ws : SpecTrees) (ts rest : List Terminal) → DeriveWords ws known ts rest → is_one_type (counts_of ws) ≡ true → SpecFront known ts
spec_front known NoWord ts rest all one = absurd (cc one)
spec_front known (MoreWords w ws) ts rest (a, first, all) one = word_front known w ts a first

pub member_front : (known : List (List ℕ)) (m : MemberTree) (ts rest : List Terminal) → DeriveMember m known ts rest → SpecFront known ts
member_front known (Members ws ds) ts rest (a, c, one, words, listed, semi) = spec_front known ws ts a words one

-- ---- what ends them: no word, and no `{`

declarator_word : (x : Symbol) (named : Bool) → (is_declarator_sign x || (is_identifier x && not named)) ≡ true → begins_with x (is_identifier x && named) ≡ false
declarator_word (symbol.Keyword w) named is = absurd (cc is)
declarator_word symbol.Identifier true is = absurd (cc is)
declarator_word symbol.Identifier false is = refl
declarator_word _ named is = refl

declarator_brace : (x : Symbol) (named : Bool) → (is_declarator_sign x || (is_identifier x && not named)) ≡ true → is_left_brace x ≡ false
declarator_brace (symbol.Punctuator p.LeftBrace) named is = absurd (cc is)
declarator_brace _ named is = refl

-- a declarator ends them
pub declarator_ends_words : (known : List (List ℕ)) (ts : List Terminal) → begins_declarator known ts ≡ true → SpecEnds known ts
declarator_ends_words known ts is = record { word = declarator_word (first_symbol ts) (is_typedef known (first_text ts)) is; brace = declarator_brace (first_symbol ts) (is_typedef known (first_text ts)) is }

end_word : (x : Symbol) (named : Bool) → is_end x ≡ true → begins_with x (is_identifier x && named) ≡ false
end_word (symbol.Keyword w) named is = absurd (cc is)
end_word symbol.Identifier named is = absurd (cc is)
end_word _ named is = refl

end_brace : (x : Symbol) → is_end x ≡ true → is_left_brace x ≡ false
end_brace (symbol.Punctuator p.LeftBrace) is = absurd (cc is)
end_brace _ is = refl

-- and so does what ends a declarator
pub end_ends_words : (known : List (List ℕ)) (ts : List Terminal) → DeclaratorEnds ts → SpecEnds known ts
end_ends_words known ts end = record { word = end_word (first_symbol ts) (is_typedef known (first_text ts)) end; brace = end_brace (first_symbol ts) end }

pub words_brace : (known : List (List ℕ)) (ws : SpecTrees) (ts rest : List Terminal) → DeriveWords ws known ts rest → is_left_brace (first_symbol rest) ≡ false → is_left_brace (first_symbol ts) ≡ false
words_brace known NoWord ts rest same none = let here : rest ≡ ts = same in rw here at none
words_brace known (MoreWords w ws) ts rest (a, one, more) none = (word_front known w ts a one).left_brace

-- ---- how many terminals they take

pub word_takes : {w : Keyword} (ts rest : List Terminal) → IsWord w ts rest → length rest + 1 ≡ length ts
word_takes [] rest is = absurd (cc is.symbol)
word_takes (t ∷ ts) rest is = rw is.behind (omega arith)

typedef_takes : (ts rest : List Terminal) → first_symbol ts ≡ symbol.Identifier → rest ≡ behind_first ts → length rest + 1 ≡ length ts
typedef_takes [] rest at behind = absurd (cc at)
typedef_takes (t ∷ ts) rest at behind = rw behind (omega arith)

abbrev pub word_count : SpecTrees → ℕ
word_count NoWord = 0
word_count (MoreWords w ws) = word_count ws + 1

abbrev pub member_count : MemberTrees → ℕ
member_count NoMember = 0
member_count (MoreMembers m ms) = member_count ms + 1

mutual
  pub spec_word_takes : (known : List (List ℕ)) (w : SpecTree) (ts rest : List Terminal) → DeriveWord w known ts rest → length rest + 1 ≤ length ts
  spec_word_takes known (StorageWord at class) ts rest (place, w, is, front) = let h = word_takes ts rest front in omega arith
  spec_word_takes known (Qualifier at) ts rest (place, w, is, front) = let h = word_takes ts rest front in omega arith
  spec_word_takes known (TypeOf at named) ts rest (place, w, is, front) = let h = word_takes ts rest front in omega arith
  spec_word_takes known (StructTag at tag) ts rest (place, some, a, front, name) = let h = word_takes ts a front in let t = tag_shrinks known tag a rest name in omega arith
  spec_word_takes known (StructBody at tag ms) ts rest (place, some, a, c, d, e, front, name, opens, all, shut) =
      let h = word_takes ts a front in
      let t = tag_shrinks known tag a c name in
      let o = length_behind c d opens in
      let m = members_few known ms d e all in
      let s = length_behind e rest shut in
      omega arith
  spec_word_takes known (EnumTag at tag) ts rest (place, some, a, front, name) = let h = word_takes ts a front in let t = tag_shrinks known tag a rest name in omega arith
  spec_word_takes known (EnumBody at tag es) ts rest (place, a, c, d, e, front, name, opens, all, shut) =
      let h = word_takes ts a front in
      let t = tag_shrinks known tag a c name in
      let o = length_behind c d opens in
      let m = enumerators_few known es d e all in
      let s = length_behind e rest shut in
      omega arith
  spec_word_takes known (TypedefName name) ts rest is = let h = typedef_takes ts rest is.symbol is.behind in omega arith

  pub words_few : (known : List (List ℕ)) (ws : SpecTrees) (ts rest : List Terminal) → DeriveWords ws known ts rest → word_count ws + length rest ≤ length ts
  words_few known NoWord ts rest same = let here : rest ≡ ts = same in rw here (omega arith)
  words_few known (MoreWords w ws) ts rest (a, one, all) = let h = spec_word_takes known w ts a one in let t = words_few known ws a rest all in omega arith

  pub member_takes : (known : List (List ℕ)) (m : MemberTree) (ts rest : List Terminal) → DeriveMember m known ts rest → length rest + 1 ≤ length ts
  member_takes known (Members ws ds) ts rest (a, c, one, words, listed, semi) =
      let h = words_few known ws ts a words in
      let d = listed_few (IsNamed known) (named_takes known) ds a c listed in
      let s = length_behind c rest semi in
      omega arith

  pub members_few : (known : List (List ℕ)) (ms : MemberTrees) (ts rest : List Terminal) → DeriveMembers ms known ts rest → member_count ms + length rest ≤ length ts
  members_few known NoMember ts rest same = let here : rest ≡ ts = same in rw here (omega arith)
  members_few known (MoreMembers m ms) ts rest (a, one, all) = let h = member_takes known m ts a one in let t = members_few known ms a rest all in omega arith
