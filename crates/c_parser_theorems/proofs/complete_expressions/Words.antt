-- The words of type names are read.
use Rattle.std.proofs.Common.{◌≡◌, ℕ, zero, suc, ◌+◌, ◌≤◌, true, false, List, [], ◌∷◌, length, Some, None, refl, arith}
use Rattle.c_layout.specs.declared.syntax_tree.declarations.Storage.{Storage}
use Rattle.c_layout.specs.declared.syntax_tree.expressions.Name.{Name}
use Rattle.c_layout.specs.declared.syntax_tree.expressions.TypeNameWord.{TypeNameWord}
use Rattle.c_layout.specs.declared.syntax_tree.expressions.TypeNameWord.TheVariants as word
use Rattle.c_parser_tokens.specs.declared.terminals.Keyword.{Keyword}
use Rattle.c_parser_tokens.specs.declared.terminals.Keyword.TheVariants as k
use Rattle.c_parser_tokens.specs.declared.terminals.Terminal.{Terminal}
use Rattle.c_parser_expression_grammar.specs.Fronts.{first_symbol, behind_first, begins_specifiers, is_identifier_first, is_typedef_first, IsName, IsTypedefName}
use Rattle.c_parser_expression_grammar.specs.Spans.{Chain}
use Rattle.c_parser_expression_grammar.specs.TypeNames.{type_word_of, storage_class, is_qualifier, IsTypeNameWord}
use Rattle.c_parser_expression_grammar.specs.TypeNameReaders.{name_first, word_by, words}
use Rattle.c_parser_theorems.proofs.complete_expressions.Unaries.{word_specifies}

-- ---- one word

storage_word : (w : Keyword) (class : Storage) → storage_class w ≡ Some class → type_word_of w ≡ None
storage_word k.Typedef class is = refl
storage_word k.Extern class is = refl
storage_word k.Static class is = refl
storage_word k.Auto class is = refl
storage_word k.Register class is = refl
storage_word _ class is = absurd (cc is)

qualifier_word : (w : Keyword) → is_qualifier w ≡ true → (type_word_of w ≡ None) × (storage_class w ≡ None)
qualifier_word k.Const is = (refl, refl)
qualifier_word k.Restrict is = (refl, refl)
qualifier_word k.Inline is = (refl, refl)
qualifier_word _ is = absurd (cc is)

name_is : (known : List (List ℕ)) (name : Name) (ts rest : List Terminal) → IsName known name.place name.text ts rest → name ≡ name_first ts
name_is known name ts rest is = λ i. record { place = is.place i; text = is.spelled i }

typedef_is : (known : List (List ℕ)) (name : Name) (ts rest : List Terminal) → IsTypedefName known name.place name.text ts rest → name ≡ name_first ts
typedef_is known name ts rest is = λ i. record { place = is.place i; text = is.spelled i }

identifier_first : (known : List (List ℕ)) (name : Name) (ts rest : List Terminal) → IsName known name.place name.text ts rest → is_identifier_first known ts ≡ true
identifier_first known name ts rest is = rw (is.symbol, is.other) refl

typedef_first : (known : List (List ℕ)) (name : Name) (ts rest : List Terminal) → IsTypedefName known name.place name.text ts rest → is_typedef_first known ts ≡ true
typedef_first known name ts rest is = rw (is.symbol, is.among) refl

pub word_is : (known : List (List ℕ)) (w : TypeNameWord) (ts rest : List Terminal) → IsTypeNameWord known w ts rest → word_by known ts (first_symbol ts) ≡ Some (record { word = w; rest = rest })
word_is known (word.Storage at class) ts rest (place, w, is, front) = let other = storage_word w class is in rw (front.symbol, other, is, front.behind, place) refl
word_is known (word.Qualifier at) ts rest (place, w, is, front) = let other = qualifier_word w is in rw (front.symbol, other.0, other.1, is, front.behind, place) refl
word_is known (word.Type at named) ts rest (place, w, is, front) = rw (front.symbol, is, front.behind, place) refl
word_is known (word.Struct at tag) ts rest (place, a, front, name) =
    let from : IsName known tag.place tag.text (behind_first ts) rest = rw front.behind at name in
    let first = identifier_first known tag (behind_first ts) rest from in
    let tag-is = name_is known tag (behind_first ts) rest from in
    rw (front.symbol, first, from.behind, place, tag-is) refl
word_is known (word.Enum at tag) ts rest (place, a, front, name) =
    let from : IsName known tag.place tag.text (behind_first ts) rest = rw front.behind at name in
    let first = identifier_first known tag (behind_first ts) rest from in
    let tag-is = name_is known tag (behind_first ts) rest from in
    rw (front.symbol, first, from.behind, place, tag-is) refl
word_is known (word.Typedef name) ts rest is =
    let first = typedef_first known name ts rest is in
    let here = typedef_is known name ts rest is in
    rw (is.symbol, first, is.behind, here) refl

-- ---- all of them

pub words_are : (known : List (List ℕ)) (ws : List TypeNameWord) (turns : ℕ) (ts rest : List Terminal) → Chain (IsTypeNameWord known) ws ts rest → begins_specifiers known rest ≡ false → length ws ≤ turns → words known turns ts ≡ Some (record { words = ws; rest = rest })
words_are known [] zero ts rest all stop enough = rw all refl
words_are known [] (suc turns) ts rest all stop enough = let here : begins_specifiers known ts ≡ false = rw all at stop in rw (here, all) refl
words_are known (w ∷ ws) zero ts rest all stop enough = absurd (omega arith)
words_are known (w ∷ ws) (suc turns) ts rest (a, one, all) stop enough =
    let begins = word_specifies known w ts a one in
    let is = word_is known w ts a one in
    let more = words_are known ws turns a rest all stop (omega arith) in
    rw (begins, is, more) refl

-- a word takes a terminal
takes_one : (known : List (List ℕ)) (ts : List Terminal) → begins_specifiers known ts ≡ true → length (behind_first ts) + 1 ≤ length ts
takes_one known [] is = absurd (cc is)
takes_one known (t ∷ ts) is = omega arith

word_takes : (known : List (List ℕ)) (w : TypeNameWord) (ts rest : List Terminal) → IsTypeNameWord known w ts rest → length rest + 1 ≤ length ts
word_takes known (word.Storage at class) ts rest (place, w, is, front) = let one = takes_one known ts (word_specifies known (word.Storage at class) ts rest (place, w, is, front)) in rw front.behind one
word_takes known (word.Qualifier at) ts rest (place, w, is, front) = let one = takes_one known ts (word_specifies known (word.Qualifier at) ts rest (place, w, is, front)) in rw front.behind one
word_takes known (word.Type at named) ts rest (place, w, is, front) = let one = takes_one known ts (word_specifies known (word.Type at named) ts rest (place, w, is, front)) in rw front.behind one
word_takes known (word.Struct at tag) ts rest (place, a, front, name) =
    let one = takes_one known ts (word_specifies known (word.Struct at tag) ts rest (place, a, front, name)) in
    let two = shorter a rest name.behind in
    let here : length a + 1 ≤ length ts = rw front.behind one in
    omega arith
  where
    shorter : (a rest : List Terminal) → rest ≡ behind_first a → length rest ≤ length a
    shorter [] rest is = rw is (omega arith)
    shorter (t ∷ a) rest is = rw is (omega arith)
word_takes known (word.Enum at tag) ts rest (place, a, front, name) =
    let one = takes_one known ts (word_specifies known (word.Enum at tag) ts rest (place, a, front, name)) in
    let two = shorter a rest name.behind in
    let here : length a + 1 ≤ length ts = rw front.behind one in
    omega arith
  where
    shorter : (a rest : List Terminal) → rest ≡ behind_first a → length rest ≤ length a
    shorter [] rest is = rw is (omega arith)
    shorter (t ∷ a) rest is = rw is (omega arith)
word_takes known (word.Typedef name) ts rest is = let one = takes_one known ts (word_specifies known (word.Typedef name) ts rest is) in rw (is.behind) one

pub words_few : (known : List (List ℕ)) (ws : List TypeNameWord) (ts rest : List Terminal) → Chain (IsTypeNameWord known) ws ts rest → length ws ≤ length ts
words_few known [] ts rest all = omega arith
words_few known (w ∷ ws) ts rest (a, one, all) = let first = word_takes known w ts a one in let more = words_few known ws a rest all in omega arith
