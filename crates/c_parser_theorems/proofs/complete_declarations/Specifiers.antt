-- Specifiers with the bodies of structures and enumerations are found.
use Rattle.std.proofs.Common.{◌≡◌, ℕ, zero, suc, ◌+◌, ◌≤◌, ◌<◌, true, false, max, List, [], ◌∷◌, length, Option, Some, None, is_some, refl, arith, ap, ◌∙◌}
use Rattle.cc_base.specs.declared.diagnostics.Place.{Place}
use Rattle.c_layout.specs.DeclarationTrees.{NameView, DeclaratorView, EnumeratorView, SpecTree, SpecTrees, MemberTree, MemberTrees, StorageWord, Qualifier, TypeOf, StructTag, StructBody, EnumTag, EnumBody, TypedefName, NoWord, MoreWords, Members, NoMember, MoreMembers, member_trees}
use Rattle.c_layout.specs.declared.syntax_tree.declarations.Storage.{Storage}
use Rattle.c_layout.specs.declared.syntax_tree.declarations.TypeWord.{TypeWord}
use Rattle.c_parser_tokens.specs.declared.terminals.Keyword.{Keyword}
use Rattle.c_parser_tokens.specs.declared.terminals.Keyword.TheVariants as k
use Rattle.c_parser_tokens.specs.declared.terminals.Punctuator.TheVariants as p
use Rattle.c_parser_tokens.specs.declared.terminals.Terminal.{Terminal}
use Rattle.c_parser_expression_grammar.specs.Fronts.{first_symbol, first_place, behind_first, begins_specifiers, is_typedef_first, IsSign, IsWord, IsTypedefName}
use Rattle.c_parser_expression_grammar.specs.TypeNames.{type_word_of, storage_class, is_qualifier, is_one_type}
use Rattle.c_parser_declarations.specs.Grammar.Declarators.{declarator_height}
use Rattle.c_parser_declarations.specs.Grammar.Lists.{Listed, highest}
use Rattle.c_parser_declarations.specs.Grammar.Specifiers.{Tag, Enumerators, IsNamed, enumerator_height, has_member, DeriveWord, DeriveWords, DeriveMember, DeriveMembers, IsSpec, counts_of, listed_height, word_height, words_height, member_height, members_height, spec_height}
use Rattle.c_parser_theorems.proofs.unique_expressions.Levels.{below}
use Rattle.c_parser_expression_grammar.specs.Readings.{is_left_brace}
use Rattle.c_parser_theorems.proofs.complete_expressions.Shrinking.{length_behind}
use Rattle.c_parser_theorems.specs.CompleteDeclarations.Found.{DeclaratorEnds, SpecEnds}
use Rattle.c_parser_declarations.specs.Grammar.Items.{Item, item_of, chained}
use Rattle.c_parser_declarations.specs.Grammar.DeclaratorReaders.{name_at}
use Rattle.c_parser_declarations.specs.Grammar.SpecifierReaders.{enumerators_inside, keyword_word, plain_by, word, words, list_height, specifiers_by, specifier_readers, specifiers_inside, specifiers}
use Rattle.c_parser_theorems.proofs.complete_declarations.Beginnings.{word_front, member_front, declarator_ends_words, words_brace, word_takes, word_count, member_count, words_few, spec_word_takes, member_takes, members_few}
use Rattle.c_parser_theorems.proofs.complete_declarations.Enumerators.{tag_open, tag_read, tag_shrinks, enumerators_found}
use Rattle.c_parser_theorems.proofs.complete_declarations.Named.{listed_begins, declarator_list_found}

-- ---- words without parts

abbrev IsPlain : List (List ℕ) → ℕ → Item MemberTree → List Terminal → Keyword → Type 0
IsPlain known b m ts w = keyword_word known b m ts w ≡ plain_by ts w (type_word_of w) (storage_class w)

class_plain : (known : List (List ℕ)) (b : ℕ) (m : Item MemberTree) (ts : List Terminal) (w : Keyword) (class : Storage) → storage_class w ≡ Some class → IsPlain known b m ts w × (type_word_of w ≡ None)
class_plain known b m ts k.Typedef class is = (refl, refl)
class_plain known b m ts k.Extern class is = (refl, refl)
class_plain known b m ts k.Static class is = (refl, refl)
class_plain known b m ts k.Auto class is = (refl, refl)
class_plain known b m ts k.Register class is = (refl, refl)
class_plain known b m ts _ class is = absurd (cc is)

qualifier_plain : (known : List (List ℕ)) (b : ℕ) (m : Item MemberTree) (ts : List Terminal) (w : Keyword) → is_qualifier w ≡ true → IsPlain known b m ts w × (type_word_of w ≡ None) × (storage_class w ≡ None)
qualifier_plain known b m ts k.Const is = (refl, refl, refl)
qualifier_plain known b m ts k.Restrict is = (refl, refl, refl)
qualifier_plain known b m ts k.Inline is = (refl, refl, refl)
qualifier_plain known b m ts _ is = absurd (cc is)

type_plain : (known : List (List ℕ)) (b : ℕ) (m : Item MemberTree) (ts : List Terminal) (w : Keyword) (named : TypeWord) → type_word_of w ≡ Some named → IsPlain known b m ts w
type_plain known b m ts k.Struct named is = absurd (cc is)
type_plain known b m ts k.Enum named is = absurd (cc is)
type_plain known b m ts _ named is = refl

storage_found : (known : List (List ℕ)) (b : ℕ) (m : Item MemberTree) (ts rest : List Terminal) (at : Place) (class : Storage) (w : Keyword) → at ≡ first_place ts → storage_class w ≡ Some class → IsWord w ts rest → word known b m ts ≡ Some (item_of (StorageWord at class) 0 rest)
storage_found known b m ts rest at class w place is front =
    let plain = class_plain known b m ts w class is in
    rw (front.symbol, plain.0, plain.1, is, front.behind, place) refl

qualifier_found : (known : List (List ℕ)) (b : ℕ) (m : Item MemberTree) (ts rest : List Terminal) (at : Place) (w : Keyword) → at ≡ first_place ts → is_qualifier w ≡ true → IsWord w ts rest → word known b m ts ≡ Some (item_of (Qualifier at) 0 rest)
qualifier_found known b m ts rest at w place is front =
    let plain = qualifier_plain known b m ts w is in
    rw (front.symbol, plain.0, plain.1, plain.2, is, front.behind, place) refl

type_found : (known : List (List ℕ)) (b : ℕ) (m : Item MemberTree) (ts rest : List Terminal) (at : Place) (named : TypeWord) (w : Keyword) → at ≡ first_place ts → type_word_of w ≡ Some named → IsWord w ts rest → word known b m ts ≡ Some (item_of (TypeOf at named) 0 rest)
type_found known b m ts rest at named w place is front =
    let plain = type_plain known b m ts w named is in
    rw (front.symbol, plain, is, front.behind, place) refl

typedef_found : (known : List (List ℕ)) (b : ℕ) (m : Item MemberTree) (ts rest : List Terminal) (name : NameView) → IsTypedefName known name.at name.text ts rest → word known b m ts ≡ Some (item_of (TypedefName name) 0 rest)
typedef_found known b m ts rest name is =
    let among : is_typedef_first known ts ≡ true = rw (is.symbol, is.among) refl in
    let same : name ≡ name_at ts = λ i. record { at = is.place i; text = is.spelled i } in
    rw (is.symbol, among, is.behind, same) refl

-- ---- structures and enumerations

struct_tag_found : (known : List (List ℕ)) (b : ℕ) (m : Item MemberTree) (at : Place) (tag : Option NameView) (ts a rest : List Terminal) → at ≡ first_place ts → is_some tag ≡ true → IsWord k.Struct ts a → Tag known tag a rest → is_left_brace (first_symbol rest) ≡ false → 1 ≤ b →
    word known b m ts ≡ Some (item_of (StructTag at tag) 1 rest)
struct_tag_found known b m at tag ts a rest place some front name none small =
    let from : Tag known tag (behind_first ts) rest = rw front.behind at name in
    let one = tag_read known tag (behind_first ts) rest some from in
    let fits = below 0 b (omega arith) in
    rw (front.symbol, one, none, some, fits, place) refl

enum_tag_found : (known : List (List ℕ)) (b : ℕ) (m : Item MemberTree) (at : Place) (tag : Option NameView) (ts a rest : List Terminal) → at ≡ first_place ts → is_some tag ≡ true → IsWord k.Enum ts a → Tag known tag a rest → is_left_brace (first_symbol rest) ≡ false → 1 ≤ b →
    word known b m ts ≡ Some (item_of (EnumTag at tag) 1 rest)
enum_tag_found known b m at tag ts a rest place some front name none small =
    let from : Tag known tag (behind_first ts) rest = rw front.behind at name in
    let one = tag_read known tag (behind_first ts) rest some from in
    let fits = below 0 b (omega arith) in
    rw (front.symbol, one, none, some, fits, place) refl

enumerators_within : (known : List (List ℕ)) (b : ℕ) (es : List EnumeratorView) (ts last rest : List Terminal) → Enumerators known es ts last → IsSign p.RightBrace last rest → highest enumerator_height es < b → enumerators_inside known b ts ≡ Some (item_of es (highest enumerator_height es) rest)
enumerators_within known zero es ts last rest d shut small = absurd (omega arith)
enumerators_within known (suc b) es ts last rest d shut small = enumerators_found known b es ts last rest d shut (omega arith)

enum_body_found : (known : List (List ℕ)) (b : ℕ) (m : Item MemberTree) (at : Place) (tag : Option NameView) (es : List EnumeratorView) (ts a c d e rest : List Terminal) → at ≡ first_place ts → IsWord k.Enum ts a → Tag known tag a c → IsSign p.LeftBrace c d → Enumerators known es d e → IsSign p.RightBrace e rest → highest enumerator_height es + 1 ≤ b →
    word known b m ts ≡ Some (item_of (EnumBody at tag es) (highest enumerator_height es + 1) rest)
enum_body_found known b m at tag es ts a c d e rest place front name opens all shut small =
    let from : Tag known tag (behind_first ts) c = rw front.behind at name in
    let one = tag_open known tag (behind_first ts) c d from opens in
    let all-at : Enumerators known es (behind_first c) e = rw opens.behind at all in
    let two = enumerators_within known b es (behind_first c) e rest all-at shut (omega arith) in
    let fits = below (highest enumerator_height es) b (omega arith) in
    rw (front.symbol, one, opens.symbol, two, fits, place) refl

abbrev members_list : MemberTrees → List MemberTree
members_list NoMember = []
members_list (MoreMembers m ms) = m ∷ members_list ms

members_back : (ms : MemberTrees) → member_trees (members_list ms) ≡ ms
members_back NoMember = refl
members_back (MoreMembers m ms) = ap (MoreMembers m) (members_back ms)

struct_body_found : (known : List (List ℕ)) (b : ℕ) (m : Item MemberTree) (at : Place) (tag : Option NameView) (ms : MemberTrees) (ts a c d rest : List Terminal) → at ≡ first_place ts → IsWord k.Struct ts a → Tag known tag a c → IsSign p.LeftBrace c d → chained m (length d) d ≡ Some (item_of (members_list ms) (members_height ms) rest) → members_height ms + 1 ≤ b →
    word known b m ts ≡ Some (item_of (StructBody at tag ms) (members_height ms + 1) rest)
struct_body_found known b m at tag ms ts a c d rest place front name opens all small =
    let from : Tag known tag (behind_first ts) c = rw front.behind at name in
    let one = tag_open known tag (behind_first ts) c d from opens in
    let two : chained m (length (behind_first c)) (behind_first c) ≡ Some (item_of (members_list ms) (members_height ms) rest) = rw opens.behind at all in
    let fits = below (members_height ms) b (omega arith) in
    let back = members_back ms in
    rw (front.symbol, one, opens.symbol, two, fits, back, place) refl

-- ---- lists of words

listed_low : (ws : SpecTrees) (parts : ℕ) → parts ≤ listed_height ws parts
listed_low NoWord parts = omega arith
listed_low (MoreWords w NoWord) parts = omega arith
listed_low (MoreWords w (MoreWords v more)) parts = omega arith

list_height_is : (b : ℕ) (ws : SpecTrees) (parts : ℕ) → listed_height ws parts ≤ b → list_height b ws parts ≡ Some (listed_height ws parts)
list_height_is b NoWord parts small = let fits = below parts b (omega arith) in rw fits refl
list_height_is b (MoreWords w NoWord) parts small = refl
list_height_is b (MoreWords w (MoreWords v more)) parts small = let fits = below parts b (omega arith) in rw fits refl

by_inside : (known : List (List ℕ)) (b : ℕ) (ts : List Terminal) → specifiers known b ts ≡ specifiers_by known b (specifiers_inside known b).member ts
by_inside known zero ts = refl
by_inside known (suc b) ts = refl

spec_read : (known : List (List ℕ)) (b : ℕ) (ws : SpecTrees) (ts rest : List Terminal) → words known (word known b (specifiers_inside known b).member) (length ts) ts ≡ Some (item_of ws (words_height ws) rest) → is_one_type (counts_of ws) ≡ true → spec_height ws ≤ b →
    specifiers known b ts ≡ Some (item_of ws (spec_height ws) rest)
spec_read known b ws ts rest all one small =
    let high = list_height_is b ws (words_height ws) small in
    by_inside known b ts ∙ rw (all, one, high) refl

-- ---- members

member_read : (known : List (List ℕ)) (b : ℕ) (ws : SpecTrees) (ds : List DeclaratorView) (ts a c rest : List Terminal) → specifiers known b ts ≡ Some (item_of ws (spec_height ws) a) → Listed (IsNamed known) ds a c → IsSign p.Semicolon c rest → member_height (Members ws ds) ≤ suc b → b + length a < 4294967295 →
    (specifier_readers known (suc b)).member ts ≡ Some (item_of (Members ws ds) (member_height (Members ws ds)) rest)
member_read known b ws ds ts a c rest spec listed semi small room =
    let end : DeclaratorEnds c = rw semi.symbol refl in
    let two = declarator_list_found known b ds a c listed end (rw semi.symbol refl) (omega arith) room in
    let fits = below (max (spec_height ws) (highest declarator_height ds)) (suc b) (omega arith) in
    rw (spec, two, semi.symbol, semi.behind, fits) refl

-- ---- all

abbrev IsWordFound : List (List ℕ) → SpecTree → Type 0
IsWordFound known w =
    (b : ℕ) (ts rest : List Terminal) → DeriveWord w known ts rest → is_left_brace (first_symbol rest) ≡ false → word_height w ≤ b → b + length ts < 4294967295 →
    word known b (specifiers_inside known b).member ts ≡ Some (item_of w (word_height w) rest)

abbrev AreWordsFound : List (List ℕ) → SpecTrees → Type 0
AreWordsFound known ws =
    (b turns : ℕ) (ts rest : List Terminal) → DeriveWords ws known ts rest → SpecEnds known rest → words_height ws ≤ b → b + length ts < 4294967295 → word_count ws ≤ turns →
    words known (word known b (specifiers_inside known b).member) turns ts ≡ Some (item_of ws (words_height ws) rest)

abbrev IsMemberFound : List (List ℕ) → MemberTree → Type 0
IsMemberFound known m =
    (b : ℕ) (ts rest : List Terminal) → DeriveMember m known ts rest → member_height m < b → b + length ts < 4294967295 → (specifiers_inside known b).member ts ≡ Some (item_of m (member_height m) rest)

abbrev AreMembersFound : List (List ℕ) → MemberTrees → Type 0
AreMembersFound known ms =
    (b turns : ℕ) (ts last rest : List Terminal) → has_member ms ≡ true → DeriveMembers ms known ts last → IsSign p.RightBrace last rest → members_height ms < b → b + length ts < 4294967295 → member_count ms ≤ turns →
    chained (specifiers_inside known b).member turns ts ≡ Some (item_of (members_list ms) (members_height ms) rest)

mutual
  word_found : (known : List (List ℕ)) (w : SpecTree) → IsWordFound known w
  word_found known (StorageWord at class) b ts rest (place, w, is, front) none small room = storage_found known b (specifiers_inside known b).member ts rest at class w place is front
  word_found known (Qualifier at) b ts rest (place, w, is, front) none small room = qualifier_found known b (specifiers_inside known b).member ts rest at w place is front
  word_found known (TypeOf at named) b ts rest (place, w, is, front) none small room = type_found known b (specifiers_inside known b).member ts rest at named w place is front
  word_found known (StructTag at tag) b ts rest (place, some, a, front, name) none small room = struct_tag_found known b (specifiers_inside known b).member at tag ts a rest place some front name none small
  word_found known (StructBody at tag ms) b ts rest (place, some, a, c, d, e, front, name, opens, all, shut) none small room =
      let h = word_takes ts a front in
      let t = tag_shrinks known tag a c name in
      let o = length_behind c d opens in
      let few = members_few known ms d e all in
      let one = members_found known ms b (length d) d e rest some all shut (omega arith) (omega arith) (omega arith) in
      struct_body_found known b (specifiers_inside known b).member at tag ms ts a c d rest place front name opens one small
  word_found known (EnumTag at tag) b ts rest (place, some, a, front, name) none small room = enum_tag_found known b (specifiers_inside known b).member at tag ts a rest place some front name none small
  word_found known (EnumBody at tag es) b ts rest (place, a, c, d, e, front, name, opens, all, shut) none small room = enum_body_found known b (specifiers_inside known b).member at tag es ts a c d e rest place front name opens all shut small
  word_found known (TypedefName name) b ts rest is none small room = typedef_found known b (specifiers_inside known b).member ts rest name is

  words_found : (known : List (List ℕ)) (ws : SpecTrees) → AreWordsFound known ws
  words_found known NoWord b zero ts rest same ends small room enough = let here : rest ≡ ts = same in rw here refl
  words_found known NoWord b (suc turns) ts rest same ends small room enough =
      let here : rest ≡ ts = same in
      let stop : begins_specifiers known ts ≡ false = rw here at ends.word in
      rw (stop, here) refl
  words_found known (MoreWords w ws) b zero ts rest all ends small room enough = absurd (omega arith)
  words_found known (MoreWords w ws) b (suc turns) ts rest (a, one, all) ends small room enough =
      let front = word_front known w ts a one in
      let takes = spec_word_takes known w ts a one in
      let first = word_found known w b ts a one (words_brace known ws a rest all ends.brace) (omega arith) room in
      let tail = words_found known ws b turns a rest all ends (omega arith) (omega arith) (omega arith) in
      rw (front.word, first, tail) refl

  member_found : (known : List (List ℕ)) (m : MemberTree) → IsMemberFound known m
  member_found known m zero ts rest d small room = absurd (omega arith)
  member_found known m (suc zero) ts rest d small room = absurd (low known m small)
    where
      low : (known : List (List ℕ)) (m : MemberTree) → member_height m < 1 → ⊥
      low known (Members ws ds) small = omega arith
  member_found known (Members ws ds) (suc (suc b)) ts rest (a, c, one, all, listed, semi) small room =
      let few = words_few known ws ts a all in
      let low = listed_low ws (words_height ws) in
      let first = words_found known ws b (length ts) ts a all (declarator_ends_words known a (listed_begins known ds a c listed)) (omega arith) (omega arith) (omega arith) in
      let spec = spec_read known b ws ts a first one (omega arith) in
      member_read known b ws ds ts a c rest spec listed semi (omega arith) (omega arith)

  members_found : (known : List (List ℕ)) (ms : MemberTrees) → AreMembersFound known ms
  members_found known NoMember b turns ts last rest some all shut small room enough = absurd (cc some)
  members_found known (MoreMembers m ms) b zero ts last rest some all shut small room enough = absurd (omega arith)
  members_found known (MoreMembers m NoMember) b (suc turns) ts last rest some (a, one, same) shut small room enough =
      let here : last ≡ a = same in
      let shut-at : IsSign p.RightBrace a rest = rw here at shut in
      let first = member_found known m b ts a one (omega arith) room in
      let alone : max (member_height m) 0 ≡ member_height m = omega arith in
      rw (first, shut-at.symbol, shut-at.behind, alone) refl
  members_found known (MoreMembers m (MoreMembers n more)) b (suc turns) ts last rest some (a, one, (c, two, all)) shut small room enough =
      let front = member_front known n a c two in
      let takes = member_takes known m ts a one in
      let first = member_found known m b ts a one (omega arith) room in
      let tail = members_found known (MoreMembers n more) b turns a last rest refl (c, two, all) shut (omega arith) (omega arith) (omega arith) in
      rw (first, front.right_brace, tail) refl

-- specifiers are found, in front of what ends them
pub specifiers_found : (known : List (List ℕ)) (b : ℕ) (ws : SpecTrees) (ts rest : List Terminal) → IsSpec known ws ts rest → SpecEnds known rest → spec_height ws ≤ b → b + length ts < 4294967295 → specifiers known b ts ≡ Some (item_of ws (spec_height ws) rest)
specifiers_found known b ws ts rest is ends small room =
    let few = words_few known ws ts rest is.derive in
    let low = listed_low ws (words_height ws) in
    let first = words_found known ws b (length ts) ts rest is.derive ends (omega arith) room (omega arith) in
    spec_read known b ws ts rest first is.one_type small
