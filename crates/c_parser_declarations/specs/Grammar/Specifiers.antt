-- Declaration specifiers (6.7), with the bodies of structures and enumerations (6.7.2.1, 6.7.2.2).
use Rattle.std.specs.Prelude.{◌≡◌, ◌+◌, ℕ, Bool, true, false, max, List, [], ◌∷◌, Option, Some, None, is_some, ◌⊎◌}
use Rattle.c_layout.specs.SyntaxTrees.{Tree}
use Rattle.c_layout.specs.DeclarationTrees.{NameView, DeclaratorView, EnumeratorView, SpecTree, SpecTrees, MemberTree, MemberTrees, StorageWord, Qualifier, TypeOf, StructTag, StructBody, EnumTag, EnumBody, TypedefName, NoWord, MoreWords, Members, NoMember, MoreMembers}
use Rattle.c_parser_tokens.specs.declared.terminals.Terminal.{Terminal}
use Rattle.c_parser_tokens.specs.declared.terminals.Keyword.{Keyword}
use Rattle.c_parser_tokens.specs.declared.terminals.Keyword.TheVariants as k
use Rattle.c_parser_tokens.specs.declared.terminals.Punctuator.TheVariants as p
use Rattle.c_parser_expression_grammar.specs.declared.specifier_words.SpecifierCounts.{SpecifierCounts}
use Rattle.c_parser_expression_grammar.specs.Expressions.{Derives, height_of}
use Rattle.c_parser_expression_grammar.specs.Fronts.{first_place, IsSign, IsWord, IsName, IsTypedefName}
use Rattle.c_parser_expression_grammar.specs.TypeNames.{type_word_of, storage_class, is_qualifier, is_one_type, no_words, with_type, with_storage, with_other}
use Rattle.c_parser_declarations.specs.Grammar.Declarators.{IsDeclarator, declarator_height}
use Rattle.c_parser_declarations.specs.Grammar.Lists.{Trailed, Listed, highest}

-- a tag, or none
abbrev pub Tag : List (List ℕ) → Option NameView → List Terminal → List Terminal → Type 0
Tag known None ts rest = rest ≡ ts
Tag known (Some name) ts rest = IsName known name.at name.text ts rest

-- the value of an enumerator, or none
abbrev pub Value : List (List ℕ) → Option Tree → List Terminal → List Terminal → Type 0
Value known None ts rest = rest ≡ ts
Value known (Some e) ts rest = (a : List Terminal) × IsSign p.Assign ts a × Derives e known 2 a rest

pub record IsEnumerator (known : List (List ℕ)) (e : EnumeratorView) (ts rest : List Terminal) : Type 0 where
  pub behind : List Terminal
  pub name : IsName known e.name.at e.name.text ts behind
  pub value : Value known e.value behind rest

abbrev pub value_height : Option Tree → ℕ
value_height None = 0
value_height (Some e) = height_of e + 1

abbrev pub enumerator_height : EnumeratorView → ℕ
enumerator_height e = value_height e.value

-- one enumerator or more, with a comma between any two, and maybe one behind the last
abbrev pub Enumerators : List (List ℕ) → List EnumeratorView → List Terminal → List Terminal → Type 0
Enumerators known [] ts rest = ⊥
Enumerators known (e ∷ es) ts rest = Listed (IsEnumerator known) (e ∷ es) ts rest ⊎ Trailed (IsEnumerator known) (e ∷ es) ts rest

-- a declarator with a name
pub record IsNamed (known : List (List ℕ)) (d : DeclaratorView) (ts rest : List Terminal) : Type 0 where
  pub derives : IsDeclarator known d ts rest
  pub named : is_some d.name ≡ true

abbrev pub counted : SpecifierCounts → SpecTree → SpecifierCounts
counted c (StorageWord at word) = with_storage c
counted c (Qualifier at) = c
counted c (TypeOf at word) = with_type c word
counted c _ = with_other c

abbrev pub counts_after : SpecTrees → SpecifierCounts → SpecifierCounts
counts_after NoWord c = c
counts_after (MoreWords w ws) c = counts_after ws (counted c w)

abbrev pub counts_of : SpecTrees → SpecifierCounts
counts_of ws = counts_after ws no_words

abbrev pub has_member : MemberTrees → Bool
has_member NoMember = false
has_member (MoreMembers m more) = true

abbrev mutual
  -- one word
  pub DeriveWord : SpecTree → List (List ℕ) → List Terminal → List Terminal → Type 0
  DeriveWord (StorageWord at class) known ts rest = (at ≡ first_place ts) × (w : Keyword) × (storage_class w ≡ Some class) × IsWord w ts rest
  DeriveWord (Qualifier at) known ts rest = (at ≡ first_place ts) × (w : Keyword) × (is_qualifier w ≡ true) × IsWord w ts rest
  DeriveWord (TypeOf at named) known ts rest = (at ≡ first_place ts) × (w : Keyword) × (type_word_of w ≡ Some named) × IsWord w ts rest
  DeriveWord (StructTag at tag) known ts rest = (at ≡ first_place ts) × (is_some tag ≡ true) × (a : List Terminal) × IsWord k.Struct ts a × Tag known tag a rest
  DeriveWord (StructBody at tag members) known ts rest =
      (at ≡ first_place ts) × (has_member members ≡ true) × (a b c d : List Terminal) × IsWord k.Struct ts a × Tag known tag a b × IsSign p.LeftBrace b c × DeriveMembers members known c d × IsSign p.RightBrace d rest
  DeriveWord (EnumTag at tag) known ts rest = (at ≡ first_place ts) × (is_some tag ≡ true) × (a : List Terminal) × IsWord k.Enum ts a × Tag known tag a rest
  DeriveWord (EnumBody at tag enumerators) known ts rest =
      (at ≡ first_place ts) × (a b c d : List Terminal) × IsWord k.Enum ts a × Tag known tag a b × IsSign p.LeftBrace b c × Enumerators known enumerators c d × IsSign p.RightBrace d rest
  DeriveWord (TypedefName name) known ts rest = IsTypedefName known name.at name.text ts rest

  -- words, one after another
  pub DeriveWords : SpecTrees → List (List ℕ) → List Terminal → List Terminal → Type 0
  DeriveWords NoWord known ts rest = rest ≡ ts
  DeriveWords (MoreWords w ws) known ts rest = (a : List Terminal) × DeriveWord w known ts a × DeriveWords ws known a rest

  -- a declaration of members
  pub DeriveMember : MemberTree → List (List ℕ) → List Terminal → List Terminal → Type 0
  DeriveMember (Members words declarators) known ts rest =
      (a b : List Terminal) × (is_one_type (counts_of words) ≡ true) × DeriveWords words known ts a × Listed (IsNamed known) declarators a b × IsSign p.Semicolon b rest

  -- declarations of members, one after another
  pub DeriveMembers : MemberTrees → List (List ℕ) → List Terminal → List Terminal → Type 0
  DeriveMembers NoMember known ts rest = rest ≡ ts
  DeriveMembers (MoreMembers m more) known ts rest = (a : List Terminal) × DeriveMember m known ts a × DeriveMembers more known a rest

-- specifiers: exactly one type, and at most one storage class
pub record IsSpec (known : List (List ℕ)) (words : SpecTrees) (ts rest : List Terminal) : Type 0 where
  pub derive : DeriveWords words known ts rest
  pub one_type : is_one_type (counts_of words) ≡ true

-- one word alone adds nothing to the height
abbrev pub listed_height : SpecTrees → ℕ → ℕ
listed_height NoWord parts = parts + 1
listed_height (MoreWords w NoWord) parts = parts
listed_height (MoreWords w (MoreWords v more)) parts = parts + 1

abbrev mutual
  pub word_height : SpecTree → ℕ
  word_height (StorageWord at class) = 0
  word_height (Qualifier at) = 0
  word_height (TypeOf at named) = 0
  word_height (StructTag at tag) = 1
  word_height (StructBody at tag members) = members_height members + 1
  word_height (EnumTag at tag) = 1
  word_height (EnumBody at tag enumerators) = highest enumerator_height enumerators + 1
  word_height (TypedefName name) = 0

  pub words_height : SpecTrees → ℕ
  words_height NoWord = 0
  words_height (MoreWords w ws) = max (word_height w) (words_height ws)

  pub member_height : MemberTree → ℕ
  member_height (Members words declarators) = max (listed_height words (words_height words)) (highest declarator_height declarators) + 1

  pub members_height : MemberTrees → ℕ
  members_height NoMember = 0
  members_height (MoreMembers m more) = max (member_height m) (members_height more)

abbrev pub spec_height : SpecTrees → ℕ
spec_height words = listed_height words (words_height words)
