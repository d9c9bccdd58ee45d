-- Worked rows of the grammar of declarations.
use Rattle.std.proofs.Common.{◌≡◌, ℕ, Bool, true, false, List, [], ◌∷◌, Option, Some, None, refl, arith, codes}
use Rattle.cc_base.specs.declared.diagnostics.Place.{Place}
use Rattle.c_layout.specs.DeclarationTrees.{NameView, SuffixView, DeclaratorLayerView, DeclaratorView, ParameterView, OnlyVoid, ParameterList, Braces, NoInitializer, LocalView, SpecTree, SpecTrees, StorageWord, Qualifier, TypeOf, StructTag, StructBody, NoMember, NoWord, MoreWords, spec_trees}
use Rattle.c_layout.specs.declared.syntax_tree.declarations.Storage.TheVariants as storage
use Rattle.c_layout.specs.declared.syntax_tree.declarations.TypeWord.TheVariants as type_word
use Rattle.c_parser_tokens.specs.declared.terminals.Keyword.{Keyword}
use Rattle.c_parser_tokens.specs.declared.terminals.Keyword.TheVariants as k
use Rattle.c_parser_tokens.specs.declared.terminals.Punctuator.{Punctuator}
use Rattle.c_parser_tokens.specs.declared.terminals.Punctuator.TheVariants as p
use Rattle.c_parser_tokens.specs.declared.terminals.Symbol.TheVariants as symbol
use Rattle.c_parser_tokens.specs.declared.terminals.Terminal.{Terminal}
use Rattle.c_parser_expression_grammar.specs.Fronts.{IsName, IsSign, IsWord}
use Rattle.c_parser_declarations.specs.Grammar.Declarations.{Parameters, IsLocal, parameters_height, list_height, is_void_first}
use Rattle.c_parser_declarations.specs.Grammar.Declarators.{IsDeclarator, declarator_height}
use Rattle.c_parser_declarations.specs.Grammar.Initializers.{DeriveInitializer}
use Rattle.c_parser_declarations.specs.Grammar.Specifiers.{DeriveWord, IsSpec, spec_height}

abbrev pub at : ℕ → Place
at n = record { file = 0; line = 1; col = n }

abbrev pub sign : Punctuator → ℕ → Terminal
sign s n = record { place = at n; symbol = symbol.Punctuator s; text = [] }

abbrev pub word : Keyword → ℕ → Terminal
word w n = record { place = at n; symbol = symbol.Keyword w; text = [] }

abbrev pub name : List ℕ → ℕ → Terminal
name text n = record { place = at n; symbol = symbol.Identifier; text = text }

pub sign_at : (s : Punctuator) (n : ℕ) (ts : List Terminal) → IsSign s (sign s n ∷ ts) ts
sign_at s n ts = record { symbol = refl; behind = refl }

pub word_at : (w : Keyword) (n : ℕ) (ts : List Terminal) → IsWord w (word w n ∷ ts) ts
word_at w n ts = record { symbol = refl; behind = refl }

pub name_at : (text : List ℕ) (n : ℕ) (ts : List Terminal) → IsName [] (at n) text (name text n ∷ ts) ts
name_at text n ts = record { symbol = refl; other = refl; place = refl; spelled = refl; behind = refl }

-- ---- declarators

abbrev x : NameView
x = record { at = at 2; text = codes "x" }

abbrev no_length : ℕ → SuffixView
no_length n = record { at = at n; length = None }

abbrev layer : List ℕ → List SuffixView → DeclaratorLayerView
layer stars arrays = record { stars = stars; arrays = arrays }

-- `* x [ ]` is an array of pointers: its one layer has the star and the brackets
abbrev pointers : List Terminal
pointers = sign p.Star 1 ∷ (name (codes "x") 2 ∷ (sign p.LeftBracket 3 ∷ (sign p.RightBracket 4 ∷ [])))

abbrev of_pointers : DeclaratorView
of_pointers = record { layers = layer (0 ∷ []) (no_length 3 ∷ []) ∷ []; name = Some x }

abbrev brackets : List Terminal
brackets = sign p.LeftBracket 3 ∷ (sign p.RightBracket 4 ∷ [])

array_of_pointers : IsDeclarator [] of_pointers pointers []
array_of_pointers = (
  refl,
  name (codes "x") 2 ∷ brackets,
  brackets,
  (name (codes "x") 2 ∷ brackets, record { behind = name (codes "x") 2 ∷ brackets; star = sign_at p.Star 1 (name (codes "x") 2 ∷ brackets); qualified = refl }, refl),
  name_at (codes "x") 2 brackets,
  (
    [],
    record {
      inside = sign p.RightBracket 4 ∷ [];
      last = sign p.RightBracket 4 ∷ [];
      place = refl;
      opens = sign_at p.LeftBracket 3 (sign p.RightBracket 4 ∷ []);
      length = refl;
      closes = sign_at p.RightBracket 4 [];
    },
    refl,
  ),
)

-- brackets and stars around a name are productions
two_productions : declarator_height of_pointers ≡ 2
two_productions = refl

-- parentheses around a name are one too: `( * x ) [ ]`
three_productions : declarator_height (record { layers = layer [] (no_length 5 ∷ []) ∷ (layer (0 ∷ []) [] ∷ []); name = Some x }) ≡ 3
three_productions = refl

-- `*` alone is an abstract declarator of height 0
lone_star : declarator_height (record { layers = layer (0 ∷ []) [] ∷ []; name = None }) ≡ 0
lone_star = refl

-- an abstract declarator is not empty
not_empty : (known : List (List ℕ)) (ts rest : List Terminal) → IsDeclarator known (record { layers = layer [] [] ∷ []; name = None }) ts rest → ⊥
not_empty known ts rest d = let some : false ≡ true = d.0 in cc

-- ---- specifiers

-- `const` names no type, `int char` two
no_type : (known : List (List ℕ)) (ts rest : List Terminal) → IsSpec known (MoreWords (Qualifier (at 1)) NoWord) ts rest → ⊥
no_type known ts rest d = let one : false ≡ true = d.one_type in cc

two_types : (known : List (List ℕ)) (ts rest : List Terminal) → IsSpec known (MoreWords (TypeOf (at 1) type_word.Int) (MoreWords (TypeOf (at 2) type_word.Char) NoWord)) ts rest → ⊥
two_types known ts rest d = let one : false ≡ true = d.one_type in cc

-- `struct { }` and `struct` alone are no words
no_members : (known : List (List ℕ)) (tag : Option NameView) (n : ℕ) (ts rest : List Terminal) → DeriveWord (StructBody (at n) tag NoMember) known ts rest → ⊥
no_members known tag n ts rest d = let some : false ≡ true = d.1 in cc

no_tag : (known : List (List ℕ)) (n : ℕ) (ts rest : List Terminal) → DeriveWord (StructTag (at n) None) known ts rest → ⊥
no_tag known n ts rest d = let some : false ≡ true = d.1 in cc

-- one word adds nothing to the height, two add 1
one_word : spec_height (MoreWords (TypeOf (at 1) type_word.Int) NoWord) ≡ 0
one_word = refl

two_words : spec_height (MoreWords (Qualifier (at 1)) (MoreWords (TypeOf (at 2) type_word.Int) NoWord)) ≡ 1
two_words = refl

-- ---- parameters

only_void : Parameters [] OnlyVoid (word k.Void 1 ∷ []) []
only_void = word_at k.Void 1 []

-- the one word `void` is no list of parameters
void_parameter : (known : List (List ℕ)) (n m : Place) (ts rest : List Terminal) →
    Parameters known (ParameterList (record { at = n; words = TypeOf m type_word.Void ∷ []; declarator = None } ∷ [])) ts rest → ⊥
void_parameter known n m ts rest d = let other : true ≡ false = d.0 in cc

void_first : is_void_first (word k.Void 1 ∷ (sign p.RightParenthesis 2 ∷ [])) ≡ true
void_first = refl

-- one parameter adds nothing to the height, two add 1
abbrev int : ℕ → ParameterView
int n = record { at = at n; words = TypeOf (at n) type_word.Int ∷ []; declarator = None }

one_parameter : parameters_height (ParameterList (int 1 ∷ [])) ≡ 0
one_parameter = refl

two_parameters : parameters_height (ParameterList (int 1 ∷ (int 3 ∷ []))) ≡ 1
two_parameters = refl

-- ---- initializers and declarations in blocks

-- braces hold an initializer
no_initializer : (known : List (List ℕ)) (n : ℕ) (ts rest : List Terminal) → DeriveInitializer (Braces (at n) NoInitializer) known ts rest → ⊥
no_initializer known n ts rest d = let some : false ≡ true = d.1 in cc

-- no `typedef` in a block
no_typedef : (known : List (List ℕ)) (ts rest : List Terminal) →
    IsLocal known (record { at = at 1; words = StorageWord (at 1) storage.Typedef ∷ (TypeOf (at 2) type_word.Int ∷ []); declarators = [] }) ts rest → ⊥
no_typedef known ts rest d = let local : false ≡ true = d.local in cc
