-- What the readers of declarations answer.
use Rattle.std.specs.Prelude.{◌≡◌, ◌≤◌, ℕ, Bool, true, false, max, List, [], ◌∷◌, reverse, Option, Some, is_some, ◌⊎◌}
use Rattle.cc_base.specs.declared.diagnostics.Place.{Place}
use Rattle.c_layout.specs.DeclarationTrees.{NameView, SuffixView, DeclaratorLayerView, DeclaratorView, EnumeratorView, SpecTree, SpecTrees, MemberTree, StorageWord, Qualifier, TypeOf, spec_trees, member_trees, InitializerTree, initializer_trees, ParameterView, ParametersView, FunctionDeclaratorView, InitDeclaratorView, Object, Initialized, LocalView}
use Rattle.c_parser_tokens.specs.declared.terminals.Terminal.{Terminal}
use Rattle.c_parser_tokens.specs.declared.terminals.Punctuator.TheVariants as p
use Rattle.c_parser_tokens.specs.declared.terminals.Keyword.{Keyword}
use Rattle.c_parser_expression_grammar.specs.declared.specifier_words.SpecifierCounts.{SpecifierCounts}
use Rattle.c_parser_expression_grammar.specs.Fronts.{first_place, IsSign, IsWord}
use Rattle.c_parser_expression_grammar.specs.Spans as spans
use Rattle.c_parser_expression_grammar.specs.Spans.{Chain, Span}
use Rattle.c_parser_expression_grammar.specs.TypeNames.{Stars, is_qualifier, storage_class, type_word_of}
use Rattle.c_parser_declarations.specs.Grammar.Declarations.{IsParameter, parameter_height, Parameters, list_height, parameters_height, IsFunction, function_height, IsDeclared, IsInitialized, bare, init_height, local_init_height, is_object, IsLocalDeclarator, LocalDeclarators, IsLocal, local_height}
use Rattle.c_parser_declarations.specs.Grammar.Declarators.{IsSuffix, Inside, Shape, IsDeclarator, is_something, length_height, flat, climbed, inside_height, shape_height, declarator_height}
use Rattle.c_parser_declarations.specs.Grammar.Initializers.{DeriveInitializer, DeriveItems, initializer_height, items_height, has_item}
use Rattle.c_parser_declarations.specs.Grammar.Lists.{Trailed, Listed, highest}
use Rattle.c_parser_declarations.specs.Grammar.Specifiers.{IsNamed, IsEnumerator, Enumerators, enumerator_height, IsSpec, DeriveWord, DeriveWords, DeriveMember, DeriveMembers, has_member, counts_of, word_height, words_height, member_height, members_height, spec_height}

pub record FoundSuffix (known : List (List ℕ)) (suffix : SuffixView) (high : ℕ) (ts rest : List Terminal) : Type 0 where
  pub derives : IsSuffix known suffix ts rest
  pub height : high ≡ length_height suffix.length

pub record FoundSuffixes (known : List (List ℕ)) (inside : ℕ) (arrays : List SuffixView) (level steps : ℕ) (ts rest : List Terminal) : Type 0 where
  pub derive : Chain (IsSuffix known) arrays ts rest
  pub level_is : level ≡ flat inside arrays
  pub steps_is : steps ≡ climbed inside arrays

-- what stands between stars and brackets, its layers from the innermost to the outermost
pub record FoundInside (known : List (List ℕ)) (inside_out : List DeclaratorLayerView) (name : Option NameView) (high : ℕ) (ts rest : List Terminal) : Type 0 where
  pub shape : Inside (reverse inside_out) known name ts rest
  pub height : high ≡ inside_height (reverse inside_out) name

pub record FoundLayers (known : List (List ℕ)) (budget : ℕ) (inside_out : List DeclaratorLayerView) (name : Option NameView) (high : ℕ) (ts rest : List Terminal) : Type 0 where
  pub shape : Shape (reverse inside_out) known name ts rest
  pub height : high ≡ shape_height (reverse inside_out) name
  pub within : high ≤ budget

-- a declarator behind stars that have been read
pub record FoundBehind (known : List (List ℕ)) (budget : ℕ) (stars : List ℕ) (inside_out : List DeclaratorLayerView) (name : Option NameView) (high : ℕ) (ts rest : List Terminal) : Type 0 where
  pub goes : (start : List Terminal) → Stars stars start ts → Shape (reverse inside_out) known name start rest
  pub height : high ≡ shape_height (reverse inside_out) name
  pub within : high ≤ budget

abbrev pub is_empty : List DeclaratorLayerView → Bool
is_empty [] = true
is_empty (layer ∷ more) = false

-- a layer around nothing has a name, stars or brackets
abbrev pub IsSomething : List DeclaratorLayerView → Bool → DeclaratorLayerView → Type 0
IsSomething [] named layer = is_something named layer ≡ true
IsSomething (inner ∷ more) named layer = Unit {0}

abbrev pub layer_of : List ℕ → List SuffixView → DeclaratorLayerView
layer_of stars arrays = record { stars = stars; arrays = arrays }

pub record FoundDeclarator (known : List (List ℕ)) (budget : ℕ) (d : DeclaratorView) (high : ℕ) (ts rest : List Terminal) : Type 0 where
  pub derives : IsDeclarator known d ts rest
  pub height : high ≡ declarator_height d
  pub within : high ≤ budget

pub record FoundNamed (known : List (List ℕ)) (budget : ℕ) (d : DeclaratorView) (high : ℕ) (ts rest : List Terminal) : Type 0 where
  pub derives : IsNamed known d ts rest
  pub height : high ≡ declarator_height d
  pub within : high ≤ budget

pub record FoundNamedBehind (known : List (List ℕ)) (budget : ℕ) (stars : List ℕ) (d : DeclaratorView) (high : ℕ) (ts rest : List Terminal) : Type 0 where
  pub goes : (start : List Terminal) → Stars stars start ts → IsDeclarator known d start rest
  pub named : is_some d.name ≡ true
  pub height : high ≡ declarator_height d
  pub within : high ≤ budget

-- items with a comma behind each
pub record FoundItems {X : Type 0} (Item : X → List Terminal → List Terminal → Type 0) (height : X → ℕ) (budget : ℕ) (xs : List X) (high : ℕ) (ts rest : List Terminal) : Type 0 where
  pub derive : Trailed Item xs ts rest
  pub high_is : high ≡ highest height xs
  pub within : high ≤ budget

-- one item or more with a comma between any two
pub record FoundListed {X : Type 0} (Item : X → List Terminal → List Terminal → Type 0) (height : X → ℕ) (budget : ℕ) (xs : List X) (high : ℕ) (ts rest : List Terminal) : Type 0 where
  pub derive : Listed Item xs ts rest
  pub high_is : high ≡ highest height xs
  pub within : high ≤ budget

pub record FoundEnumerator (known : List (List ℕ)) (budget : ℕ) (e : EnumeratorView) (high : ℕ) (ts rest : List Terminal) : Type 0 where
  pub derives : IsEnumerator known e ts rest
  pub height : high ≡ enumerator_height e
  pub within : high ≤ budget

-- enumerators behind `{`, with the `}`
pub record FoundEnumerators (known : List (List ℕ)) (budget : ℕ) (es : List EnumeratorView) (high : ℕ) (ts rest : List Terminal) : Type 0 where
  pub last : List Terminal
  pub derive : Enumerators known es ts last
  pub closes : IsSign p.RightBrace last rest
  pub high_is : high ≡ highest enumerator_height es
  pub within : high ≤ budget

pub record FoundWord (known : List (List ℕ)) (budget : ℕ) (w : SpecTree) (high : ℕ) (ts rest : List Terminal) : Type 0 where
  pub derives : DeriveWord w known ts rest
  pub height : high ≡ word_height w
  pub within : high ≤ budget

-- ---- initializers

pub record FoundInitializer (known : List (List ℕ)) (budget : ℕ) (i : InitializerTree) (high : ℕ) (ts rest : List Terminal) : Type 0 where
  pub derives : DeriveInitializer i known ts rest
  pub height : high ≡ initializer_height i
  pub within : high ≤ budget

-- initializers with a comma behind each
pub record FoundSome (known : List (List ℕ)) (budget : ℕ) (items : List InitializerTree) (high : ℕ) (ts rest : List Terminal) : Type 0 where
  pub parts : List Span
  pub each : DeriveItems (initializer_trees items) known parts
  pub trailed : spans.Trailed parts ts rest
  pub height : high ≡ items_height (initializer_trees items)
  pub within : high ≤ budget

-- initializers behind `{`, with the `}`
pub record FoundBraced (known : List (List ℕ)) (budget : ℕ) (items : List InitializerTree) (high : ℕ) (ts rest : List Terminal) : Type 0 where
  pub parts : List Span
  pub last : List Terminal
  pub some : has_item (initializer_trees items) ≡ true
  pub each : DeriveItems (initializer_trees items) known parts
  pub shape : spans.Separated parts ts last ⊎ spans.Trailed parts ts last
  pub closes : IsSign p.RightBrace last rest
  pub height : high ≡ items_height (initializer_trees items)
  pub within : high ≤ budget

-- ---- specifiers

-- a word that is a keyword alone
abbrev pub PlainWord : SpecTree → List Terminal → List Terminal → Type 0
PlainWord (StorageWord at class) ts rest = (at ≡ first_place ts) × (w : Keyword) × (storage_class w ≡ Some class) × IsWord w ts rest
PlainWord (Qualifier at) ts rest = (at ≡ first_place ts) × (w : Keyword) × (is_qualifier w ≡ true) × IsWord w ts rest
PlainWord (TypeOf at named) ts rest = (at ≡ first_place ts) × (w : Keyword) × (type_word_of w ≡ Some named) × IsWord w ts rest
PlainWord _ ts rest = ⊥

-- words, one after another, and their counts
pub record FoundWords (known : List (List ℕ)) (budget : ℕ) (ws : List SpecTree) (counts : SpecifierCounts) (high : ℕ) (ts rest : List Terminal) : Type 0 where
  pub derive : DeriveWords (spec_trees ws) known ts rest
  pub counts_is : counts ≡ counts_of (spec_trees ws)
  pub high_is : high ≡ words_height (spec_trees ws)
  pub within : high ≤ budget

pub record FoundSpec (known : List (List ℕ)) (budget : ℕ) (ws : SpecTrees) (high : ℕ) (ts rest : List Terminal) : Type 0 where
  pub derives : IsSpec known ws ts rest
  pub height : high ≡ spec_height ws
  pub within : high ≤ budget

pub record FoundMember (known : List (List ℕ)) (budget : ℕ) (m : MemberTree) (high : ℕ) (ts rest : List Terminal) : Type 0 where
  pub derives : DeriveMember m known ts rest
  pub height : high ≡ member_height m
  pub within : high ≤ budget

-- members, one after another
pub record FoundChain (known : List (List ℕ)) (budget : ℕ) (ms : List MemberTree) (high : ℕ) (ts rest : List Terminal) : Type 0 where
  pub derive : DeriveMembers (member_trees ms) known ts rest
  pub high_is : high ≡ members_height (member_trees ms)
  pub within : high ≤ budget

-- members behind `{`, with the `}`
pub record FoundMembers (known : List (List ℕ)) (budget : ℕ) (ms : List MemberTree) (high : ℕ) (ts rest : List Terminal) : Type 0 where
  pub last : List Terminal
  pub some : has_member (member_trees ms) ≡ true
  pub derive : DeriveMembers (member_trees ms) known ts last
  pub closes : IsSign p.RightBrace last rest
  pub high_is : high ≡ members_height (member_trees ms)
  pub within : high ≤ budget

-- ---- parameters

pub record FoundParameter (known : List (List ℕ)) (budget : ℕ) (parameter : ParameterView) (high : ℕ) (ts rest : List Terminal) : Type 0 where
  pub derives : IsParameter known parameter ts rest
  pub height : high ≡ parameter_height parameter
  pub within : high ≤ budget

-- one parameter or more behind a `(`, with the `)`
pub record FoundParameterList (known : List (List ℕ)) (budget : ℕ) (items : List ParameterView) (high : ℕ) (ts rest : List Terminal) : Type 0 where
  pub last : List Terminal
  pub derive : Listed (IsParameter known) items ts last
  pub closes : IsSign p.RightParenthesis last rest
  pub height : high ≡ list_height items
  pub within : high ≤ budget

-- what stands behind a `(`, with the `)`
pub record FoundParameters (known : List (List ℕ)) (budget : ℕ) (parameters : ParametersView) (high : ℕ) (ts rest : List Terminal) : Type 0 where
  pub last : List Terminal
  pub derive : Parameters known parameters ts last
  pub closes : IsSign p.RightParenthesis last rest
  pub height : high ≡ parameters_height parameters
  pub within : high ≤ budget

-- the declarator of a function behind stars that have been read
pub record FoundFunctionBehind (known : List (List ℕ)) (budget : ℕ) (stars : List ℕ) (f : FunctionDeclaratorView) (high : ℕ) (ts rest : List Terminal) : Type 0 where
  pub goes : (start : List Terminal) → Stars stars start ts → IsFunction known f start rest
  pub height : high ≡ function_height f
  pub within : high ≤ budget

-- ---- declarators with initializers

-- a declarator without initializer behind stars that have been read
pub record FoundBareBehind (known : List (List ℕ)) (budget : ℕ) (stars : List ℕ) (d : InitDeclaratorView) (high : ℕ) (ts rest : List Terminal) : Type 0 where
  pub goes : (start : List Terminal) → Stars stars start ts → IsDeclared known d start rest
  pub alone : bare d ≡ d
  pub height : high ≡ init_height d
  pub within : high ≤ budget

-- a declarator without initializer
pub record FoundBare (known : List (List ℕ)) (budget : ℕ) (d : InitDeclaratorView) (high : ℕ) (ts rest : List Terminal) : Type 0 where
  pub derives : IsDeclared known d ts rest
  pub alone : bare d ≡ d
  pub height : high ≡ init_height d
  pub within : high ≤ budget

-- an initializer with its `=`, behind a declarator of the height `low`
pub record FoundAssigned (known : List (List ℕ)) (budget : ℕ) (d : DeclaratorView) (low : ℕ) (i : InitDeclaratorView) (high : ℕ) (ts rest : List Terminal) : Type 0 where
  pub equals : Place
  pub value : InitializerTree
  pub is : i ≡ Initialized d equals value
  pub initializer : IsInitialized known (Initialized d equals value) ts rest
  pub height : high ≡ max low (initializer_height value)
  pub within : low ≤ budget → high ≤ budget

-- an initializer, if there is one, behind a declarator of an object in a block
pub record FoundLocalTail (known : List (List ℕ)) (budget : ℕ) (d : DeclaratorView) (low : ℕ) (i : InitDeclaratorView) (high : ℕ) (ts rest : List Terminal) : Type 0 where
  pub object : is_object i ≡ true
  pub alone : bare i ≡ Object d
  pub initializer : IsInitialized known i ts rest
  pub height : low ≡ declarator_height d → high ≡ local_init_height i
  pub within : low ≤ budget → high ≤ budget

-- an initializer, if there is one, behind a declarator at file scope
pub record FoundTail (known : List (List ℕ)) (budget : ℕ) (before : InitDeclaratorView) (low : ℕ) (d : InitDeclaratorView) (high : ℕ) (ts rest : List Terminal) : Type 0 where
  pub alone : bare before ≡ before → bare d ≡ before
  pub initializer : bare before ≡ before → IsInitialized known d ts rest
  pub height : low ≡ init_height before → high ≡ init_height d
  pub within : low ≤ budget → high ≤ budget

pub record FoundLocalDeclarator (known : List (List ℕ)) (budget : ℕ) (d : InitDeclaratorView) (high : ℕ) (ts rest : List Terminal) : Type 0 where
  pub derives : IsLocalDeclarator known d ts rest
  pub height : high ≡ local_init_height d
  pub within : high ≤ budget

-- the declarators of a declaration in a block, with the `;`
pub record FoundLocalDeclarators (known : List (List ℕ)) (budget : ℕ) (ds : List InitDeclaratorView) (high : ℕ) (ts rest : List Terminal) : Type 0 where
  pub last : List Terminal
  pub derive : LocalDeclarators known ds ts last
  pub ends : IsSign p.Semicolon last rest
  pub high_is : high ≡ highest local_init_height ds
  pub within : high ≤ budget

pub record FoundLocal (known : List (List ℕ)) (budget : ℕ) (l : LocalView) (high : ℕ) (ts rest : List Terminal) : Type 0 where
  pub derives : IsLocal known l ts rest
  pub height : high ≡ local_height l
  pub within : high ≤ budget
