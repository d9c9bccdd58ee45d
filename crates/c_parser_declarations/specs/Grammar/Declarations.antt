-- Parameters, the declarators of functions (6.7.6.3), and declarations (6.7).
use Rattle.std.specs.Prelude.{◌≡◌, ◌+◌, ℕ, Bool, true, false, ◌&&◌, ◌||◌, max, List, [], ◌∷◌, Option, Some, None}
use Rattle.std.specs.List.{list_all}
use Rattle.c_layout.specs.DeclarationTrees.{NameView, DeclaratorView, ParameterView, ParametersView, NoParameters, OnlyVoid, ParameterList, FunctionDeclaratorView, InitDeclaratorView, Object, Initialized, Prototype, LocalView, SpecTree, StorageWord, TypeOf, StructBody, EnumBody, spec_trees}
use Rattle.c_layout.specs.declared.syntax_tree.declarations.Storage.{Storage}
use Rattle.c_layout.specs.declared.syntax_tree.declarations.Storage.TheVariants as storage
use Rattle.c_layout.specs.declared.syntax_tree.declarations.TypeWord.TheVariants as type_word
use Rattle.c_parser_tokens.specs.declared.terminals.Terminal.{Terminal}
use Rattle.c_parser_tokens.specs.declared.terminals.Keyword.TheVariants as k
use Rattle.c_parser_tokens.specs.declared.terminals.Punctuator.TheVariants as p
use Rattle.c_parser_tokens.specs.declared.terminals.Symbol.{Symbol}
use Rattle.c_parser_tokens.specs.declared.terminals.Symbol.TheVariants as symbol
use Rattle.c_parser_expression_grammar.specs.Fronts.{first_symbol, first_place, behind_first, is_identifier_first, IsSign, IsWord, IsName}
use Rattle.c_parser_expression_grammar.specs.TypeNames.{Stars}
use Rattle.c_parser_declarations.specs.Grammar.Declarators.{IsDeclarator, declarator_height}
use Rattle.c_parser_declarations.specs.Grammar.Initializers.{DeriveInitializer, initializer_height}
use Rattle.c_parser_declarations.specs.Grammar.Lists.{Listed, highest}
use Rattle.c_parser_declarations.specs.Grammar.Specifiers.{IsSpec, IsNamed, spec_height}

-- a declarator or an abstract one, or nothing
abbrev pub Optional : List (List ℕ) → Option DeclaratorView → List Terminal → List Terminal → Type 0
Optional known None ts rest = rest ≡ ts
Optional known (Some d) ts rest = IsDeclarator known d ts rest

-- what a declarator or an abstract one begins with besides a name
abbrev pub is_declarator_sign : Symbol → Bool
is_declarator_sign (symbol.Punctuator p.Star) = true
is_declarator_sign (symbol.Punctuator p.LeftParenthesis) = true
is_declarator_sign (symbol.Punctuator p.LeftBracket) = true
is_declarator_sign _ = false

abbrev pub begins_declarator : List (List ℕ) → List Terminal → Bool
begins_declarator known ts = is_declarator_sign (first_symbol ts) || is_identifier_first known ts

pub record IsParameter (known : List (List ℕ)) (parameter : ParameterView) (ts rest : List Terminal) : Type 0 where
  pub behind : List Terminal
  pub place : parameter.at ≡ first_place ts
  pub spec : IsSpec known (spec_trees parameter.words) ts behind
  pub declarator : Optional known parameter.declarator behind rest

-- specifiers alone add nothing to the height
abbrev pub parameter_by : ℕ → Option DeclaratorView → ℕ
parameter_by words None = words
parameter_by words (Some d) = max words (declarator_height d) + 1

abbrev pub parameter_height : ParameterView → ℕ
parameter_height parameter = parameter_by (spec_height (spec_trees parameter.words)) parameter.declarator

abbrev pub is_void_type : SpecTree → Bool
is_void_type (TypeOf at type_word.Void) = true
is_void_type _ = false

abbrev pub is_only_void : List SpecTree → Option DeclaratorView → Bool
is_only_void (w ∷ []) None = is_void_type w
is_only_void _ _ = false

-- the one word `void`, which is no parameter
abbrev pub is_lone_void : List ParameterView → Bool
is_lone_void (parameter ∷ []) = is_only_void parameter.words parameter.declarator
is_lone_void _ = false

-- whether the word `void` and a `)` stand at the front
abbrev pub is_void_word : Symbol → Bool
is_void_word (symbol.Keyword k.Void) = true
is_void_word _ = false

abbrev pub is_closing : Symbol → Bool
is_closing (symbol.Punctuator p.RightParenthesis) = true
is_closing _ = false

abbrev pub is_void_first : List Terminal → Bool
is_void_first ts = is_void_word (first_symbol ts) && is_closing (first_symbol (behind_first ts))

-- what stands between the parentheses
abbrev pub Parameters : List (List ℕ) → ParametersView → List Terminal → List Terminal → Type 0
Parameters known NoParameters ts rest = rest ≡ ts
Parameters known OnlyVoid ts rest = IsWord k.Void ts rest
Parameters known (ParameterList items) ts rest = (is_lone_void items ≡ false) × Listed (IsParameter known) items ts rest

-- one parameter alone adds nothing to the height
abbrev pub list_height : List ParameterView → ℕ
list_height (parameter ∷ []) = parameter_height parameter
list_height items = highest parameter_height items + 1

abbrev pub parameters_height : ParametersView → ℕ
parameters_height NoParameters = 0
parameters_height OnlyVoid = 0
parameters_height (ParameterList items) = list_height items

-- the declarator of a function
pub record IsFunction (known : List (List ℕ)) (f : FunctionDeclaratorView) (ts rest : List Terminal) : Type 0 where
  pub behind_stars : List Terminal
  pub behind_name : List Terminal
  pub inside : List Terminal
  pub last : List Terminal
  pub stars : Stars f.stars ts behind_stars
  pub name : IsName known f.name.at f.name.text behind_stars behind_name
  pub opens : IsSign p.LeftParenthesis behind_name inside
  pub parameters : Parameters known f.parameters inside last
  pub closes : IsSign p.RightParenthesis last rest

abbrev pub function_height : FunctionDeclaratorView → ℕ
function_height f = parameters_height f.parameters + 1

-- ---- declarators with initializers

-- a declarator of an object or a function, without the initializer behind it
abbrev pub IsDeclared : List (List ℕ) → InitDeclaratorView → List Terminal → List Terminal → Type 0
IsDeclared known (Object d) ts rest = IsNamed known d ts rest
IsDeclared known (Initialized d equals i) ts rest = IsNamed known d ts rest
IsDeclared known (Prototype f) ts rest = IsFunction known f ts rest

-- the initializer behind it, if it has one
abbrev pub IsInitialized : List (List ℕ) → InitDeclaratorView → List Terminal → List Terminal → Type 0
IsInitialized known (Object d) ts rest = rest ≡ ts
IsInitialized known (Initialized d equals i) ts rest = (equals ≡ first_place ts) × (a : List Terminal) × IsSign p.Assign ts a × DeriveInitializer i known a rest
IsInitialized known (Prototype f) ts rest = rest ≡ ts

-- a declarator with its initializer; `inside` are the typedef names in force behind the declarator
pub record Initializes (known inside : List (List ℕ)) (d : InitDeclaratorView) (ts rest : List Terminal) : Type 0 where
  pub behind : List Terminal
  pub declarator : IsDeclared known d ts behind
  pub initializer : IsInitialized inside d behind rest

-- the declarator alone
abbrev pub bare : InitDeclaratorView → InitDeclaratorView
bare (Object d) = Object d
bare (Initialized d equals i) = Object d
bare (Prototype f) = Prototype f

-- the name that a declarator declares
abbrev pub name_of : InitDeclaratorView → Option NameView
name_of (Object d) = d.name
name_of (Initialized d equals i) = d.name
name_of (Prototype f) = Some f.name

-- at file scope a declarator with an initializer is a production
abbrev pub init_height : InitDeclaratorView → ℕ
init_height (Object d) = declarator_height d
init_height (Initialized d equals i) = max (declarator_height d) (initializer_height i) + 1
init_height (Prototype f) = function_height f

-- ---- declarations in blocks

-- in a block it is no production of its own
abbrev pub local_init_height : InitDeclaratorView → ℕ
local_init_height (Object d) = declarator_height d
local_init_height (Initialized d equals i) = max (declarator_height d) (initializer_height i)
local_init_height (Prototype f) = function_height f

abbrev pub is_object : InitDeclaratorView → Bool
is_object (Object d) = true
is_object (Initialized d equals i) = true
is_object (Prototype f) = false

-- a declarator of an object in a block, where no typedef names are declared
pub record IsLocalDeclarator (known : List (List ℕ)) (d : InitDeclaratorView) (ts rest : List Terminal) : Type 0 where
  pub object : is_object d ≡ true
  pub initializes : Initializes known known d ts rest

abbrev pub is_local_class : Storage → Bool
is_local_class storage.Typedef = false
is_local_class storage.Extern = false
is_local_class _ = true

-- a word that may stand in a block: no `typedef`, no `extern`, and no body
abbrev pub is_local_word : SpecTree → Bool
is_local_word (StorageWord at class) = is_local_class class
is_local_word (StructBody at tag members) = false
is_local_word (EnumBody at tag enumerators) = false
is_local_word _ = true

abbrev pub LocalDeclarators : List (List ℕ) → List InitDeclaratorView → List Terminal → List Terminal → Type 0
LocalDeclarators known [] ts rest = rest ≡ ts
LocalDeclarators known (d ∷ ds) ts rest = Listed (IsLocalDeclarator known) (d ∷ ds) ts rest

-- a declaration in a block or in a `for`
pub record IsLocal (known : List (List ℕ)) (l : LocalView) (ts rest : List Terminal) : Type 0 where
  pub behind : List Terminal
  pub last : List Terminal
  pub place : l.at ≡ first_place ts
  pub spec : IsSpec known (spec_trees l.words) ts behind
  pub local : list_all is_local_word l.words ≡ true
  pub declarators : LocalDeclarators known l.declarators behind last
  pub ends : IsSign p.Semicolon last rest

abbrev pub local_height : LocalView → ℕ
local_height l = max (spec_height (spec_trees l.words)) (highest local_init_height l.declarators) + 1
