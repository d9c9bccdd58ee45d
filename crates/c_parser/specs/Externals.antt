-- External declarations (6.9), and the typedef names that they put in force.
use Rattle.std.specs.Prelude.{◌≡◌, ◌+◌, ◌≤◌, ℕ, Bool, true, false, max, List, [], ◌∷◌, take, drop, Option, Some, None, Ok}
use Rattle.cc_base.specs.declared.lexemes.Token.{Token}
use Rattle.c_layout.specs.declared.data_model.Model.{Model}
use Rattle.c_layout.specs.DeclarationTrees.{NameView, InitDeclaratorView, Prototype, ExternalTree, Declared, Defined, spec_trees, statement_trees}
use Rattle.c_parser_tokens.specs.Classes.{classified}
use Rattle.c_parser_tokens.specs.declared.terminals.Terminal.{Terminal}
use Rattle.c_parser_tokens.specs.declared.terminals.Punctuator.TheVariants as p
use Rattle.c_parser_expression_grammar.specs.Fronts.{first_place, IsSign, with_text}
use Rattle.c_parser_declarations.specs.Grammar.Declarations.{Initializes, IsFunction, name_of, init_height, function_height}
use Rattle.c_parser_declarations.specs.Grammar.Lists.{highest}
use Rattle.c_parser_declarations.specs.Grammar.Specifiers.{IsSpec, spec_height}
use Rattle.c_parser_declarations.specs.Grammar.StorageClasses.{is_typedef}
use Rattle.c_parser.specs.Pieces.{piece_length}
use Rattle.c_parser.specs.Statements.{IsBlock, block_height}

-- ---- typedef names in force

abbrev pub with_name : List (List ℕ) → Option NameView → List (List ℕ)
with_name known None = known
with_name known (Some name) = with_text known name.text

-- those behind a declarator; it `gives` its name where `typedef` stands among the specifiers
abbrev pub with_declared : Bool → List (List ℕ) → InitDeclaratorView → List (List ℕ)
with_declared true known d = with_name known (name_of d)
with_declared false known d = known

abbrev pub with_all : Bool → List (List ℕ) → List InitDeclaratorView → List (List ℕ)
with_all gives known [] = known
with_all gives known (d ∷ ds) = with_all gives (with_declared gives known d) ds

-- those behind an external declaration
abbrev pub in_force : List (List ℕ) → ExternalTree → List (List ℕ)
in_force known (Declared at words ds) = with_all (is_typedef words) known ds
in_force known (Defined at words f body) = with_declared (is_typedef words) known (Prototype f)

-- and behind several
abbrev pub in_force_behind : List (List ℕ) → List ExternalTree → List (List ℕ)
in_force_behind known [] = known
in_force_behind known (e ∷ es) = in_force_behind (in_force known e) es

-- ---- external declarations

-- a declarator, whose own name may be in force in its initializer
abbrev pub IsFileDeclarator : Bool → List (List ℕ) → InitDeclaratorView → List Terminal → List Terminal → Type 0
IsFileDeclarator gives known d ts rest = Initializes known (with_declared gives known d) d ts rest

-- further declarators, each behind a comma
abbrev pub Further : Bool → List InitDeclaratorView → List (List ℕ) → List Terminal → List Terminal → Type 0
Further gives [] known ts rest = rest ≡ ts
Further gives (d ∷ ds) known ts rest =
    (a b : List Terminal) × IsSign p.Comma ts a × IsFileDeclarator gives known d a b × Further gives ds (with_declared gives known d) b rest

-- declarators with a comma between any two, or nothing
abbrev pub FileDeclarators : Bool → List InitDeclaratorView → List (List ℕ) → List Terminal → List Terminal → Type 0
FileDeclarators gives [] known ts rest = rest ≡ ts
FileDeclarators gives (d ∷ ds) known ts rest = (a : List Terminal) × IsFileDeclarator gives known d ts a × Further gives ds (with_declared gives known d) a rest

-- a declaration or the definition of a function, in whose body its own name is in force
abbrev pub IsExternal : List (List ℕ) → ExternalTree → List Terminal → List Terminal → Type 0
IsExternal known (Declared at words ds) ts rest =
    (at ≡ first_place ts) × (a b : List Terminal) × IsSpec known (spec_trees words) ts a × FileDeclarators (is_typedef words) ds known a b × IsSign p.Semicolon b rest
IsExternal known (Defined at words f body) ts rest =
    (at ≡ first_place ts) × (a b : List Terminal) × IsSpec known (spec_trees words) ts a × IsFunction known f a b
    × IsBlock (with_declared (is_typedef words) known (Prototype f)) (statement_trees body) b rest

abbrev pub external_height : ExternalTree → ℕ
external_height (Declared at words ds) = max (spec_height (spec_trees words)) (highest init_height ds) + 1
external_height (Defined at words f body) = max (max (spec_height (spec_trees words)) (function_height f)) (block_height (statement_trees body)) + 1

-- ---- units

-- a piece that is one external declaration of a height that is in
pub record IsPiece (known : List (List ℕ)) (e : ExternalTree) (ts : List Terminal) : Type 0 where
  pub derives : IsExternal known e ts []
  pub height : external_height e ≤ 256

-- one external declaration for each of the first pieces
abbrev pub ArePieces : List ExternalTree → List (List ℕ) → List Terminal → List Terminal → Type 0
ArePieces [] known ts rest = rest ≡ ts
ArePieces (e ∷ es) known ts rest = IsPiece known e (take (piece_length ts) ts) × ArePieces es (in_force known e) (drop (piece_length ts) ts) rest

-- a translation unit: no number of a bad form, no word that is left out, and one external declaration for
-- each piece
pub record IsUnit (model : Model) (tokens : List Token) (es : List ExternalTree) : Type 0 where
  pub terminals : List Terminal
  pub classes : classified model tokens ≡ Ok terminals
  pub pieces : ArePieces es [] terminals []
