-- What the readers of statements and external declarations answer.
use Rattle.std.specs.Prelude.{◌≡◌, ◌≤◌, ℕ, Bool, true, false, List, [], ◌++◌, Option}
use Rattle.cc_base.specs.declared.diagnostics.Place.{Place}
use Rattle.c_layout.specs.SyntaxTrees.{Tree}
use Rattle.c_layout.specs.DeclarationTrees.{ForFirstView, StatementTree, statement_trees, SpecTree, spec_trees, InitDeclaratorView, ExternalTree}
use Rattle.c_parser_tokens.specs.declared.terminals.Terminal.{Terminal}
use Rattle.c_parser_tokens.specs.declared.terminals.Keyword.TheVariants as k
use Rattle.c_parser_tokens.specs.declared.terminals.Punctuator.{Punctuator}
use Rattle.c_parser_tokens.specs.declared.terminals.Punctuator.TheVariants as p
use Rattle.c_parser_tokens.specs.declared.terminals.Symbol.{Symbol}
use Rattle.c_parser_tokens.specs.declared.terminals.Symbol.TheVariants as symbol
use Rattle.c_parser_expression_grammar.specs.Expressions.{height_of}
use Rattle.c_parser_expression_grammar.specs.Fronts.{first_symbol, first_place, IsSign}
use Rattle.c_parser_declarations.specs.Grammar.Declarations.{IsDeclared, bare, init_height}
use Rattle.c_parser_declarations.specs.Grammar.Lists.{highest}
use Rattle.c_parser_declarations.specs.Grammar.Specifiers.{IsSpec, spec_height}
use Rattle.c_parser_declarations.specs.Grammar.StorageClasses.{is_typedef}
use Rattle.c_parser.specs.Externals.{with_declared, with_all, in_force, in_force_behind, Further, IsExternal, external_height, ArePieces}
use Rattle.c_parser.specs.Statements.{Maybe, Condition, FirstClause, is_statement, is_open, DeriveStatement, DeriveStatements, maybe_height, first_height, statement_height, statements_height, IsBlock, block_height}

pub record FoundCondition (known : List (List ℕ)) (budget : ℕ) (e : Tree) (high : ℕ) (ts rest : List Terminal) : Type 0 where
  pub derives : Condition known e ts rest
  pub height : high ≡ height_of e
  pub within : high ≤ budget

-- an expression or nothing, and the sign behind it
pub record FoundMaybe (known : List (List ℕ)) (budget : ℕ) (end : Punctuator) (e : Option Tree) (high : ℕ) (ts rest : List Terminal) : Type 0 where
  pub last : List Terminal
  pub derives : Maybe known e ts last
  pub ends : IsSign end last rest
  pub height : high ≡ maybe_height e
  pub within : high ≤ budget

pub record FoundFirst (known : List (List ℕ)) (budget : ℕ) (first : ForFirstView) (high : ℕ) (ts rest : List Terminal) : Type 0 where
  pub derives : FirstClause known first ts rest
  pub height : high ≡ first_height first
  pub within : high ≤ budget

-- ---- statements

abbrev pub is_else : Symbol → Bool
is_else (symbol.Keyword k.Else) = true
is_else _ = false

-- a statement. Behind one that would take an `else` none stands
pub record FoundStatement (known : List (List ℕ)) (budget : ℕ) (s : StatementTree) (high : ℕ) (ts rest : List Terminal) : Type 0 where
  pub derives : DeriveStatement s known ts rest
  pub statement : is_statement s ≡ true
  pub stops : is_open s ≡ true → is_else (first_symbol rest) ≡ false
  pub height : high ≡ statement_height s
  pub within : high ≤ budget

-- a statement or a declaration
pub record FoundItem (known : List (List ℕ)) (budget : ℕ) (s : StatementTree) (high : ℕ) (ts rest : List Terminal) : Type 0 where
  pub derives : DeriveStatement s known ts rest
  pub height : high ≡ statement_height s
  pub within : high ≤ budget

-- items, one after another
pub record FoundItems (known : List (List ℕ)) (budget : ℕ) (ss : List StatementTree) (high : ℕ) (ts rest : List Terminal) : Type 0 where
  pub derive : DeriveStatements (statement_trees ss) known ts rest
  pub height : high ≡ statements_height (statement_trees ss)
  pub within : high ≤ budget

-- items behind a `{`, with the `}`
pub record FoundBraced (known : List (List ℕ)) (budget : ℕ) (ss : List StatementTree) (high : ℕ) (ts rest : List Terminal) : Type 0 where
  pub last : List Terminal
  pub derive : DeriveStatements (statement_trees ss) known ts last
  pub closes : IsSign p.RightBrace last rest
  pub height : high ≡ statements_height (statement_trees ss)
  pub within : high ≤ budget

pub record FoundBlock (known : List (List ℕ)) (budget : ℕ) (ss : List StatementTree) (high : ℕ) (ts rest : List Terminal) : Type 0 where
  pub block : IsBlock known (statement_trees ss) ts rest
  pub height : high ≡ block_height (statement_trees ss)
  pub within : high ≤ budget

-- ---- external declarations

-- declarators behind others, each behind a comma, and the typedef names that are in force behind them
pub record FoundFurther (gives : Bool) (known behind : List (List ℕ)) (budget : ℕ) (before all : List InitDeclaratorView) (high : ℕ) (ts rest : List Terminal) : Type 0 where
  pub more : List InitDeclaratorView
  pub all_is : all ≡ before ++ more
  pub derive : Further gives more known ts rest
  pub names : behind ≡ with_all gives known more
  pub height : high ≡ highest init_height more
  pub within : high ≤ budget

-- the same, with the `;`
pub record FoundLast (gives : Bool) (known behind : List (List ℕ)) (budget : ℕ) (before all : List InitDeclaratorView) (high : ℕ) (ts rest : List Terminal) : Type 0 where
  pub last : List Terminal
  pub further : FoundFurther gives known behind budget before all high ts last
  pub ends : IsSign p.Semicolon last rest

-- the specifiers and the first declarator without its initializer, behind which `ts` stand and the names
-- `known` are in force
pub record Begins (outer known : List (List ℕ)) (at : Place) (words : List SpecTree) (first : InitDeclaratorView) (start ts : List Terminal) : Type 0 where
  pub behind : List Terminal
  pub place : at ≡ first_place start
  pub spec : IsSpec outer (spec_trees words) start behind
  pub declarator : IsDeclared outer first behind ts
  pub alone : bare first ≡ first
  pub names : known ≡ with_declared (is_typedef words) outer first

-- an external declaration, behind specifiers of the height `least` and a declarator of the height `low`
pub record FoundBehind (known behind : List (List ℕ)) (budget : ℕ) (at : Place) (words : List SpecTree) (least : ℕ) (first : InitDeclaratorView) (low : ℕ) (e : ExternalTree) (high : ℕ) (ts rest : List Terminal) : Type 0 where
  pub goes : (outer : List (List ℕ)) (start : List Terminal) → Begins outer known at words first start ts → IsExternal outer e start rest
  pub names : (outer : List (List ℕ)) (start : List Terminal) → Begins outer known at words first start ts → behind ≡ in_force outer e
  pub height : least ≡ spec_height (spec_trees words) → low ≡ init_height first → high ≡ external_height e
  pub within : high ≤ budget

-- the same, behind specifiers alone
pub record FoundNamed (known behind : List (List ℕ)) (budget : ℕ) (at : Place) (words : List SpecTree) (least : ℕ) (e : ExternalTree) (high : ℕ) (ts rest : List Terminal) : Type 0 where
  pub goes : (start : List Terminal) → at ≡ first_place start → IsSpec known (spec_trees words) start ts → IsExternal known e start rest
  pub names : (start : List Terminal) → at ≡ first_place start → IsSpec known (spec_trees words) start ts → behind ≡ in_force known e
  pub height : least ≡ spec_height (spec_trees words) → high ≡ external_height e
  pub within : high ≤ budget

pub record FoundExternal (known behind : List (List ℕ)) (budget : ℕ) (e : ExternalTree) (high : ℕ) (ts rest : List Terminal) : Type 0 where
  pub derives : IsExternal known e ts rest
  pub names : behind ≡ in_force known e
  pub height : high ≡ external_height e
  pub within : high ≤ budget

-- the external declarations of the first pieces, and the typedef names in force behind them
pub record FoundPieces (es : List ExternalTree) (names : List (List ℕ)) (ts rest : List Terminal) : Type 0 where
  pub pieces : ArePieces es [] ts rest
  pub names_are : names ≡ in_force_behind [] es
