-- The grammar of statements (6.8) as a relation: a statement derives from the terminals `ts` to those that
-- it leaves, `rest`, with the typedef names in force.
use Rattle.std.specs.Prelude.{◌≡◌, ◌+◌, ℕ, Bool, true, false, max, List, Option, Some, None}
use Rattle.c_layout.specs.SyntaxTrees.{Tree}
use Rattle.c_layout.specs.DeclarationTrees.{ForFirstView, NoClause, Clause, Declares, StatementTree, StatementTrees, Declaration, Label, Case, Default, Block, Expression, If, IfElse, Switch, While, Do, For, Goto, Continue, Break, Return, NoStatement, MoreStatements}
use Rattle.c_parser_tokens.specs.declared.terminals.Terminal.{Terminal}
use Rattle.c_parser_tokens.specs.declared.terminals.Keyword.TheVariants as k
use Rattle.c_parser_tokens.specs.declared.terminals.Punctuator.TheVariants as p
use Rattle.c_parser_expression_grammar.specs.Expressions.{Derives, height_of}
use Rattle.c_parser_expression_grammar.specs.Fronts.{first_place, IsSign, IsWord, IsName}
use Rattle.c_parser_declarations.specs.Grammar.Declarations.{IsLocal, local_height}

-- an expression, or nothing
abbrev pub Maybe : List (List ℕ) → Option Tree → List Terminal → List Terminal → Type 0
Maybe known None ts rest = rest ≡ ts
Maybe known (Some e) ts rest = Derives e known 0 ts rest

-- an expression in parentheses
abbrev pub Condition : List (List ℕ) → Tree → List Terminal → List Terminal → Type 0
Condition known e ts rest = (a b : List Terminal) × IsSign p.LeftParenthesis ts a × Derives e known 0 a b × IsSign p.RightParenthesis b rest

-- the first clause of a `for`, with its `;`
abbrev pub FirstClause : List (List ℕ) → ForFirstView → List Terminal → List Terminal → Type 0
FirstClause known NoClause ts rest = IsSign p.Semicolon ts rest
FirstClause known (Clause e) ts rest = (a : List Terminal) × Derives e known 0 ts a × IsSign p.Semicolon a rest
FirstClause known (Declares l) ts rest = IsLocal known l ts rest

-- a declaration is an item of a block and no statement
abbrev pub is_statement : StatementTree → Bool
is_statement (Declaration l) = false
is_statement _ = true

-- whether a statement ends in an `if` without `else`, which would take an `else` behind it
abbrev pub is_open : StatementTree → Bool
is_open (Label name s) = is_open s
is_open (Case at e s) = is_open s
is_open (Default at s) = is_open s
is_open (If at e s) = true
is_open (IfElse at e s t) = is_open t
is_open (Switch at e s) = is_open s
is_open (While at e s) = is_open s
is_open (For at first condition step s) = is_open s
is_open _ = false

abbrev mutual
  -- a statement or, where an item of a block may stand, a declaration
  pub DeriveStatement : StatementTree → List (List ℕ) → List Terminal → List Terminal → Type 0
  DeriveStatement (Declaration l) known ts rest = IsLocal known l ts rest
  DeriveStatement (Label name s) known ts rest =
      (a b : List Terminal) × IsName known name.at name.text ts a × IsSign p.Colon a b × (is_statement s ≡ true) × DeriveStatement s known b rest
  DeriveStatement (Case at e s) known ts rest =
      (at ≡ first_place ts) × (a b c : List Terminal)
      × IsWord k.Case ts a × Derives e known 2 a b × IsSign p.Colon b c × (is_statement s ≡ true) × DeriveStatement s known c rest
  DeriveStatement (Default at s) known ts rest =
      (at ≡ first_place ts) × (a b : List Terminal) × IsWord k.Default ts a × IsSign p.Colon a b × (is_statement s ≡ true) × DeriveStatement s known b rest
  DeriveStatement (Block at items) known ts rest =
      (at ≡ first_place ts) × (a b : List Terminal) × IsSign p.LeftBrace ts a × DeriveStatements items known a b × IsSign p.RightBrace b rest
  DeriveStatement (Expression at e) known ts rest = (at ≡ first_place ts) × (a : List Terminal) × Maybe known e ts a × IsSign p.Semicolon a rest
  DeriveStatement (If at e s) known ts rest =
      (at ≡ first_place ts) × (a b : List Terminal) × IsWord k.If ts a × Condition known e a b × (is_statement s ≡ true) × DeriveStatement s known b rest
  DeriveStatement (IfElse at e s t) known ts rest =
      (at ≡ first_place ts) × (a b c d : List Terminal)
      × IsWord k.If ts a × Condition known e a b × (is_statement s ≡ true) × (is_open s ≡ false) × DeriveStatement s known b c
      × IsWord k.Else c d × (is_statement t ≡ true) × DeriveStatement t known d rest
  DeriveStatement (Switch at e s) known ts rest =
      (at ≡ first_place ts) × (a b : List Terminal) × IsWord k.Switch ts a × Condition known e a b × (is_statement s ≡ true) × DeriveStatement s known b rest
  DeriveStatement (While at e s) known ts rest =
      (at ≡ first_place ts) × (a b : List Terminal) × IsWord k.While ts a × Condition known e a b × (is_statement s ≡ true) × DeriveStatement s known b rest
  DeriveStatement (Do at s e) known ts rest =
      (at ≡ first_place ts) × (a b c d : List Terminal)
      × IsWord k.Do ts a × (is_statement s ≡ true) × DeriveStatement s known a b × IsWord k.While b c × Condition known e c d × IsSign p.Semicolon d rest
  DeriveStatement (For at first condition step s) known ts rest =
      (at ≡ first_place ts) × (a b c d e f g : List Terminal)
      × IsWord k.For ts a × IsSign p.LeftParenthesis a b × FirstClause known first b c × Maybe known condition c d × IsSign p.Semicolon d e
      × Maybe known step e f × IsSign p.RightParenthesis f g × (is_statement s ≡ true) × DeriveStatement s known g rest
  DeriveStatement (Goto at name) known ts rest =
      (at ≡ first_place ts) × (a b : List Terminal) × IsWord k.Goto ts a × IsName known name.at name.text a b × IsSign p.Semicolon b rest
  DeriveStatement (Continue at) known ts rest = (at ≡ first_place ts) × (a : List Terminal) × IsWord k.Continue ts a × IsSign p.Semicolon a rest
  DeriveStatement (Break at) known ts rest = (at ≡ first_place ts) × (a : List Terminal) × IsWord k.Break ts a × IsSign p.Semicolon a rest
  DeriveStatement (Return at e) known ts rest =
      (at ≡ first_place ts) × (a b : List Terminal) × IsWord k.Return ts a × Maybe known e a b × IsSign p.Semicolon b rest

  -- statements and declarations, one after another
  pub DeriveStatements : StatementTrees → List (List ℕ) → List Terminal → List Terminal → Type 0
  DeriveStatements NoStatement known ts rest = rest ≡ ts
  DeriveStatements (MoreStatements s more) known ts rest = (a : List Terminal) × DeriveStatement s known ts a × DeriveStatements more known a rest

-- ---- heights

abbrev pub maybe_height : Option Tree → ℕ
maybe_height None = 0
maybe_height (Some e) = height_of e

abbrev pub first_height : ForFirstView → ℕ
first_height NoClause = 0
first_height (Clause e) = height_of e
first_height (Declares l) = local_height l

-- `;` alone is one token
abbrev pub expression_height : Option Tree → ℕ
expression_height None = 0
expression_height (Some e) = height_of e + 1

abbrev mutual
  pub statement_height : StatementTree → ℕ
  statement_height (Declaration l) = local_height l
  statement_height (Label name s) = statement_height s + 1
  statement_height (Case at e s) = max (height_of e) (statement_height s) + 1
  statement_height (Default at s) = statement_height s + 1
  statement_height (Block at items) = statements_height items + 1
  statement_height (Expression at e) = expression_height e
  statement_height (If at e s) = max (height_of e) (statement_height s) + 1
  statement_height (IfElse at e s t) = max (max (height_of e) (statement_height s)) (statement_height t) + 1
  statement_height (Switch at e s) = max (height_of e) (statement_height s) + 1
  statement_height (While at e s) = max (height_of e) (statement_height s) + 1
  statement_height (Do at s e) = max (statement_height s) (height_of e) + 1
  statement_height (For at first condition step s) = max (max (max (first_height first) (maybe_height condition)) (maybe_height step)) (statement_height s) + 1
  statement_height (Goto at name) = 1
  statement_height (Continue at) = 1
  statement_height (Break at) = 1
  statement_height (Return at e) = maybe_height e + 1

  pub statements_height : StatementTrees → ℕ
  statements_height NoStatement = 0
  statements_height (MoreStatements s more) = max (statement_height s) (statements_height more)

-- a block, by its items
pub record IsBlock (known : List (List ℕ)) (items : StatementTrees) (ts rest : List Terminal) : Type 0 where
  pub inside : List Terminal
  pub last : List Terminal
  pub opens : IsSign p.LeftBrace ts inside
  pub derive : DeriveStatements items known inside last
  pub closes : IsSign p.RightBrace last rest

abbrev pub block_height : StatementTrees → ℕ
block_height items = statements_height items + 1
