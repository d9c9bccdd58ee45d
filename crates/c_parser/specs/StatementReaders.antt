-- The readers of statements and blocks (6.8) as definitions.
use Rattle.std.specs.Prelude.{◌&&◌, ℕ, zero, suc, Bool, true, false, cond, max, length, List, [], Option, Some, None}
use Rattle.c_layout.specs.SyntaxTrees.{Tree}
use Rattle.c_layout.specs.DeclarationTrees.{LocalView, ForFirstView, NoClause, Clause, Declares, StatementTree, Declaration, Label, Case, Default, Block, Expression, If, IfElse, Switch, While, Do, For, Goto, Continue, Break, Return, statement_trees}
use Rattle.c_parser_tokens.specs.declared.terminals.Keyword.{Keyword}
use Rattle.c_parser_tokens.specs.declared.terminals.Keyword.TheVariants as k
use Rattle.c_parser_tokens.specs.declared.terminals.Symbol.{Symbol}
use Rattle.c_parser_tokens.specs.declared.terminals.Symbol.TheVariants as symbol
use Rattle.c_parser_tokens.specs.declared.terminals.Terminal.{Terminal}
use Rattle.c_parser_expression_grammar.specs.Fronts.{first_symbol, first_place, behind_first, is_identifier_first, begins_specifiers}
use Rattle.c_parser.specs.Findings.{is_else}
use Rattle.c_parser_expression_grammar.specs.Readings.{Reading, is_left_parenthesis, is_right_parenthesis, is_left_brace, is_right_brace, is_colon}
use Rattle.c_parser_expression_grammar.specs.ExpressionReaders.{Readers}
use Rattle.c_parser_expression_grammar.specs.TypeNameReaders.{readers_inside, all_readers}
use Rattle.c_parser_declarations.specs.Grammar.Items.{Item, GotItem, item_of, after_item, one_more}
use Rattle.c_parser_declarations.specs.Grammar.DeclarationReaders.{local_declaration}
use Rattle.c_parser_declarations.specs.Grammar.DeclaratorReaders.{name_at}
use Rattle.c_parser_declarations.specs.Grammar.SpecifierReaders.{raised, is_semicolon}

-- ---- what statements are made of besides statements

-- a sign that has to stand next
abbrev pub expected : {X : Type 0} → (Symbol → Bool) → List Terminal → (List Terminal → Option X) → Option X
expected is ts more = cond (is (first_symbol ts)) (more (behind_first ts)) None

abbrev pub tree_item : Reading → Option (GotItem Tree)
tree_item None = None
tree_item (Some g) = Some (item_of g.tree g.height g.rest)

abbrev pub closed : GotItem Tree → Option (GotItem Tree)
closed g = expected is_right_parenthesis g.rest (λ rest. Some (item_of g.item g.height rest))

-- an expression in the parentheses that belong to a statement
abbrev pub condition : Readers → Item Tree
condition i ts = expected is_left_parenthesis ts (λ a. after_item (tree_item (i.expression a)) closed)

abbrev pub ended : (Symbol → Bool) → GotItem Tree → Option (GotItem (Option Tree))
ended is g = expected is g.rest (λ rest. Some (item_of (Some g.item) g.height rest))

-- the expression before a sign, if one is there, with the sign
abbrev pub optional_expression : (Symbol → Bool) → Readers → Item (Option Tree)
optional_expression is i ts = cond (is (first_symbol ts)) (Some (item_of None 0 (behind_first ts))) (after_item (tree_item (i.expression ts)) (ended is))

abbrev pub clause_of : Option Tree → ForFirstView
clause_of None = NoClause
clause_of (Some e) = Clause e

abbrev pub local_inside : List (List ℕ) → ℕ → Item LocalView
local_inside known zero = λ ts. None
local_inside known (suc b) = local_declaration known b

-- the first clause of a `for` without a declaration
abbrev pub first_value : Readers → Item ForFirstView
first_value i ts = after_item (optional_expression is_semicolon i ts) (λ e. Some (item_of (clause_of e.item) e.height e.rest))

abbrev pub as_declares : GotItem LocalView → Option (GotItem ForFirstView)
as_declares l = Some (item_of (Declares l.item) l.height l.rest)

abbrev pub first_local : List (List ℕ) → ℕ → Item ForFirstView
first_local known b ts = after_item (local_declaration known b ts) as_declares

-- the first clause of a `for`, with its `;`
abbrev pub for_first : List (List ℕ) → ℕ → Item ForFirstView
for_first known b ts =
    cond (begins_specifiers known ts) (after_item (local_inside known b ts) as_declares) (first_value (readers_inside known b) ts)

-- within a budget of its own
abbrev pub for_first_within : List (List ℕ) → ℕ → Item ForFirstView
for_first_within known b ts = cond (begins_specifiers known ts) (first_local known b ts) (first_value (all_readers known b) ts)

-- ---- jumps and expression statements

abbrev pub goto_statement : List (List ℕ) → ℕ → Item StatementTree
goto_statement known b ts =
    cond (is_identifier_first known (behind_first ts)) (expected is_semicolon (behind_first (behind_first ts)) (λ rest. raised b (Goto (first_place ts) (name_at (behind_first ts))) 0 rest)) None

abbrev pub continue_statement : ℕ → Item StatementTree
continue_statement b ts = expected is_semicolon (behind_first ts) (λ rest. raised b (Continue (first_place ts)) 0 rest)

abbrev pub break_statement : ℕ → Item StatementTree
break_statement b ts = expected is_semicolon (behind_first ts) (λ rest. raised b (Break (first_place ts)) 0 rest)

abbrev pub return_statement : ℕ → Readers → Item StatementTree
return_statement b i ts = after_item (optional_expression is_semicolon i (behind_first ts)) (λ e. raised b (Return (first_place ts) e.item) e.height e.rest)

abbrev pub value_statement : ℕ → Readers → Item StatementTree
value_statement b i ts =
    cond (is_semicolon (first_symbol ts)) (Some (item_of (Expression (first_place ts) None) 0 (behind_first ts)))
    (after_item (tree_item (i.expression ts)) (λ e. expected is_semicolon e.rest (λ rest. raised b (Expression (first_place ts) (Some e.item)) e.height rest)))

-- ---- statements with statements in them. `b` is the budget, `i` are the readers of expressions inside, `s` is the
-- reader of statements inside.

abbrev pub label_statement : ℕ → Item StatementTree → Item StatementTree
label_statement b s ts = after_item (s (behind_first (behind_first ts))) (λ g. raised b (Label (name_at ts) g.item) g.height g.rest)

abbrev pub case_statement : ℕ → Readers → Item StatementTree → Item StatementTree
case_statement b i s ts =
    after_item (tree_item (i.conditional (behind_first ts))) (λ e. expected is_colon e.rest (λ a. after_item (s a) (λ g. raised b (Case (first_place ts) e.item g.item) (max e.height g.height) g.rest)))

abbrev pub default_statement : ℕ → Item StatementTree → Item StatementTree
default_statement b s ts = expected is_colon (behind_first ts) (λ a. after_item (s a) (λ g. raised b (Default (first_place ts) g.item) g.height g.rest))

-- an `else` goes with the nearest `if` before it
abbrev pub behind_if : ℕ → Item StatementTree → List Terminal → GotItem Tree → GotItem StatementTree → Option (GotItem StatementTree)
behind_if b s ts e g =
    cond (is_else (first_symbol g.rest)) (after_item (s (behind_first g.rest)) (λ t. raised b (IfElse (first_place ts) e.item g.item t.item) (max (max e.height g.height) t.height) t.rest))
    (raised b (If (first_place ts) e.item g.item) (max e.height g.height) g.rest)

abbrev pub if_statement : ℕ → Readers → Item StatementTree → Item StatementTree
if_statement b i s ts = after_item (condition i (behind_first ts)) (λ e. after_item (s e.rest) (behind_if b s ts e))

abbrev pub switch_statement : ℕ → Readers → Item StatementTree → Item StatementTree
switch_statement b i s ts = after_item (condition i (behind_first ts)) (λ e. after_item (s e.rest) (λ g. raised b (Switch (first_place ts) e.item g.item) (max e.height g.height) g.rest))

abbrev pub while_statement : ℕ → Readers → Item StatementTree → Item StatementTree
while_statement b i s ts = after_item (condition i (behind_first ts)) (λ e. after_item (s e.rest) (λ g. raised b (While (first_place ts) e.item g.item) (max e.height g.height) g.rest))

abbrev pub is_while : Symbol → Bool
is_while (symbol.Keyword k.While) = true
is_while _ = false

abbrev pub ended_do : ℕ → List Terminal → GotItem StatementTree → GotItem Tree → Option (GotItem StatementTree)
ended_do b ts g e = expected is_semicolon e.rest (λ rest. raised b (Do (first_place ts) g.item e.item) (max g.height e.height) rest)

abbrev pub do_statement : ℕ → Readers → Item StatementTree → Item StatementTree
do_statement b i s ts = after_item (s (behind_first ts)) (λ g. expected is_while g.rest (λ a. after_item (condition i a) (ended_do b ts g)))

-- behind the clauses of a `for`
abbrev pub for_body : ℕ → Item StatementTree → List Terminal → GotItem ForFirstView → GotItem (Option Tree) → GotItem (Option Tree) → Option (GotItem StatementTree)
for_body b s ts f c e = after_item (s e.rest) (λ g. raised b (For (first_place ts) f.item c.item e.item g.item) (max (max (max f.height c.height) e.height) g.height) g.rest)

abbrev pub for_clauses : ℕ → Readers → Item StatementTree → List Terminal → GotItem ForFirstView → Option (GotItem StatementTree)
for_clauses b i s ts f =
    after_item (optional_expression is_semicolon i f.rest) (λ c. after_item (optional_expression is_right_parenthesis i c.rest) (for_body b s ts f c))

abbrev pub for_statement : List (List ℕ) → ℕ → Readers → Item StatementTree → Item StatementTree
for_statement known b i s ts = expected is_left_parenthesis (behind_first ts) (λ a. after_item (for_first known b a) (for_clauses b i s ts))

-- ---- blocks

abbrev pub as_declaration : GotItem LocalView → Option (GotItem StatementTree)
as_declaration l = Some (item_of (Declaration l.item) l.height l.rest)

abbrev pub declared_item : List (List ℕ) → ℕ → Item StatementTree
declared_item known b ts = after_item (local_declaration known b ts) as_declaration

-- an item of a block: a declaration or a statement
abbrev pub block_item : List (List ℕ) → ℕ → Item StatementTree → Item StatementTree
block_item known b s ts = cond (begins_specifiers known ts) (after_item (local_inside known b ts) as_declaration) (s ts)

abbrev pub no_item : List Terminal → Option (GotItem (List StatementTree))
no_item ts = Some (item_of [] 0 (behind_first ts))

-- the items behind a `{`, with the `}`
abbrev pub block_items : Item StatementTree → ℕ → Item (List StatementTree)
block_items item zero ts = cond (is_right_brace (first_symbol ts)) (no_item ts) None
block_items item (suc turns) ts =
    cond (is_right_brace (first_symbol ts)) (no_item ts) (after_item (item ts) (λ g. after_item (block_items item turns g.rest) (one_more g)))

abbrev pub block : List (List ℕ) → ℕ → Item StatementTree → Item (List StatementTree)
block known b s ts = expected is_left_brace ts (λ a. after_item (block_items (block_item known b s) (length a) a) (λ g. raised b g.item g.height g.rest))

abbrev pub block_statement : List (List ℕ) → ℕ → Item StatementTree → Item StatementTree
block_statement known b s ts = after_item (block known b s ts) (λ g. Some (item_of (Block (first_place ts) (statement_trees g.item)) g.height g.rest))

-- ---- statements

abbrev pub plain_statement : List (List ℕ) → ℕ → Readers → List Terminal → Keyword → Option (GotItem StatementTree)
plain_statement known b i ts k.Goto = goto_statement known b ts
plain_statement known b i ts k.Continue = continue_statement b ts
plain_statement known b i ts k.Break = break_statement b ts
plain_statement known b i ts k.Return = return_statement b i ts
plain_statement known b i ts _ = value_statement b i ts

abbrev pub keyword_statement : List (List ℕ) → ℕ → Readers → Item StatementTree → List Terminal → Keyword → Option (GotItem StatementTree)
keyword_statement known b i s ts k.Case = case_statement b i s ts
keyword_statement known b i s ts k.Default = default_statement b s ts
keyword_statement known b i s ts k.If = if_statement b i s ts
keyword_statement known b i s ts k.Switch = switch_statement b i s ts
keyword_statement known b i s ts k.While = while_statement b i s ts
keyword_statement known b i s ts k.Do = do_statement b i s ts
keyword_statement known b i s ts k.For = for_statement known b i s ts
keyword_statement known b i s ts w = plain_statement known b i ts w

-- whether a name with a `:` stands there
abbrev pub is_label : List (List ℕ) → List Terminal → Bool
is_label known ts = is_identifier_first known ts && is_colon (first_symbol (behind_first ts))

-- a statement with the label that has to stand next
abbrev pub labelled : List (List ℕ) → ℕ → Item StatementTree → Item StatementTree
labelled known b s ts = cond (is_label known ts) (label_statement b s ts) None

abbrev pub other_statement : List (List ℕ) → ℕ → Readers → Item StatementTree → Item StatementTree
other_statement known b i s ts = cond (is_left_brace (first_symbol ts)) (block_statement known b s ts) (cond (is_label known ts) (label_statement b s ts) (value_statement b i ts))

abbrev pub statement_by : List (List ℕ) → ℕ → Readers → Item StatementTree → List Terminal → Symbol → Option (GotItem StatementTree)
statement_by known b i s ts (symbol.Keyword w) = keyword_statement known b i s ts w
statement_by known b i s ts _ = other_statement known b i s ts

abbrev pub statement_at : List (List ℕ) → ℕ → Item StatementTree → Item StatementTree
statement_at known b s ts = statement_by known b (readers_inside known b) s ts (first_symbol ts)

-- the statements inside
abbrev pub statement_inside : List (List ℕ) → ℕ → Item StatementTree
statement_inside known zero = λ ts. None
statement_inside known (suc b) = statement_at known b (statement_inside known b)

-- the statements within a budget
abbrev pub statement : List (List ℕ) → ℕ → Item StatementTree
statement known b = statement_at known b (statement_inside known b)

-- ---- what stands in a block, within a budget of its own

abbrev pub item_within : List (List ℕ) → ℕ → Item StatementTree
item_within known b ts = cond (begins_specifiers known ts) (declared_item known b ts) (statement known b ts)

abbrev pub items_within : List (List ℕ) → ℕ → Item (List StatementTree)
items_within known b ts = block_items (item_within known b) (length ts) ts
