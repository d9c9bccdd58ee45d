-- Reading expressions. The first number bounds how deep readers call each other; what it reads need not
-- derive, so signs that close are skipped unseen.
use Rattle.std.proofs.Common.{ℕ, zero, suc, ◌+◌, Bool, true, false, cond, List, [], ◌∷◌, Option, Some, None, nat_lt}
use Rattle.c_layout.specs.SyntaxTrees.{Tree, Trees, Name, Number, Literal, Paren, Subscript, Call, Member, Arrow, Postfix, Prefix, Unary, SizeofExpr, SizeofType, Cast, Binary, Logical, Conditional, Assign, Comma, End, More}
use Rattle.c_layout.specs.declared.syntax_tree.expressions.StepOp.{StepOp}
use Rattle.c_layout.specs.declared.syntax_tree.expressions.UnaryOp.{UnaryOp}
use Rattle.c_parser_tokens.specs.declared.terminals.Terminal.{Terminal}
use Rattle.c_parser_tokens.specs.declared.terminals.Keyword.TheVariants as k
use Rattle.c_parser_tokens.specs.declared.terminals.Symbol.{Symbol}
use Rattle.c_parser_tokens.specs.declared.terminals.Symbol.TheVariants as symbol
use Rattle.c_parser_tokens.specs.declared.terminals.Punctuator.TheVariants as p
use Rattle.c_parser_expression_grammar.specs.Fronts.{first_symbol, first_place, first_text, behind_first, is_typedef}
use Rattle.c_parser_expression_grammar.specs.Levels.{step_of, unary_of}
use Rattle.c_parser_expression_grammar.specs.Spans.{Span}
use Rattle.c_parser_expression_grammar.specs.Continuations.{Continuation, Arguments, Index, OfObject, OfPointer, Stepped, With, Joined, Asks, Becomes, Follows, Nothing, continuation_of}
use Rattle.c_parser_theorems.specs.UniqueExpressions.Endings.{power}
use Rattle.c_parser_expression_grammar.specs.Levels.{binary_level, logical_level}
use Rattle.c_parser_theorems.proofs.unique_expressions.Scanning.{Skip}
use Rattle.c_parser_theorems.proofs.unique_expressions.WordReading.{Named, type_name}

abbrev pub Found : Type 0
Found = Option (Tree × List Terminal)

-- reads at a level
abbrev pub Reads : Type 0
Reads = ℕ → List Terminal → Found

abbrev pub on : Found → (Tree → List Terminal → Found) → Found
on None more = None
on (Some r) more = more r.0 r.1

abbrev pub or_else : Found → Found → Found
or_else None other = other
or_else (Some r) other = Some r

-- ---- lists

abbrev pub is_comma : Symbol → Bool
is_comma (symbol.Punctuator p.Comma) = true
is_comma _ = false

abbrev pub more_behind : Tree → List Terminal → (List Terminal → Trees × List Terminal) → Trees × List Terminal
more_behind e a more = cond (is_comma (first_symbol a)) (More e (more (behind_first a)).0, (more (behind_first a)).1) (More e End, a)

abbrev pub with_item : Found → List Terminal → (List Terminal → Trees × List Terminal) → Trees × List Terminal
with_item None ts more = (End, ts)
with_item (Some r) ts more = more_behind r.0 r.1 more

-- expressions with commas between them
abbrev pub several : (List Terminal → Found) → ℕ → List Terminal → Trees × List Terminal
several item zero ts = (End, ts)
several item (suc k) ts = with_item (item ts) ts (several item k)

-- ---- lengths of arrays

abbrev left_of : Found → Option (List Terminal)
left_of None = None
left_of (Some r) = Some r.1

abbrev pub skip_by : (List Terminal → Found) → Skip
skip_by item ts = left_of (item ts)

abbrev tree_then : Found → Trees → Trees
tree_then None more = End
tree_then (Some r) more = More r.0 more

-- the trees at spans
abbrev pub trees_at : (List Terminal → Found) → List Span → Trees
trees_at item [] = End
trees_at item (s ∷ more) = tree_then (item s.from) (trees_at item more)

-- ---- what an expression begins with

abbrev pub called : Reads → ℕ → List Terminal → Continuation → Found
called self m ts Arguments =
    let r = several (self 1) m (behind_first (behind_first ts)) in Some (Call (first_place ts) (first_text ts) r.0, behind_first r.1)
called self m ts _ = Some (Name (first_place ts) (first_text ts), behind_first ts)

abbrev pub type_behind : Reads → ℕ → List (List ℕ) → List Terminal → Named
type_behind self m known ts = type_name known (skip_by (self 2)) m ts

abbrev pub size_of : Reads → List Terminal → Named → Found
size_of self ts r = Some (SizeofType (first_place ts) r.name (trees_at (self 2) r.spans), behind_first r.left)

abbrev pub sized : Reads → ℕ → List (List ℕ) → List Terminal → Found
sized self m known ts =
    or_else (on (self 14 (behind_first ts)) (λ e rest. Some (SizeofExpr (first_place ts) e, rest))) (size_of self ts (type_behind self m known (behind_first (behind_first ts))))

abbrev pub cast_to : Reads → List Terminal → Named → Found
cast_to self ts r = on (self 13 (behind_first r.left)) (λ e rest. Some (Cast (first_place ts) r.name (trees_at (self 2) r.spans) e, rest))

abbrev pub enclosed : Reads → ℕ → List (List ℕ) → ℕ → List Terminal → Found
enclosed self m known low ts =
    or_else (on (self 0 (behind_first ts)) (λ e rest. Some (Paren (first_place ts) e, behind_first rest))) (cond (nat_lt low 14) (cast_to self ts (type_behind self m known (behind_first ts))) None)

abbrev pub prefixed : Reads → List Terminal → Option StepOp → Option UnaryOp → Found
prefixed self ts (Some op) other = on (self 14 (behind_first ts)) (λ e rest. Some (Prefix (first_place ts) op e, rest))
prefixed self ts None (Some op) = on (self 13 (behind_first ts)) (λ e rest. Some (Unary (first_place ts) op e, rest))
prefixed self ts None None = None

abbrev pub begin : Reads → ℕ → List (List ℕ) → ℕ → List Terminal → Symbol → Found
begin self m known low ts symbol.Identifier = cond (is_typedef known (first_text ts)) None (called self m ts (continuation_of (first_symbol (behind_first ts))))
begin self m known low ts (symbol.Constant value) = Some (Number (first_place ts) value, behind_first ts)
begin self m known low ts symbol.Literal = Some (Literal (first_place ts) (first_text ts), behind_first ts)
begin self m known low ts (symbol.Keyword k.Sizeof) = sized self m known ts
begin self m known low ts (symbol.Punctuator p.LeftParenthesis) = enclosed self m known low ts
begin self m known low ts (symbol.Punctuator s) = prefixed self ts (step_of (symbol.Punctuator s)) (unary_of (symbol.Punctuator s))
begin self m known low ts _ = None

-- ---- what goes on with an operand

abbrev pub go_on : Reads → Tree → List Terminal → Continuation → (Tree → List Terminal → Found) → Found
go_on self e ts Index more = on (self 0 (behind_first ts)) (λ i rest. more (Subscript (first_place ts) e i) (behind_first rest))
go_on self e ts OfObject more = more (Member (first_place ts) e (first_text (behind_first ts))) (behind_first (behind_first ts))
go_on self e ts OfPointer more = more (Arrow (first_place ts) e (first_text (behind_first ts))) (behind_first (behind_first ts))
go_on self e ts (Stepped op) more = more (Postfix (first_place ts) op e) (behind_first ts)
go_on self e ts (With op) more = on (self (binary_level op + 1) (behind_first ts)) (λ y rest. more (Binary (first_place ts) op e y) rest)
go_on self e ts (Joined op) more = on (self (logical_level op + 1) (behind_first ts)) (λ y rest. more (Logical (first_place ts) op e y) rest)
go_on self e ts Asks more = on (self 0 (behind_first ts)) (λ y a. on (self 2 (behind_first a)) (λ z rest. more (Conditional (first_place ts) e y z) rest))
go_on self e ts (Becomes op) more = on (self 1 (behind_first ts)) (λ y rest. more (Assign (first_place ts) op e y) rest)
go_on self e ts Follows more = on (self 1 (behind_first ts)) (λ y rest. more (Comma (first_place ts) e y) rest)
go_on self e ts Arguments more = None
go_on self e ts Nothing more = None

-- so many operators behind an operand
abbrev pub climb : Reads → ℕ → ℕ → Tree → List Terminal → Found
climb self zero low e ts = Some (e, ts)
climb self (suc j) low e ts = cond (nat_lt low (power (continuation_of (first_symbol ts)))) (go_on self e ts (continuation_of (first_symbol ts)) (climb self j low)) (Some (e, ts))

abbrev pub start : Reads → List (List ℕ) → ℕ → ℕ → ℕ → List Terminal → Found
start self known m j low ts = on (begin self m known low ts (first_symbol ts)) (climb self j low)

abbrev pub read : List (List ℕ) → ℕ → Reads
read known zero low ts = None
read known (suc m) low ts = start (read known m) known m m low ts
