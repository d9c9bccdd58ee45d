-- The readers of expressions as definitions: what each answers for the terminals before it, within a budget, which is
-- the height that is left. What stands inside of a production is read within a budget of one less.
use Rattle.std.specs.Prelude.{◌+◌, ◌&&◌, ℕ, zero, suc, Bool, cond, max, length, nat_le, List, Option, Some, None}
use Rattle.c_layout.specs.SyntaxTrees.{Tree, Name, Number, Literal, Paren, Subscript, Call, Member, Arrow, Postfix, Prefix, Unary, SizeofExpr, SizeofType, Cast, Conditional, Assign, Comma, End, More}
use Rattle.c_layout.specs.declared.syntax_tree.expressions.AssignOp.{AssignOp}
use Rattle.c_layout.specs.declared.syntax_tree.expressions.StepOp.{StepOp}
use Rattle.c_layout.specs.declared.syntax_tree.expressions.UnaryOp.{UnaryOp}
use Rattle.c_parser_tokens.specs.declared.terminals.Terminal.{Terminal}
use Rattle.c_parser_tokens.specs.declared.terminals.Punctuator.TheVariants as p
use Rattle.c_parser_tokens.specs.declared.terminals.Symbol.{Symbol}
use Rattle.c_parser_tokens.specs.declared.terminals.Symbol.TheVariants as symbol
use Rattle.c_parser_expression_grammar.specs.declared.operators.Infix.{Infix}
use Rattle.c_parser_expression_grammar.specs.declared.operators.Infix.TheVariants as between
use Rattle.c_parser_expression_grammar.specs.Findings.{infix_tree, is_unary}
use Rattle.c_parser_expression_grammar.specs.Fronts.{first_symbol, first_place, first_text, behind_first, is_typedef, is_identifier_first, begins_specifiers}
use Rattle.c_parser_expression_grammar.specs.Levels.{op_level, step_of, unary_of, assign_of, goes_on}
use Rattle.c_parser_expression_grammar.specs.Continuations.{Continuation, With, Joined, continuation_of}
use Rattle.c_parser_expression_grammar.specs.Readings.{Got, GotSome, GotName, GotLayers, Reading, got, after, after_some, after_name, is_left_parenthesis, is_right_parenthesis, is_left_bracket, is_right_bracket, is_question, is_colon, is_comma, is_sizeof, expect, made}

-- the readers of one budget
pub record Readers : Type 0 where
  pub expression : List Terminal → Reading
  pub assignment : List Terminal → Reading
  pub conditional : List Terminal → Reading
  pub binary : ℕ → List Terminal → Reading
  pub cast : List Terminal → Reading
  pub unary : List Terminal → Reading
  pub postfix : List Terminal → Reading
  pub type_name : List Terminal → Option GotName
  pub declarator : List Terminal → Option GotLayers

-- where no height is left
abbrev pub no_readers : Readers
no_readers = record {
  expression = λ ts. None;
  assignment = λ ts. None;
  conditional = λ ts. None;
  binary = λ level ts. None;
  cast = λ ts. None;
  unary = λ ts. None;
  postfix = λ ts. None;
  type_name = λ ts. None;
  declarator = λ ts. None;
}

-- ---- primary expressions and calls. `b` is the budget, `i` are the readers of what stands inside.

abbrev pub more_arguments : Got → Option GotSome → Option GotSome
more_arguments g None = None
more_arguments g (Some more) = Some (record { trees = More g.tree more.trees; height = max g.height more.height; rest = more.rest })

abbrev pub last_argument : Got → Option GotSome
last_argument g = cond (is_right_parenthesis (first_symbol g.rest)) (Some (record { trees = More g.tree End; height = g.height; rest = behind_first g.rest })) None

abbrev pub argument_then : Reading → (List Terminal → Option GotSome) → Option GotSome
argument_then None more = None
argument_then (Some g) more = cond (is_comma (first_symbol g.rest)) (more_arguments g (more (behind_first g.rest))) (last_argument g)

abbrev pub some_arguments : Readers → ℕ → List Terminal → Option GotSome
some_arguments i zero ts = None
some_arguments i (suc turns) ts = argument_then (i.assignment ts) (some_arguments i turns)

-- the arguments behind a `(`, with the `)`
abbrev pub arguments : Readers → List Terminal → Option GotSome
arguments i ts = cond (is_right_parenthesis (first_symbol ts)) (Some (record { trees = End; height = 0; rest = behind_first ts })) (some_arguments i (length ts) ts)

abbrev pub call : ℕ → Readers → List Terminal → Reading
call b i ts = after_some (arguments i (behind_first (behind_first ts))) (λ g. made b (Call (first_place ts) (first_text ts) g.trees) g.height g.rest)

abbrev pub name_or_call : ℕ → Readers → List (List ℕ) → List Terminal → Reading
name_or_call b i known ts =
    cond (is_typedef known (first_text ts)) None
    (cond (is_left_parenthesis (first_symbol (behind_first ts))) (call b i ts) (Some (got (Name (first_place ts) (first_text ts)) 0 (behind_first ts))))

abbrev pub parenthesized : ℕ → Readers → List Terminal → Reading
parenthesized b i ts =
    expect is_left_parenthesis ts (λ a. after (i.expression a) (λ g. expect is_right_parenthesis g.rest (λ rest. made b (Paren (first_place ts) g.tree) g.height rest)))

abbrev pub primary_by : ℕ → Readers → List (List ℕ) → List Terminal → Symbol → Reading
primary_by b i known ts (symbol.Constant value) = Some (got (Number (first_place ts) value) 0 (behind_first ts))
primary_by b i known ts symbol.Literal = Some (got (Literal (first_place ts) (first_text ts)) 0 (behind_first ts))
primary_by b i known ts symbol.Identifier = name_or_call b i known ts
primary_by b i known ts _ = parenthesized b i ts

abbrev pub primary : ℕ → Readers → List (List ℕ) → List Terminal → Reading
primary b i known ts = primary_by b i known ts (first_symbol ts)

-- ---- postfix expressions

abbrev pub subscript : ℕ → Readers → Got → Reading
subscript b i g =
    expect is_left_bracket g.rest (λ a. after (i.expression a) (λ x. expect is_right_bracket x.rest (λ rest. made b (Subscript (first_place g.rest) g.tree x.tree) (max g.height x.height) rest)))

-- a member's name behind `.` or `->`
abbrev pub member : ℕ → List (List ℕ) → Got → Tree → Reading
member b known g e = cond (is_identifier_first known (behind_first g.rest)) (made b e g.height (behind_first (behind_first g.rest))) None

abbrev pub suffix_by : ℕ → Readers → List (List ℕ) → Got → Option StepOp → Symbol → Reading
suffix_by b i known g (Some op) s = made b (Postfix (first_place g.rest) op g.tree) g.height (behind_first g.rest)
suffix_by b i known g None (symbol.Punctuator p.Dot) = member b known g (Member (first_place g.rest) g.tree (first_text (behind_first g.rest)))
suffix_by b i known g None (symbol.Punctuator p.Arrow) = member b known g (Arrow (first_place g.rest) g.tree (first_text (behind_first g.rest)))
suffix_by b i known g None _ = subscript b i g

abbrev pub suffix : ℕ → Readers → List (List ℕ) → Got → Reading
suffix b i known g = suffix_by b i known g (step_of (first_symbol g.rest)) (first_symbol g.rest)

-- so many operators behind an operand, and no more
abbrev pub suffixes : ℕ → Readers → List (List ℕ) → ℕ → Got → Reading
suffixes b i known zero g = cond (goes_on (first_symbol g.rest)) None (Some g)
suffixes b i known (suc turns) g = cond (goes_on (first_symbol g.rest)) (after (suffix b i known g) (suffixes b i known turns)) (Some g)

abbrev pub postfix : ℕ → Readers → List (List ℕ) → List Terminal → Reading
postfix b i known ts = after (primary b i known ts) (suffixes b i known b)

-- ---- unary expressions and casts

abbrev pub opens_type_name : List (List ℕ) → List Terminal → Bool
opens_type_name known ts = is_left_parenthesis (first_symbol ts) && begins_specifiers known (behind_first ts)

abbrev pub size_of_type : ℕ → Readers → List Terminal → Reading
size_of_type b i ts =
    after_name (i.type_name (behind_first (behind_first ts))) (λ n. expect is_right_parenthesis n.rest (λ rest. made b (SizeofType (first_place ts) n.name n.lengths) n.height rest))

abbrev pub size_of_expression : ℕ → Readers → List Terminal → Reading
size_of_expression b i ts = after (i.unary (behind_first ts)) (λ g. made b (SizeofExpr (first_place ts) g.tree) g.height g.rest)

abbrev pub sized : ℕ → Readers → List (List ℕ) → List Terminal → Reading
sized b i known ts =
    cond (opens_type_name known (behind_first ts)) (size_of_type b i ts) (size_of_expression b i ts)

abbrev pub unary_by : ℕ → Readers → List (List ℕ) → List Terminal → Option StepOp → Option UnaryOp → Reading
unary_by b i known ts (Some op) other = after (i.unary (behind_first ts)) (λ g. made b (Prefix (first_place ts) op g.tree) g.height g.rest)
unary_by b i known ts None (Some op) = after (i.cast (behind_first ts)) (λ g. made b (Unary (first_place ts) op g.tree) g.height g.rest)
unary_by b i known ts None None = cond (is_sizeof (first_symbol ts)) (sized b i known ts) (postfix b i known ts)

abbrev pub unary : ℕ → Readers → List (List ℕ) → List Terminal → Reading
unary b i known ts = unary_by b i known ts (step_of (first_symbol ts)) (unary_of (first_symbol ts))

abbrev pub cast_to : ℕ → Readers → List Terminal → Reading
cast_to b i ts =
    after_name (i.type_name (behind_first ts)) (λ n. expect is_right_parenthesis n.rest (λ a. after (i.cast a) (λ g. made b (Cast (first_place ts) n.name n.lengths g.tree) (max n.height g.height) g.rest)))

abbrev pub cast : ℕ → Readers → List (List ℕ) → List Terminal → Reading
cast b i known ts = cond (opens_type_name known ts) (cast_to b i ts) (unary b i known ts)

-- ---- operators between two operands

abbrev pub infix_of : Continuation → Option Infix
infix_of (With op) = Some (between.Binary op)
infix_of (Joined op) = Some (between.Logical op)
infix_of _ = None

abbrev pub keep_from : ℕ → Option Infix → Option Infix
keep_from level None = None
keep_from level (Some op) = cond (nat_le level (op_level op)) (Some op) None

-- the operator of a level or above that stands next
abbrev pub infix_from : ℕ → List Terminal → Option Infix
infix_from level ts = keep_from level (infix_of (continuation_of (first_symbol ts)))

abbrev pub infix_by : ℕ → Readers → Got → Option Infix → (Got → Reading) → Reading
infix_by b i g None more = Some g
infix_by b i g (Some op) more =
    after (i.binary (op_level op + 1) (behind_first g.rest)) (λ y. after (made b (infix_tree op (first_place g.rest) g.tree y.tree) (max g.height y.height) y.rest) more)

abbrev pub refuse : Got → Option Infix → Reading
refuse g None = Some g
refuse g (Some op) = None

abbrev pub climb : ℕ → Readers → ℕ → ℕ → Got → Reading
climb b i level zero g = refuse g (infix_from level g.rest)
climb b i level (suc turns) g = infix_by b i g (infix_from level g.rest) (climb b i level turns)

abbrev pub binary : ℕ → Readers → List (List ℕ) → ℕ → List Terminal → Reading
binary b i known level ts = after (cast b i known ts) (climb b i level b)

-- ---- conditional, assignment and comma expressions

abbrev pub chosen : ℕ → Readers → Got → Reading
chosen b i g =
    after (i.expression (behind_first g.rest)) (λ y. expect is_colon y.rest (λ a. after (i.conditional a) (λ z. made b (Conditional (first_place g.rest) g.tree y.tree z.tree) (max (max g.height y.height) z.height) z.rest)))

abbrev pub conditional : ℕ → Readers → List (List ℕ) → List Terminal → Reading
conditional b i known ts = after (binary b i known 3 ts) (λ g. cond (is_question (first_symbol g.rest)) (chosen b i g) (Some g))

abbrev pub assigned : ℕ → Readers → Got → Option AssignOp → Reading
assigned b i g None = Some g
assigned b i g (Some op) =
    cond (is_unary g.tree) (after (i.assignment (behind_first g.rest)) (λ y. made b (Assign (first_place g.rest) op g.tree y.tree) (max g.height y.height) y.rest)) None

abbrev pub assignment : ℕ → Readers → List (List ℕ) → List Terminal → Reading
assignment b i known ts = after (conditional b i known ts) (λ g. assigned b i g (assign_of (first_symbol g.rest)))

abbrev pub commas : ℕ → Readers → ℕ → Got → Reading
commas b i zero g = cond (is_comma (first_symbol g.rest)) None (Some g)
commas b i (suc turns) g =
    cond (is_comma (first_symbol g.rest))
    (after (i.assignment (behind_first g.rest)) (λ y. after (made b (Comma (first_place g.rest) g.tree y.tree) (max g.height y.height) y.rest) (commas b i turns)))
    (Some g)

abbrev pub expression : ℕ → Readers → List (List ℕ) → List Terminal → Reading
expression b i known ts = after (assignment b i known ts) (commas b i b)

-- ---- all of one budget

-- the readers of type names and of abstract declarators at a budget
pub record NameReaders : Type 0 where
  pub name : ℕ → Readers → List Terminal → Option GotName
  pub declarator : ℕ → Readers → List Terminal → Option GotLayers

abbrev pub readers_at : NameReaders → List (List ℕ) → ℕ → Readers → Readers
readers_at names known b i = record {
  expression = expression b i known;
  assignment = assignment b i known;
  conditional = conditional b i known;
  binary = binary b i known;
  cast = cast b i known;
  unary = unary b i known;
  postfix = postfix b i known;
  type_name = names.name b i;
  declarator = names.declarator b i;
}

-- the readers of what stands inside of what is read within a budget
abbrev pub inside : NameReaders → List (List ℕ) → ℕ → Readers
inside names known zero = no_readers
inside names known (suc b) = readers_at names known b (inside names known b)

abbrev pub readers : NameReaders → List (List ℕ) → ℕ → Readers
readers names known b = readers_at names known b (inside names known b)
