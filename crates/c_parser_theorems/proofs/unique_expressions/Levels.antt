-- The right edges of expressions: which operators may stand behind one without going on with its last operand.
use Rattle.std.proofs.Common.{◌≡◌, ℕ, ◌+◌, ◌≤◌, ◌<◌, true, false, List, Option, Some, None, min, nat_lt, refl, arith, ap, ◌∙◌}
use Rattle.c_layout.specs.SyntaxTrees.{Tree, Name, Number, Literal, Paren, Subscript, Call, Member, Arrow, Postfix, Prefix, Unary, SizeofExpr, SizeofType, Cast, Binary, Logical, Conditional, Assign, Comma}
use Rattle.c_layout.specs.declared.syntax_tree.expressions.AssignOp.{AssignOp}
use Rattle.c_layout.specs.declared.syntax_tree.expressions.AssignOp.TheVariants as assign
use Rattle.c_layout.specs.declared.syntax_tree.expressions.BinaryOp.{BinaryOp}
use Rattle.c_layout.specs.declared.syntax_tree.expressions.BinaryOp.TheVariants as binary
use Rattle.c_layout.specs.declared.syntax_tree.expressions.LogicalOp.{LogicalOp}
use Rattle.c_layout.specs.declared.syntax_tree.expressions.LogicalOp.TheVariants as logical
use Rattle.c_layout.specs.declared.syntax_tree.expressions.StepOp.{StepOp}
use Rattle.c_layout.specs.declared.syntax_tree.expressions.StepOp.TheVariants as step
use Rattle.c_parser_tokens.specs.declared.terminals.Terminal.{Terminal}
use Rattle.c_parser_tokens.specs.declared.terminals.Punctuator.{Punctuator}
use Rattle.c_parser_expression_grammar.specs.Expressions.{Derives}
use Rattle.c_parser_expression_grammar.specs.Fronts.{first_symbol, IsSign}
use Rattle.c_parser_expression_grammar.specs.Levels.{binary_sign, binary_level, logical_sign, logical_level, step_sign, assign_sign, compound_sign}
use Rattle.c_parser_expression_grammar.specs.Continuations.{Continuation, Stepped, With, Joined, Becomes, continuation_of, continuation_of_sign}
use Rattle.c_parser_theorems.specs.UniqueExpressions.Endings.{power, EndsBefore}

pub below : (a b : ℕ) → a < b → nat_lt a b ≡ true
below a b h = grind arith

pub not_below : (a b : ℕ) → b ≤ a → nat_lt a b ≡ false
not_below a b h = grind arith

-- ---- signs of operators

pub with_sign : (op : BinaryOp) → continuation_of_sign (binary_sign op) ≡ With op
with_sign op = elim op as (λ o. continuation_of_sign (binary_sign o) ≡ With o) [
  | binary.Multiply ↦ refl
  | binary.Divide ↦ refl
  | binary.Remainder ↦ refl
  | binary.Add ↦ refl
  | binary.Subtract ↦ refl
  | binary.ShiftLeft ↦ refl
  | binary.ShiftRight ↦ refl
  | binary.Less ↦ refl
  | binary.Greater ↦ refl
  | binary.LessEqual ↦ refl
  | binary.GreaterEqual ↦ refl
  | binary.Equal ↦ refl
  | binary.NotEqual ↦ refl
  | binary.And ↦ refl
  | binary.Xor ↦ refl
  | binary.Or ↦ refl
]

pub joined_sign : (op : LogicalOp) → continuation_of_sign (logical_sign op) ≡ Joined op
joined_sign op = elim op as (λ o. continuation_of_sign (logical_sign o) ≡ Joined o) [ logical.And ↦ refl | logical.Or ↦ refl ]

pub stepped_sign : (op : StepOp) → continuation_of_sign (step_sign op) ≡ Stepped op
stepped_sign op = elim op as (λ o. continuation_of_sign (step_sign o) ≡ Stepped o) [ step.Increment ↦ refl | step.Decrement ↦ refl ]

of_sign : Option Punctuator → Continuation → Continuation
of_sign None other = other
of_sign (Some sign) other = continuation_of_sign sign

-- each assignment that has a sign
compound_becomes : (op : BinaryOp) → of_sign (compound_sign op) (Becomes (assign.Compound op)) ≡ Becomes (assign.Compound op)
unfolding of_sign
compound_becomes op = elim op as (λ o. of_sign (compound_sign o) (Becomes (assign.Compound o)) ≡ Becomes (assign.Compound o)) [
  | binary.Multiply ↦ refl
  | binary.Divide ↦ refl
  | binary.Remainder ↦ refl
  | binary.Add ↦ refl
  | binary.Subtract ↦ refl
  | binary.ShiftLeft ↦ refl
  | binary.ShiftRight ↦ refl
  | binary.Less ↦ refl
  | binary.Greater ↦ refl
  | binary.LessEqual ↦ refl
  | binary.GreaterEqual ↦ refl
  | binary.Equal ↦ refl
  | binary.NotEqual ↦ refl
  | binary.And ↦ refl
  | binary.Xor ↦ refl
  | binary.Or ↦ refl
]

assigned : (op : AssignOp) → of_sign (assign_sign op) (Becomes op) ≡ Becomes op
unfolding of_sign
assigned assign.Simple = refl
assigned (assign.Compound op) = compound_becomes op

pub becomes_sign : (op : AssignOp) (sign : Punctuator) → assign_sign op ≡ Some sign → continuation_of_sign sign ≡ Becomes op
unfolding of_sign
becomes_sign op sign is = rw is at (assigned op)

pub level_high : (op : BinaryOp) → 5 ≤ binary_level op
level_high op = elim op as (λ o. 5 ≤ binary_level o) [
  | binary.Multiply ↦ omega arith
  | binary.Divide ↦ omega arith
  | binary.Remainder ↦ omega arith
  | binary.Add ↦ omega arith
  | binary.Subtract ↦ omega arith
  | binary.ShiftLeft ↦ omega arith
  | binary.ShiftRight ↦ omega arith
  | binary.Less ↦ omega arith
  | binary.Greater ↦ omega arith
  | binary.LessEqual ↦ omega arith
  | binary.GreaterEqual ↦ omega arith
  | binary.Equal ↦ omega arith
  | binary.NotEqual ↦ omega arith
  | binary.And ↦ omega arith
  | binary.Xor ↦ omega arith
  | binary.Or ↦ omega arith
]

pub level_low : (op : BinaryOp) → binary_level op ≤ 12
level_low op = elim op as (λ o. binary_level o ≤ 12) [
  | binary.Multiply ↦ omega arith
  | binary.Divide ↦ omega arith
  | binary.Remainder ↦ omega arith
  | binary.Add ↦ omega arith
  | binary.Subtract ↦ omega arith
  | binary.ShiftLeft ↦ omega arith
  | binary.ShiftRight ↦ omega arith
  | binary.Less ↦ omega arith
  | binary.Greater ↦ omega arith
  | binary.LessEqual ↦ omega arith
  | binary.GreaterEqual ↦ omega arith
  | binary.Equal ↦ omega arith
  | binary.NotEqual ↦ omega arith
  | binary.And ↦ omega arith
  | binary.Xor ↦ omega arith
  | binary.Or ↦ omega arith
]

pub logical_high : (op : LogicalOp) → 3 ≤ logical_level op
logical_high op = elim op as (λ o. 3 ≤ logical_level o) [ logical.And ↦ omega arith | logical.Or ↦ omega arith ]

pub logical_low : (op : LogicalOp) → logical_level op ≤ 4
logical_low op = elim op as (λ o. logical_level o ≤ 4) [ logical.And ↦ omega arith | logical.Or ↦ omega arith ]

-- ---- edges

-- the level of the last operand; where there is none, nothing but `(` would go on
abbrev pub edge : Tree → ℕ
edge (Prefix at op e) = 13
edge (Unary at op e) = 13
edge (SizeofExpr at e) = 13
edge (Cast at name lengths e) = 13
edge (Binary at op x y) = binary_level op + 1
edge (Logical at op x y) = logical_level op + 1
edge (Conditional at x y z) = 2
edge (Assign at op x y) = 1
edge (Comma at x y) = 1
edge _ = 16

abbrev pub power_at : List Terminal → ℕ
power_at rest = power (continuation_of (first_symbol rest))

-- the edge lies no lower than the level
pub edge_right : (e : Tree) (known : List (List ℕ)) (l : ℕ) (ts rest : List Terminal) → Derives e known l ts rest → min l 13 ≤ edge e
edge_right (Name at text) known l ts rest d = omega arith
edge_right (Number at value) known l ts rest d = omega arith
edge_right (Literal at bytes) known l ts rest d = omega arith
edge_right (Paren at e) known l ts rest d = omega arith
edge_right (Subscript at e i) known l ts rest d = omega arith
edge_right (Call at name arguments) known l ts rest d = omega arith
edge_right (Member at e name) known l ts rest d = omega arith
edge_right (Arrow at e name) known l ts rest d = omega arith
edge_right (Postfix at op e) known l ts rest d = omega arith
edge_right (Prefix at op e) known l ts rest d = omega arith
edge_right (Unary at op e) known l ts rest d = omega arith
edge_right (SizeofExpr at e) known l ts rest d = omega arith
edge_right (SizeofType at name lengths) known l ts rest d = omega arith
edge_right (Cast at name lengths e) known l ts rest d = omega arith
edge_right (Binary at op x y) known l ts rest d = let h = d.0 in omega arith
edge_right (Logical at op x y) known l ts rest d = let h = d.0 in omega arith
edge_right (Conditional at x y z) known l ts rest d = let h = d.0 in omega arith
edge_right (Assign at op x y) known l ts rest d = let h = d.0 in omega arith
edge_right (Comma at x y) known l ts rest d = let h = d.0 in omega arith

-- and above it, where it is that of an operand of an operator between two
pub edge_left : (e : Tree) (known : List (List ℕ)) (l : ℕ) (ts rest : List Terminal) → Derives e known l ts rest → 3 ≤ l → l ≤ 12 → l + 1 ≤ edge e
edge_left (Name at text) known l ts rest d high low = omega arith
edge_left (Number at value) known l ts rest d high low = omega arith
edge_left (Literal at bytes) known l ts rest d high low = omega arith
edge_left (Paren at e) known l ts rest d high low = omega arith
edge_left (Subscript at e i) known l ts rest d high low = omega arith
edge_left (Call at name arguments) known l ts rest d high low = omega arith
edge_left (Member at e name) known l ts rest d high low = omega arith
edge_left (Arrow at e name) known l ts rest d high low = omega arith
edge_left (Postfix at op e) known l ts rest d high low = omega arith
edge_left (Prefix at op e) known l ts rest d high low = omega arith
edge_left (Unary at op e) known l ts rest d high low = omega arith
edge_left (SizeofExpr at e) known l ts rest d high low = omega arith
edge_left (SizeofType at name lengths) known l ts rest d high low = omega arith
edge_left (Cast at name lengths e) known l ts rest d high low = omega arith
edge_left (Binary at op x y) known l ts rest d high low = let h = d.0 in omega arith
edge_left (Logical at op x y) known l ts rest d high low = let h = d.0 in omega arith
edge_left (Conditional at x y z) known l ts rest d high low = let h = d.0 in absurd (omega arith)
edge_left (Assign at op x y) known l ts rest d high low = let h = d.0 in absurd (omega arith)
edge_left (Comma at x y) known l ts rest d high low = let h = d.0 in absurd (omega arith)

-- a postfix expression has none
pub edge_postfix : (e : Tree) (known : List (List ℕ)) (ts rest : List Terminal) → Derives e known 15 ts rest → 16 ≤ edge e
edge_postfix (Name at text) known ts rest d = omega arith
edge_postfix (Number at value) known ts rest d = omega arith
edge_postfix (Literal at bytes) known ts rest d = omega arith
edge_postfix (Paren at e) known ts rest d = omega arith
edge_postfix (Subscript at e i) known ts rest d = omega arith
edge_postfix (Call at name arguments) known ts rest d = omega arith
edge_postfix (Member at e name) known ts rest d = omega arith
edge_postfix (Arrow at e name) known ts rest d = omega arith
edge_postfix (Postfix at op e) known ts rest d = omega arith
edge_postfix (Prefix at op e) known ts rest d = let h = d.0 in absurd (omega arith)
edge_postfix (Unary at op e) known ts rest d = let h = d.0 in absurd (omega arith)
edge_postfix (SizeofExpr at e) known ts rest d = let h = d.0 in absurd (omega arith)
edge_postfix (SizeofType at name lengths) known ts rest d = omega arith
edge_postfix (Cast at name lengths e) known ts rest d = let h = d.0 in absurd (omega arith)
edge_postfix (Binary at op x y) known ts rest d = let h = d.0 in let low = level_low op in absurd (omega arith)
edge_postfix (Logical at op x y) known ts rest d = let h = d.0 in let low = logical_low op in absurd (omega arith)
edge_postfix (Conditional at x y z) known ts rest d = let h = d.0 in absurd (omega arith)
edge_postfix (Assign at op x y) known ts rest d = let h = d.0 in absurd (omega arith)
edge_postfix (Comma at x y) known ts rest d = let h = d.0 in absurd (omega arith)

-- no edge is lower than that of a comma
pub edge_least : (e : Tree) → 1 ≤ edge e
edge_least (Prefix at op e) = omega arith
edge_least (Unary at op e) = omega arith
edge_least (SizeofExpr at e) = omega arith
edge_least (Cast at name lengths e) = omega arith
edge_least (Binary at op x y) = omega arith
edge_least (Logical at op x y) = omega arith
edge_least (Conditional at x y z) = omega arith
edge_least (Assign at op x y) = omega arith
edge_least (Comma at x y) = omega arith
edge_least _ = omega arith

-- a sign ends an operand of a level where its power is no greater
pub ends_at : {sign : Punctuator} (l : ℕ) {ts rest : List Terminal} → IsSign sign ts rest → power (continuation_of_sign sign) ≤ min l 13 → EndsBefore l ts
ends_at {sign} l {ts} {rest} is low = rw is.symbol low

pub power_is : {sign : Punctuator} {c : Continuation} {ts rest : List Terminal} → IsSign sign ts rest → continuation_of_sign sign ≡ c → continuation_of (first_symbol ts) ≡ c
power_is is same = ap continuation_of is.symbol ∙ same
