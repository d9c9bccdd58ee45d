-- Climbing over the levels of operators between two operands.
use Rattle.std.proofs.Common.{◌≡◌, ℕ, ◌+◌, ◌<◌, ◌≤◌, List, max, arith, refl, ap, ◌∙◌}
use Rattle.cc_base.specs.declared.diagnostics.Place.{Place}
use Rattle.c_layout.specs.SyntaxTrees.{Tree}
use Rattle.c_layout.specs.declared.syntax_tree.expressions.BinaryOp.{BinaryOp}
use Rattle.c_layout.specs.declared.syntax_tree.expressions.BinaryOp.TheVariants as binary
use Rattle.c_layout.specs.declared.syntax_tree.expressions.LogicalOp.{LogicalOp}
use Rattle.c_layout.specs.declared.syntax_tree.expressions.LogicalOp.TheVariants as logical
use Rattle.c_parser_tokens.specs.declared.terminals.Terminal.{Terminal}
use Rattle.c_parser_tokens.specs.declared.terminals.Punctuator.{Punctuator}
use Rattle.c_parser_tokens.specs.declared.terminals.Punctuator.TheVariants as p
use Rattle.c_parser_tokens.specs.declared.terminals.Symbol.{Symbol}
use Rattle.c_parser_tokens.specs.declared.terminals.Symbol.TheVariants as symbol
use Rattle.c_parser_expression_grammar.specs.declared.operators.Infix.{Infix}
use Rattle.c_parser_expression_grammar.specs.declared.operators.Infix.TheVariants as between
use Rattle.c_parser_expression_grammar.specs.Expressions.{Derives, height_of}
use Rattle.c_parser_expression_grammar.specs.Findings.{Found, FoundLevel, Climbs, infix_tree}
use Rattle.c_parser_expression_grammar.specs.Fronts.{first_symbol, first_place, IsSign}
use Rattle.c_parser_expression_grammar.specs.Levels.{op_sign, op_level, sign_level, symbol_level, binary_sign, binary_level, logical_sign, logical_level}
use Rattle.c_parser_expressions.proofs.Productions.{lower}

binary_sign_level : (op : BinaryOp) → sign_level (binary_sign op) ≡ binary_level op
binary_sign_level op = elim op as (λ o. sign_level (binary_sign o) ≡ binary_level o) [
  | binary.Multiply ↦ refl
  | binary.Divide ↦ refl
  | binary.Remainder ↦ refl
  | binary.Add ↦ refl
  | binary.Subtract ↦ refl
  | binary.ShiftLeft ↦ refl
  | binary.ShiftRight ↦ refl
  | binary.Less ↦ refl
  | binary.Greater ↦ refl
  | binary.LessEqual ↦ refl
  | binary.GreaterEqual ↦ refl
  | binary.Equal ↦ refl
  | binary.NotEqual ↦ refl
  | binary.And ↦ refl
  | binary.Xor ↦ refl
  | binary.Or ↦ refl
]

logical_sign_level : (op : LogicalOp) → sign_level (logical_sign op) ≡ logical_level op
logical_sign_level op = elim op as (λ o. sign_level (logical_sign o) ≡ logical_level o) [ logical.And ↦ refl | logical.Or ↦ refl ]

op_sign_level : (op : Infix) → sign_level (op_sign op) ≡ op_level op
op_sign_level (between.Binary op) = binary_sign_level op
op_sign_level (between.Logical op) = logical_sign_level op

sign_low : (sign : Punctuator) → sign_level sign ≤ 13
sign_low p.OrOr = omega arith
sign_low p.AndAnd = omega arith
sign_low p.Bar = omega arith
sign_low p.Caret = omega arith
sign_low p.Ampersand = omega arith
sign_low p.EqualEqual = omega arith
sign_low p.NotEqual = omega arith
sign_low p.Less = omega arith
sign_low p.Greater = omega arith
sign_low p.LessEqual = omega arith
sign_low p.GreaterEqual = omega arith
sign_low p.ShiftLeft = omega arith
sign_low p.ShiftRight = omega arith
sign_low p.Plus = omega arith
sign_low p.Minus = omega arith
sign_low p.Star = omega arith
sign_low p.Slash = omega arith
sign_low p.Percent = omega arith
sign_low _ = omega arith

symbol_low : (x : Symbol) → symbol_level x ≤ 13
symbol_low (symbol.Punctuator sign) = sign_low sign
symbol_low _ = omega arith

pub first : {known : List (List ℕ)} {least b : ℕ} {e : Tree} {h : ℕ} {ts rest : List Terminal} → least ≤ 13 → Found known 13 b e h ts rest → Climbs known least b e h ts rest
first {known} {least} {b} {e} {h} {ts} {rest} low f = record { at = 13; above = low; found = f; stops = symbol_low (first_symbol rest) }

pub last : {known : List (List ℕ)} {least b : ℕ} {e : Tree} {h : ℕ} {x : Symbol} {ts rest : List Terminal} → Climbs known least b e h ts rest → x ≡ first_symbol rest → symbol_level x < least → FoundLevel known least b e h ts rest
last {known} {least} {b} {e} {h} {x} {ts} {rest} c x-is stops = record {
  found = record { derives = lower e known c.at least ts rest c.above c.found.derives; height = c.found.height; within = c.found.within };
  stops = rw x-is at stops;
}

infix_derives : (op : Infix) (at : Place) (x y : Tree) (known : List (List ℕ)) (ts a m rest : List Terminal) →
    Derives x known (op_level op) ts a → at ≡ first_place a → IsSign (op_sign op) a m → Derives y known (op_level op + 1) m rest → Derives (infix_tree op at x y) known (op_level op) ts rest
infix_derives (between.Binary op) at x y known ts a m rest left place sign right = (omega arith, a, m, place, left, sign, right)
infix_derives (between.Logical op) at x y known ts a m rest left place sign right = (omega arith, a, m, place, left, sign, right)

infix_height : (op : Infix) (at : Place) (x y : Tree) → height_of (infix_tree op at x y) ≡ max (height_of x) (height_of y) + 1
infix_height (between.Binary op) at x y = refl
infix_height (between.Logical op) at x y = refl

pub more : {known : List (List ℕ)} {least n b c g h k : ℕ} {e x y : Tree} {at : Place} (op : Infix) {ts a m rest : List Terminal} →
    Climbs known least b x g ts a → least ≤ op_level op → at ≡ first_place a → IsSign (op_sign op) a m → n ≡ op_level op → FoundLevel known (n + 1) c y k m rest →
    e ≡ infix_tree op at x y → h ≡ max g k + 1 → h ≤ b → Climbs known least b e h ts rest
more {known} {least} {n} {b} {c} {g} {h} {k} {e} {x} {y} {at} op {ts} {a} {m} {rest} climbs above place sign n-is behind e-is high within =
    let at-op : symbol_level (first_symbol a) ≡ op_level op = ap symbol_level sign.symbol ∙ op_sign_level op in
    let right : FoundLevel known (op_level op + 1) c y k m rest = rw n-is at behind in
    let low : op_level op ≤ climbs.at = omega (arith, at-op, climbs.stops) in
    let left : Derives x known (op_level op) ts a = lower x known climbs.at (op_level op) ts a low climbs.found.derives in
    let whole : Derives (infix_tree op at x y) known (op_level op) ts rest = infix_derives op at x y known ts a m rest left place sign right.found.derives in
    let tall : height_of (infix_tree op at x y) ≡ max (height_of x) (height_of y) + 1 = infix_height op at x y in
    let parts : h ≡ max (height_of x) (height_of y) + 1 = cc in
    rw e-is (record {
      at = op_level op;
      above = above;
      found = record { derives = whole; height = cc; within = within };
      stops = omega (arith, right.stops);
    })
