-- Productions of expressions, over what was found for their parts.
use Rattle.std.proofs.Common.{◌≡◌, ℕ, ◌+◌, ◌≤◌, true, List, max, Some, arith}
use Rattle.cc_base.specs.declared.diagnostics.Place.{Place}
use Rattle.c_layout.specs.SyntaxTrees.{Tree, Name, Number, Literal, Paren, Subscript, Call, Member, Arrow, Postfix, Prefix, Unary, SizeofExpr, SizeofType, Cast, Binary, Logical, Conditional, Assign, Comma}
use Rattle.c_layout.specs.declared.syntax_tree.expressions.AssignOp.{AssignOp}
use Rattle.c_parser_tokens.specs.declared.terminals.Terminal.{Terminal}
use Rattle.c_parser_tokens.specs.declared.terminals.Punctuator.{Punctuator}
use Rattle.c_parser_tokens.specs.declared.terminals.Punctuator.TheVariants as p
use Rattle.c_parser_expression_grammar.specs.Expressions.{Derives}
use Rattle.c_parser_expression_grammar.specs.Findings.{Found, FoundLevel, is_unary}
use Rattle.c_parser_expression_grammar.specs.Fronts.{first_place, IsSign}
use Rattle.c_parser_expression_grammar.specs.Levels.{assign_sign}

-- what derives at a level derives at each lower one
pub lower : (e : Tree) (known : List (List ℕ)) (l m : ℕ) (ts rest : List Terminal) → m ≤ l → Derives e known l ts rest → Derives e known m ts rest
lower (Name at text) known l m ts rest h d = d
lower (Number at value) known l m ts rest h d = d
lower (Literal at bytes) known l m ts rest h d = d
lower (Paren at e) known l m ts rest h d = d
lower (Subscript at e i) known l m ts rest h d = (omega arith, d.1, d.2, d.3, d.4, d.5, d.6, d.7, d.8)
lower (Call at name arguments) known l m ts rest h d = (omega arith, d.1, d.2, d.3, d.4, d.5, d.6, d.7, d.8, d.9)
lower (Member at e name) known l m ts rest h d = (omega arith, d.1, d.2, d.3, d.4, d.5, d.6)
lower (Arrow at e name) known l m ts rest h d = (omega arith, d.1, d.2, d.3, d.4, d.5, d.6)
lower (Postfix at op e) known l m ts rest h d = (omega arith, d.1, d.2, d.3, d.4)
lower (Prefix at op e) known l m ts rest h d = (omega arith, d.1, d.2, d.3, d.4)
lower (Unary at op e) known l m ts rest h d = (omega arith, d.1, d.2, d.3, d.4)
lower (SizeofExpr at e) known l m ts rest h d = (omega arith, d.1, d.2, d.3, d.4)
lower (SizeofType at name lengths) known l m ts rest h d = (omega arith, d.1, d.2, d.3, d.4, d.5, d.6, d.7, d.8, d.9, d.10)
lower (Cast at name lengths e) known l m ts rest h d = (omega arith, d.1, d.2, d.3, d.4, d.5, d.6, d.7, d.8, d.9, d.10)
lower (Binary at op x y) known l m ts rest h d = (omega arith, d.1, d.2, d.3, d.4, d.5, d.6)
lower (Logical at op x y) known l m ts rest h d = (omega arith, d.1, d.2, d.3, d.4, d.5, d.6)
lower (Conditional at x y z) known l m ts rest h d = (omega arith, d.1, d.2, d.3, d.4, d.5, d.6, d.7, d.8, d.9, d.10)
lower (Assign at op x y) known l m ts rest h d = (omega arith, d.1, d.2, d.3, d.4, d.5, d.6, d.7, d.8)
lower (Comma at x y) known l m ts rest h d = (omega arith, d.1, d.2, d.3, d.4, d.5, d.6)

pub found_lower : {known : List (List ℕ)} {b : ℕ} {e : Tree} {h : ℕ} {ts rest : List Terminal} (l m : ℕ) → m ≤ l → Found known l b e h ts rest → Found known m b e h ts rest
found_lower {known} {b} {e} {h} {ts} {rest} l m low f = record { derives = lower e known l m ts rest low f.derives; height = f.height; within = f.within }

pub as_expression : {known : List (List ℕ)} {b : ℕ} {e : Tree} {h : ℕ} {ts rest : List Terminal} → Found known 1 b e h ts rest → Found known 0 b e h ts rest
as_expression f = found_lower 1 0 (omega arith) f

pub as_assignment : {known : List (List ℕ)} {b : ℕ} {e : Tree} {h : ℕ} {ts rest : List Terminal} → Found known 2 b e h ts rest → Found known 1 b e h ts rest
as_assignment f = found_lower 2 1 (omega arith) f

pub as_conditional : {known : List (List ℕ)} {b : ℕ} {e : Tree} {h : ℕ} {ts rest : List Terminal} → FoundLevel known 3 b e h ts rest → Found known 2 b e h ts rest
as_conditional f = found_lower 3 2 (omega arith) f.found

pub as_cast : {known : List (List ℕ)} {b : ℕ} {e : Tree} {h : ℕ} {ts rest : List Terminal} → Found known 14 b e h ts rest → Found known 13 b e h ts rest
as_cast f = found_lower 14 13 (omega arith) f

pub as_unary : {known : List (List ℕ)} {b : ℕ} {e : Tree} {h : ℕ} {ts rest : List Terminal} → Found known 15 b e h ts rest → Found known 14 b e h ts rest
as_unary f = found_lower 15 14 (omega arith) f

-- a tree of a conditional expression that has the form of a unary expression is one
unary_derives : (e : Tree) (known : List (List ℕ)) (l : ℕ) (ts rest : List Terminal) → is_unary e ≡ true → Derives e known l ts rest → Derives e known 14 ts rest
unary_derives (Name at text) known l ts rest u d = d
unary_derives (Number at value) known l ts rest u d = d
unary_derives (Literal at bytes) known l ts rest u d = d
unary_derives (Paren at e) known l ts rest u d = d
unary_derives (Subscript at e i) known l ts rest u d = (omega arith, d.1, d.2, d.3, d.4, d.5, d.6, d.7, d.8)
unary_derives (Call at name arguments) known l ts rest u d = (omega arith, d.1, d.2, d.3, d.4, d.5, d.6, d.7, d.8, d.9)
unary_derives (Member at e name) known l ts rest u d = (omega arith, d.1, d.2, d.3, d.4, d.5, d.6)
unary_derives (Arrow at e name) known l ts rest u d = (omega arith, d.1, d.2, d.3, d.4, d.5, d.6)
unary_derives (Postfix at op e) known l ts rest u d = (omega arith, d.1, d.2, d.3, d.4)
unary_derives (Prefix at op e) known l ts rest u d = (omega arith, d.1, d.2, d.3, d.4)
unary_derives (Unary at op e) known l ts rest u d = (omega arith, d.1, d.2, d.3, d.4)
unary_derives (SizeofExpr at e) known l ts rest u d = (omega arith, d.1, d.2, d.3, d.4)
unary_derives (SizeofType at name lengths) known l ts rest u d = (omega arith, d.1, d.2, d.3, d.4, d.5, d.6, d.7, d.8, d.9, d.10)
unary_derives (Cast at name lengths e) known l ts rest u d = cc
unary_derives (Binary at op x y) known l ts rest u d = cc
unary_derives (Logical at op x y) known l ts rest u d = cc
unary_derives (Conditional at x y z) known l ts rest u d = cc
unary_derives (Assign at op x y) known l ts rest u d = cc
unary_derives (Comma at x y) known l ts rest u d = cc

pub assigned : {known : List (List ℕ)} {b c g h k : ℕ} {e x y : Tree} {at : Place} {op : AssignOp} {sign : Punctuator} {ts a m rest : List Terminal} →
    Found known 2 b x g ts a → is_unary x ≡ true → assign_sign op ≡ Some sign → at ≡ first_place a → IsSign sign a m → Found known 1 c y k m rest →
    e ≡ Assign at op x y → h ≡ max g k + 1 → h ≤ b → Found known 1 b e h ts rest
assigned {known} {b} {c} {g} {h} {k} {e} {x} {y} {at} {op} {sign} {ts} {a} {m} {rest} left is op-sign place equals right e-is high within =
    let whole : Derives (Assign at op x y) known 1 ts rest = (omega arith, sign, op-sign, a, m, place, unary_derives x known 2 ts a is left.derives, equals, right.derives) in
    rw e-is (record { derives = whole; height = cc; within = within })

pub conditional : {known : List (List ℕ)} {b c c' g h k j : ℕ} {e x y z : Tree} {at : Place} {ts a m n o rest : List Terminal} →
    FoundLevel known 3 b x g ts a → at ≡ first_place a → IsSign p.Question a m → Found known 0 c y k m n → IsSign p.Colon n o → Found known 2 c' z j o rest →
    e ≡ Conditional at x y z → h ≡ max (max g k) j + 1 → h ≤ b → Found known 2 b e h ts rest
conditional {known} {b} {c} {c'} {g} {h} {k} {j} {e} {x} {y} {z} {at} {ts} {a} {m} {n} {o} {rest} first place question second colon third e-is high within =
    let whole : Derives (Conditional at x y z) known 2 ts rest = (omega arith, a, m, n, o, place, first.found.derives, question, second.derives, colon, third.derives) in
    rw e-is (record { derives = whole; height = cc; within = within })

pub comma : {known : List (List ℕ)} {b c g h k : ℕ} {e x y : Tree} {at : Place} {ts a m rest : List Terminal} →
    Found known 0 b x g ts a → at ≡ first_place a → IsSign p.Comma a m → Found known 1 c y k m rest →
    e ≡ Comma at x y → h ≡ max g k + 1 → h ≤ b → Found known 0 b e h ts rest
comma {known} {b} {c} {g} {h} {k} {e} {x} {y} {at} {ts} {a} {m} {rest} left place sign right e-is high within =
    let whole : Derives (Comma at x y) known 0 ts rest = (omega arith, a, m, place, left.derives, sign, right.derives) in
    rw e-is (record { derives = whole; height = cc; within = within })
