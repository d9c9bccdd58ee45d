-- Expressions that begin with an operand.
use Rattle.std.proofs.Common.{◌≡◌, ℕ, suc, ◌+◌, ◌≤◌, ◌<◌, true, List, Some, nat_lt, refl, arith, ◌∙◌}
use Rattle.cc_base.specs.declared.diagnostics.Place.{Place}
use Rattle.c_layout.specs.SyntaxTrees.{Tree, Subscript, Member, Arrow, Postfix, Binary, Logical, Conditional, Assign, Comma}
use Rattle.c_layout.specs.declared.syntax_tree.expressions.AssignOp.{AssignOp}
use Rattle.c_layout.specs.declared.syntax_tree.expressions.BinaryOp.{BinaryOp}
use Rattle.c_layout.specs.declared.syntax_tree.expressions.LogicalOp.{LogicalOp}
use Rattle.c_layout.specs.declared.syntax_tree.expressions.StepOp.{StepOp}
use Rattle.c_parser_tokens.specs.declared.terminals.Terminal.{Terminal}
use Rattle.c_parser_expression_grammar.specs.Expressions.{Derives}
use Rattle.c_parser_expression_grammar.specs.Fronts.{first_symbol, behind_first}
use Rattle.c_parser_expression_grammar.specs.Levels.{binary_level, logical_level}
use Rattle.c_parser_expression_grammar.specs.Continuations.{Continuation, Index, OfObject, OfPointer, Stepped, With, Joined, Asks, Becomes, Follows, continuation_of}
use Rattle.c_parser_theorems.specs.UniqueExpressions.Endings.{power}
use Rattle.c_parser_theorems.proofs.unique_expressions.Reading.{Reads, go_on, climb, start, read}
use Rattle.c_parser_theorems.proofs.unique_expressions.Levels.{edge, edge_left, edge_postfix, edge_right, edge_least, ends_at, power_is, below, with_sign, joined_sign, stepped_sign, becomes_sign, level_high, level_low, logical_high, logical_low}
use Rattle.c_parser_theorems.proofs.unique_expressions.Operands.{Spined, operand, size, spine}

-- one operator more
goes_on : (self : Reads) (k low : ℕ) (e : Tree) (ts : List Terminal) (c : Continuation) → continuation_of (first_symbol ts) ≡ c → low < power c → climb self (suc k) low e ts ≡ go_on self e ts c (climb self k low)
goes_on self k low e ts c at under = let on-is : nat_lt low (power c) ≡ true = below low (power c) under in rw (at, on-is)

-- the operand before an operator
before : (e : Tree) (c : Continuation) → Spined e → (known : List (List ℕ)) (l : ℕ) (ts a : List Terminal) → Derives e known l ts a → continuation_of (first_symbol a) ≡ c → power c ≤ edge e →
    (low m j k : ℕ) → low ≤ l → size e ≤ m → j ≡ suc (spine e) + k → low < power c → start (read known m) known m j low ts ≡ go_on (read known m) e a c (climb (read known m) k low)
before e c of-e known l ts a d at fits low m j k under small same less =
    of-e known l ts a d (rw at fits) low m j (suc k) under small (omega arith) ∙ goes_on (read known m) k low e a c at less

pub subscript_spined : (at : Place) (e i : Tree) → Spined e → Spined i → Spined (Subscript at e i)
subscript_spined at e i of-e of-i known l ts rest (level, a, b, c, place, left, opens, inner, shut) ends low m j k under small same =
    let front = before e Index of-e known 15 ts a left (power_is opens refl) (edge_postfix e known ts a left) low m j k (omega arith) (omega arith) (omega arith) (omega arith) in
    let from : Derives i known 0 (behind_first a) c = rw opens.behind at inner in
    let one : read known m 0 (behind_first a) ≡ Some (i, c) = operand i of-i known 0 (behind_first a) c from (ends_at 0 shut (omega arith)) m (omega arith) in
    front ∙ rw (one, place, shut.behind)

pub member_spined : (at : Place) (e : Tree) (name : List ℕ) → Spined e → Spined (Member at e name)
member_spined at e name of-e known l ts rest (level, a, b, place, left, dot, is) ends low m j k under small same =
    let front = before e OfObject of-e known 15 ts a left (power_is dot refl) (edge_postfix e known ts a left) low m j k (omega arith) (omega arith) (omega arith) (omega arith) in
    front ∙ rw (place, is.spelled, is.behind, dot.behind)

pub arrow_spined : (at : Place) (e : Tree) (name : List ℕ) → Spined e → Spined (Arrow at e name)
arrow_spined at e name of-e known l ts rest (level, a, b, place, left, arrow, is) ends low m j k under small same =
    let front = before e OfPointer of-e known 15 ts a left (power_is arrow refl) (edge_postfix e known ts a left) low m j k (omega arith) (omega arith) (omega arith) (omega arith) in
    front ∙ rw (place, is.spelled, is.behind, arrow.behind)

pub postfix_spined : (at : Place) (op : StepOp) (e : Tree) → Spined e → Spined (Postfix at op e)
postfix_spined at op e of-e known l ts rest (level, a, place, left, sign) ends low m j k under small same =
    let front = before e (Stepped op) of-e known 15 ts a left (power_is sign (stepped_sign op)) (edge_postfix e known ts a left) low m j k (omega arith) (omega arith) (omega arith) (omega arith) in
    front ∙ rw (place, sign.behind)

pub binary_spined : (at : Place) (op : BinaryOp) (x y : Tree) → Spined x → Spined y → Spined (Binary at op x y)
binary_spined at op x y of-x of-y known l ts rest (level, a, b, place, left, sign, right) ends low m j k under small same =
    let high = level_high op in
    let lowest = level_low op in
    let fits : binary_level op + 1 ≤ edge x = edge_left x known (binary_level op) ts a left (omega arith) lowest in
    let front = before x (With op) of-x known (binary_level op) ts a left (power_is sign (with_sign op)) fits low m j k (omega arith) (omega arith) (omega arith) (omega arith) in
    let from : Derives y known (binary_level op + 1) (behind_first a) rest = rw sign.behind at right in
    let one : read known m (binary_level op + 1) (behind_first a) ≡ Some (y, rest) = operand y of-y known (binary_level op + 1) (behind_first a) rest from (omega arith) m (omega arith) in
    front ∙ rw (one, place)

pub logical_spined : (at : Place) (op : LogicalOp) (x y : Tree) → Spined x → Spined y → Spined (Logical at op x y)
logical_spined at op x y of-x of-y known l ts rest (level, a, b, place, left, sign, right) ends low m j k under small same =
    let high = logical_high op in
    let lowest = logical_low op in
    let fits : logical_level op + 1 ≤ edge x = edge_left x known (logical_level op) ts a left high (omega arith) in
    let front = before x (Joined op) of-x known (logical_level op) ts a left (power_is sign (joined_sign op)) fits low m j k (omega arith) (omega arith) (omega arith) (omega arith) in
    let from : Derives y known (logical_level op + 1) (behind_first a) rest = rw sign.behind at right in
    let one : read known m (logical_level op + 1) (behind_first a) ≡ Some (y, rest) = operand y of-y known (logical_level op + 1) (behind_first a) rest from (omega arith) m (omega arith) in
    front ∙ rw (one, place)

pub conditional_spined : (at : Place) (x y z : Tree) → Spined x → Spined y → Spined z → Spined (Conditional at x y z)
conditional_spined at x y z of-x of-y of-z known l ts rest (level, a, b, c, d, place, left, question, middle, colon, right) ends low m j k under small same =
    let wide : 4 ≤ edge x = edge_left x known 3 ts a left (omega arith) (omega arith) in
    let front = before x Asks of-x known 3 ts a left (power_is question refl) (omega arith) low m j k (omega arith) (omega arith) (omega arith) (omega arith) in
    let from : Derives y known 0 (behind_first a) c = rw question.behind at middle in
    let one : read known m 0 (behind_first a) ≡ Some (y, c) = operand y of-y known 0 (behind_first a) c from (ends_at 0 colon (omega arith)) m (omega arith) in
    let last : Derives z known 2 (behind_first c) rest = rw colon.behind at right in
    let two : read known m 2 (behind_first c) ≡ Some (z, rest) = operand z of-z known 2 (behind_first c) rest last ends m (omega arith) in
    front ∙ rw (one, two, place)

pub assign_spined : (at : Place) (op : AssignOp) (x y : Tree) → Spined x → Spined y → Spined (Assign at op x y)
assign_spined at op x y of-x of-y known l ts rest (level, sign, sign-is, a, b, place, left, is, right) ends low m j k under small same =
    let wide : 13 ≤ edge x = edge_right x known 14 ts a left in
    let front = before x (Becomes op) of-x known 14 ts a left (power_is is (becomes_sign op sign sign-is)) (omega arith) low m j k (omega arith) (omega arith) (omega arith) (omega arith) in
    let from : Derives y known 1 (behind_first a) rest = rw is.behind at right in
    let one : read known m 1 (behind_first a) ≡ Some (y, rest) = operand y of-y known 1 (behind_first a) rest from ends m (omega arith) in
    front ∙ rw (one, place)

pub comma_spined : (at : Place) (x y : Tree) → Spined x → Spined y → Spined (Comma at x y)
comma_spined at x y of-x of-y known l ts rest (level, a, b, place, left, comma, right) ends low m j k under small same =
    let front = before x Follows of-x known 0 ts a left (power_is comma refl) (edge_least x) low m j k (omega arith) (omega arith) (omega arith) (omega arith) in
    let from : Derives y known 1 (behind_first a) rest = rw comma.behind at right in
    let one : read known m 1 (behind_first a) ≡ Some (y, rest) = operand y of-y known 1 (behind_first a) rest from ends m (omega arith) in
    front ∙ rw (one, place)
