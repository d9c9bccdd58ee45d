-- The loops of the readers of expressions, turn by turn.
use Rattle.std.proofs.Common.{◌≡◌, ℕ, zero, suc, ◌+◌, ◌-◌, ◌<◌, ◌≤◌, true, false, List, cond, max, Some, None, ap, ◌∙◌, arith}
use Rattle.c_layout.specs.SyntaxTrees.{Comma}
use Rattle.c_parser_expression_grammar.specs.declared.operators.Infix.{Infix}
use Rattle.c_parser_expression_grammar.specs.Findings.{infix_tree}
use Rattle.c_parser_expression_grammar.specs.Fronts.{first_symbol, first_place, behind_first}
use Rattle.c_parser_expression_grammar.specs.Levels.{op_level, goes_on}
use Rattle.c_parser_expression_grammar.specs.Readings.{Got, Reading, after, is_comma, made}
use Rattle.c_parser_expression_grammar.specs.ExpressionReaders.{Readers, infix_from, infix_by, refuse, climb, suffix, suffixes, commas}

-- of n turns t are over
pub one_left : (n t : ℕ) → t < n → n - t ≡ suc (n - (t + 1))
one_left n t low = omega arith

pub none_left : (n t : ℕ) → n ≤ t → n - t ≡ zero
none_left n t high = omega arith

-- ---- operators between two operands

climb_right : (b : ℕ) (i : Readers) (level m : ℕ) (g : Got) (op : Infix) (r : Reading) → infix_from level g.rest ≡ Some op → i.binary (op_level op + 1) (behind_first g.rest) ≡ r →
    climb b i level (suc m) g ≡ after r (λ y. after (made b (infix_tree op (first_place g.rest) g.tree y.tree) (max g.height y.height) y.rest) (climb b i level m))
climb_right b i level m g op r here right =
    ap (λ o. infix_by b i g o (climb b i level m)) here
    ∙ ap (λ x. after x (λ y. after (made b (infix_tree op (first_place g.rest) g.tree y.tree) (max g.height y.height) y.rest) (climb b i level m))) right

pub climb_turn : (b : ℕ) (i : Readers) (level n t : ℕ) (g y w : Got) (op : Infix) → t < n → infix_from level g.rest ≡ Some op → i.binary (op_level op + 1) (behind_first g.rest) ≡ Some y →
    made b (infix_tree op (first_place g.rest) g.tree y.tree) (max g.height y.height) y.rest ≡ Some w → climb b i level (n - t) g ≡ climb b i level (n - (t + 1)) w
climb_turn b i level n t g y w op low here right whole =
    ap (λ turns. climb b i level turns g) (one_left n t low)
    ∙ climb_right b i level (n - (t + 1)) g op (Some y) here right
    ∙ ap (λ x. after x (climb b i level (n - (t + 1)))) whole

pub climb_no_operand : (b : ℕ) (i : Readers) (level n t : ℕ) (g : Got) (op : Infix) → t < n → infix_from level g.rest ≡ Some op → i.binary (op_level op + 1) (behind_first g.rest) ≡ None → climb b i level (n - t) g ≡ None
climb_no_operand b i level n t g op low here right = ap (λ turns. climb b i level turns g) (one_left n t low) ∙ climb_right b i level (n - (t + 1)) g op None here right

pub climb_too_high : (b : ℕ) (i : Readers) (level n t : ℕ) (g y : Got) (op : Infix) → t < n → infix_from level g.rest ≡ Some op → i.binary (op_level op + 1) (behind_first g.rest) ≡ Some y →
    made b (infix_tree op (first_place g.rest) g.tree y.tree) (max g.height y.height) y.rest ≡ None → climb b i level (n - t) g ≡ None
climb_too_high b i level n t g y op low here right whole =
    ap (λ turns. climb b i level turns g) (one_left n t low)
    ∙ climb_right b i level (n - (t + 1)) g op (Some y) here right
    ∙ ap (λ x. after x (climb b i level (n - (t + 1)))) whole

climb_end : (b : ℕ) (i : Readers) (level m : ℕ) (g : Got) → infix_from level g.rest ≡ None → climb b i level m g ≡ Some g
climb_end b i level zero g stops = ap (refuse g) stops
climb_end b i level (suc m) g stops = ap (λ o. infix_by b i g o (climb b i level m)) stops

pub climb_stops : (b : ℕ) (i : Readers) (level n t : ℕ) (g : Got) → infix_from level g.rest ≡ None → climb b i level (n - t) g ≡ Some g
climb_stops b i level n t g stops = climb_end b i level (n - t) g stops

-- ---- operators behind an operand

pub suffixes_turn : (b : ℕ) (i : Readers) (known : List (List ℕ)) (n t : ℕ) (g : Got) (r : Reading) → t < n → goes_on (first_symbol g.rest) ≡ true → suffix b i known g ≡ r →
    suffixes b i known (n - t) g ≡ after r (suffixes b i known (n - (t + 1)))
suffixes_turn b i known n t g r low here behind =
    ap (λ turns. suffixes b i known turns g) (one_left n t low)
    ∙ ap (λ x. cond x (after (suffix b i known g) (suffixes b i known (n - (t + 1)))) (Some g)) here
    ∙ ap (λ x. after x (suffixes b i known (n - (t + 1)))) behind

-- ---- comma expressions

commas_right : (b : ℕ) (i : Readers) (m : ℕ) (g : Got) (r : Reading) → is_comma (first_symbol g.rest) ≡ true → i.assignment (behind_first g.rest) ≡ r →
    commas b i (suc m) g ≡ after r (λ y. after (made b (Comma (first_place g.rest) g.tree y.tree) (max g.height y.height) y.rest) (commas b i m))
commas_right b i m g r here right =
    ap (λ x. cond x (after (i.assignment (behind_first g.rest)) (λ y. after (made b (Comma (first_place g.rest) g.tree y.tree) (max g.height y.height) y.rest) (commas b i m))) (Some g)) here
    ∙ ap (λ x. after x (λ y. after (made b (Comma (first_place g.rest) g.tree y.tree) (max g.height y.height) y.rest) (commas b i m))) right

pub commas_turn : (b : ℕ) (i : Readers) (n t : ℕ) (g y : Got) (r : Reading) → t < n → is_comma (first_symbol g.rest) ≡ true → i.assignment (behind_first g.rest) ≡ Some y →
    made b (Comma (first_place g.rest) g.tree y.tree) (max g.height y.height) y.rest ≡ r → commas b i (n - t) g ≡ after r (commas b i (n - (t + 1)))
commas_turn b i n t g y r low here right whole =
    ap (λ turns. commas b i turns g) (one_left n t low)
    ∙ commas_right b i (n - (t + 1)) g (Some y) here right
    ∙ ap (λ x. after x (commas b i (n - (t + 1)))) whole

pub commas_no_operand : (b : ℕ) (i : Readers) (n t : ℕ) (g : Got) → t < n → is_comma (first_symbol g.rest) ≡ true → i.assignment (behind_first g.rest) ≡ None → commas b i (n - t) g ≡ None
commas_no_operand b i n t g low here right = ap (λ turns. commas b i turns g) (one_left n t low) ∙ commas_right b i (n - (t + 1)) g None here right

commas_end : (b : ℕ) (i : Readers) (m : ℕ) (g : Got) → is_comma (first_symbol g.rest) ≡ false → commas b i m g ≡ Some g
commas_end b i zero g stops = ap (λ x. cond x None (Some g)) stops
commas_end b i (suc m) g stops =
    ap (λ x. cond x (after (i.assignment (behind_first g.rest)) (λ y. after (made b (Comma (first_place g.rest) g.tree y.tree) (max g.height y.height) y.rest) (commas b i m))) (Some g)) stops

pub commas_stop : (b : ℕ) (i : Readers) (n t : ℕ) (g : Got) → is_comma (first_symbol g.rest) ≡ false → commas b i (n - t) g ≡ Some g
commas_stop b i n t g stops = commas_end b i (n - t) g stops
