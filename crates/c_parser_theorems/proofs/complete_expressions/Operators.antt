-- Expressions with an operator between two operands are found.
use Rattle.std.proofs.Common.{◌≡◌, ℕ, suc, ◌+◌, ◌-◌, ◌≤◌, true, max, List, Option, Some, None, nat_le, refl, arith, ◌∙◌}
use Rattle.cc_base.specs.declared.diagnostics.Place.{Place}
use Rattle.c_layout.specs.SyntaxTrees.{Tree, Name, Number, Literal, Paren, Subscript, Call, Member, Arrow, Postfix, Prefix, Unary, SizeofExpr, SizeofType, Cast, Binary, Logical, Conditional, Assign, Comma}
use Rattle.c_layout.specs.declared.syntax_tree.expressions.AssignOp.{AssignOp}
use Rattle.c_layout.specs.declared.syntax_tree.expressions.AssignOp.TheVariants as assign
use Rattle.c_layout.specs.declared.syntax_tree.expressions.BinaryOp.{BinaryOp}
use Rattle.c_layout.specs.declared.syntax_tree.expressions.BinaryOp.TheVariants as binary_op
use Rattle.c_layout.specs.declared.syntax_tree.expressions.LogicalOp.{LogicalOp}
use Rattle.c_parser_tokens.specs.declared.terminals.Terminal.{Terminal}
use Rattle.c_parser_tokens.specs.declared.terminals.Punctuator.{Punctuator}
use Rattle.c_parser_expression_grammar.specs.declared.operators.Infix.TheVariants as between
use Rattle.c_parser_expression_grammar.specs.Expressions.{Derives, height_of}
use Rattle.c_parser_expression_grammar.specs.Findings.{is_unary}
use Rattle.c_parser_expression_grammar.specs.Fronts.{first_symbol, behind_first, IsSign}
use Rattle.c_parser_expression_grammar.specs.Levels.{binary_sign, binary_level, logical_sign, logical_level, assign_sign, compound_sign, assign_of, assign_of_sign}
use Rattle.c_parser_theorems.specs.UniqueExpressions.Endings.{EndsBefore}
use Rattle.c_parser_theorems.proofs.unique_expressions.Levels.{below, ends_at, edge, edge_left, edge_right, power_at, power_is, with_sign, joined_sign, becomes_sign, level_high, level_low, logical_high, logical_low}
use Rattle.c_parser_expression_grammar.specs.Readings.{got}
use Rattle.c_parser_expression_grammar.specs.ExpressionReaders.{NameReaders, readers_at, infix_from, climb, commas, binary, conditional, assignment, expression, inside}
use Rattle.c_parser_theorems.specs.CompleteExpressions.Found.{Reads, Finds, IsFound}
use Rattle.c_parser_theorems.proofs.complete_expressions.Stops.{climb_stops, commas_stop}
use Rattle.c_parser_theorems.proofs.complete_expressions.Lifts.{own_level, raise, nothing, to_conditional, to_expression, from_conditional, found_by, found_at, found_inside}

-- an expression derives at no level above its own
pub own_high : (e : Tree) (known : List (List ℕ)) (l : ℕ) (ts rest : List Terminal) → Derives e known l ts rest → l ≤ 15 → l ≤ own_level e
own_high (Name at text) known l ts rest d low = omega arith
own_high (Number at value) known l ts rest d low = omega arith
own_high (Literal at bytes) known l ts rest d low = omega arith
own_high (Paren at e) known l ts rest d low = omega arith
own_high (Subscript at e i) known l ts rest d low = d.0
own_high (Call at name es) known l ts rest d low = d.0
own_high (Member at e name) known l ts rest d low = d.0
own_high (Arrow at e name) known l ts rest d low = d.0
own_high (Postfix at op e) known l ts rest d low = d.0
own_high (Prefix at op e) known l ts rest d low = d.0
own_high (Unary at op e) known l ts rest d low = d.0
own_high (SizeofExpr at e) known l ts rest d low = d.0
own_high (SizeofType at name es) known l ts rest d low = d.0
own_high (Cast at name es e) known l ts rest d low = d.0
own_high (Binary at op x y) known l ts rest d low = d.0
own_high (Logical at op x y) known l ts rest d low = d.0
own_high (Conditional at x y z) known l ts rest d low = d.0
own_high (Assign at op x y) known l ts rest d low = d.0
own_high (Comma at x y) known l ts rest d low = d.0

-- and at each one below
pub lower : (e : Tree) (known : List (List ℕ)) (l m : ℕ) (ts rest : List Terminal) → m ≤ l → l ≤ 15 → Derives e known l ts rest → Derives e known m ts rest
lower e known l m ts rest down top d = let h = own_high e known l ts rest d top in raise e known l m ts rest (omega arith) d

-- ---- binary operators

-- how many of them stand behind the first operand
abbrev pub operators : Tree → ℕ
operators (Binary at op x y) = suc (operators x)
operators (Logical at op x y) = suc (operators x)
operators _ = 0

operators_high : (e : Tree) → operators e ≤ height_of e
operators_high (Binary at op x y) = let h = operators_high x in omega arith
operators_high (Logical at op x y) = let h = operators_high x in omega arith
operators_high _ = omega arith

-- reading goes as far as the expression, and on from there with the turns that are left
abbrev pub IsBinaryRead : NameReaders → List (List ℕ) → Tree → Type 0
IsBinaryRead name known e =
    (b j l : ℕ) (ts rest : List Terminal) → 3 ≤ l → l ≤ 13 → Derives e known l ts rest → power_at rest ≤ edge e → power_at rest ≤ 13 → height_of e ≤ b → b ≡ operators e + j →
    binary b (inside name known b) known l ts ≡ climb b (inside name known b) l j (got e (height_of e) rest)

pub first_read : (name : NameReaders) (known : List (List ℕ)) (e : Tree) → 13 ≤ own_level e → operators e ≡ 0 → IsFound name known e → IsBinaryRead name known e
first_read name known e high none of-e b j l ts rest low top d ends ends-too small turns =
    let one = (found_at name known e of-e b).cast ts rest (raise e known l 13 ts rest high d) (omega arith) (omega arith) in
    let same : b ≡ j = omega arith in
    rw (one, same) refl

reaches : (l m : ℕ) → l ≤ m → nat_le l m ≡ true
reaches l m h = grind arith

binary_from : (l : ℕ) (op : BinaryOp) (a c : List Terminal) → IsSign (binary_sign op) a c → l ≤ binary_level op → infix_from l a ≡ Some (between.Binary op)
binary_from l op a c sign low = let at = power_is sign (with_sign op) in let yes = reaches l (binary_level op) low in rw (at, yes) refl

logical_from : (l : ℕ) (op : LogicalOp) (a c : List Terminal) → IsSign (logical_sign op) a c → l ≤ logical_level op → infix_from l a ≡ Some (between.Logical op)
logical_from l op a c sign low = let at = power_is sign (joined_sign op) in let yes = reaches l (logical_level op) low in rw (at, yes) refl

binary_power : (op : BinaryOp) (a c : List Terminal) → IsSign (binary_sign op) a c → power_at a ≡ binary_level op + 1
binary_power op a c sign = let at = power_is sign (with_sign op) in rw at refl

logical_power : (op : LogicalOp) (a c : List Terminal) → IsSign (logical_sign op) a c → power_at a ≡ logical_level op + 1
logical_power op a c sign = let at = power_is sign (joined_sign op) in rw at refl

pub binary_read : (name : NameReaders) (known : List (List ℕ)) (at : Place) (op : BinaryOp) (x y : Tree) → IsBinaryRead name known x → IsFound name known y → IsBinaryRead name known (Binary at op x y)
binary_read name known at op x y of-x of-y b j l ts rest low top (level, a, c, place, left, sign, right) ends ends-too small turns =
    let high = level_high op in
    let lowest = level_low op in
    let left-at = lower x known (binary_level op) l ts a level (omega arith) left in
    let wide : binary_level op + 1 ≤ edge x = edge_left x known (binary_level op) ts a left (omega arith) lowest in
    let strong = binary_power op a c sign in
    let front = of-x b (suc j) l ts a low top left-at (omega arith) (omega arith) (omega arith) (omega arith) in
    let is = binary_from l op a c sign level in
    let from : Derives y known (binary_level op + 1) (behind_first a) rest = rw sign.behind at right in
    let one = (found_inside name known y of-y b).binary (binary_level op + 1) (omega arith) (omega arith) (behind_first a) rest from (omega arith) (omega arith) in
    let fits = below (max (height_of x) (height_of y)) b (omega arith) in
    front ∙ rw (is, one, fits, place) refl

pub logical_read : (name : NameReaders) (known : List (List ℕ)) (at : Place) (op : LogicalOp) (x y : Tree) → IsBinaryRead name known x → IsFound name known y → IsBinaryRead name known (Logical at op x y)
logical_read name known at op x y of-x of-y b j l ts rest low top (level, a, c, place, left, sign, right) ends ends-too small turns =
    let high = logical_high op in
    let lowest = logical_low op in
    let left-at = lower x known (logical_level op) l ts a level (omega arith) left in
    let wide : logical_level op + 1 ≤ edge x = edge_left x known (logical_level op) ts a left high (omega arith) in
    let strong = logical_power op a c sign in
    let front = of-x b (suc j) l ts a low top left-at (omega arith) (omega arith) (omega arith) (omega arith) in
    let is = logical_from l op a c sign level in
    let from : Derives y known (logical_level op + 1) (behind_first a) rest = rw sign.behind at right in
    let one = (found_inside name known y of-y b).binary (logical_level op + 1) (omega arith) (omega arith) (behind_first a) rest from (omega arith) (omega arith) in
    let fits = below (max (height_of x) (height_of y)) b (omega arith) in
    front ∙ rw (is, one, fits, place) refl

-- what is read so is found
pub binary_found : (name : NameReaders) (known : List (List ℕ)) (e : Tree) → 3 ≤ own_level e → own_level e ≤ 12 → IsBinaryRead name known e → IsFound name known e
binary_found name known e high low of-e = found_by name known e finds
  where
    reads : (b l : ℕ) → 3 ≤ l → l ≤ 13 → Reads known (binary b (inside name known b) known l) l (suc b) e
    reads b l from top ts rest d ends small =
        let short = operators_high e in
        let right = edge_right e known l ts rest d in
        let whole : b ≡ operators e + (b - operators e) = omega arith in
        of-e b (b - operators e) l ts rest from top d (omega arith) (omega arith) (omega arith) whole ∙ climb_stops b (inside name known b) l (b - operators e) (got e (height_of e) rest) ends

    finds : (b : ℕ) → Finds known (readers_at name known b (inside name known b)) (suc b) e
    finds b =
        let chosen = to_conditional known b (inside name known b) e high (reads b 3 (omega arith) (omega arith)) in
        let below-it = from_conditional known b (inside name known b) e (omega arith) chosen in
        record {
          expression = below-it.1;
          assignment = below-it.0;
          conditional = chosen;
          binary = reads b;
          cast = nothing known _ 13 (suc b) e (omega arith) (omega arith);
          unary = nothing known _ 14 (suc b) e (omega arith) (omega arith);
          postfix = nothing known _ 15 (suc b) e (omega arith) (omega arith);
        }

-- ---- conditional expressions

pub conditional_found : (name : NameReaders) (known : List (List ℕ)) (at : Place) (x y z : Tree) → IsFound name known x → IsFound name known y → IsFound name known z → IsFound name known (Conditional at x y z)
conditional_found name known at x y z of-x of-y of-z = found_by name known (Conditional at x y z) finds
  where
    reads : (b : ℕ) → Reads known (conditional b (inside name known b) known) 2 (suc b) (Conditional at x y z)
    reads b ts rest (level, a, c, d, e, place, left, question, middle, colon, right) ends small =
        let one = (found_at name known x of-x b).binary 3 (omega arith) (omega arith) ts a left (ends_at 3 question (omega arith)) (omega arith) in
        let from : Derives y known 0 (behind_first a) d = rw question.behind at middle in
        let two = (found_inside name known y of-y b).expression (behind_first a) d from (ends_at 0 colon (omega arith)) (omega arith) in
        let last : Derives z known 2 (behind_first d) rest = rw colon.behind at right in
        let three = (found_inside name known z of-z b).conditional (behind_first d) rest last ends (omega arith) in
        let fits = below (max (max (height_of x) (height_of y)) (height_of z)) b (omega arith) in
        rw (one, question.symbol, two, colon.symbol, three, fits, place) refl

    finds : (b : ℕ) → Finds known (readers_at name known b (inside name known b)) (suc b) (Conditional at x y z)
    finds b =
        let below-it = from_conditional known b (inside name known b) (Conditional at x y z) (omega arith) (reads b) in
        record {
          expression = below-it.1;
          assignment = below-it.0;
          conditional = reads b;
          binary = λ l from top. nothing known _ l (suc b) (Conditional at x y z) (omega arith) (omega arith);
          cast = nothing known _ 13 (suc b) (Conditional at x y z) (omega arith) (omega arith);
          unary = nothing known _ 14 (suc b) (Conditional at x y z) (omega arith) (omega arith);
          postfix = nothing known _ 15 (suc b) (Conditional at x y z) (omega arith) (omega arith);
        }

-- ---- assignments

of_sign : Option Punctuator → Option AssignOp → Option AssignOp
of_sign None other = other
of_sign (Some sign) other = assign_of_sign sign

compound_is : (op : BinaryOp) → of_sign (compound_sign op) (Some (assign.Compound op)) ≡ Some (assign.Compound op)
unfolding of_sign
compound_is op = elim op as (λ o. of_sign (compound_sign o) (Some (assign.Compound o)) ≡ Some (assign.Compound o)) [
  | binary_op.Multiply ↦ refl
  | binary_op.Divide ↦ refl
  | binary_op.Remainder ↦ refl
  | binary_op.Add ↦ refl
  | binary_op.Subtract ↦ refl
  | binary_op.ShiftLeft ↦ refl
  | binary_op.ShiftRight ↦ refl
  | binary_op.Less ↦ refl
  | binary_op.Greater ↦ refl
  | binary_op.LessEqual ↦ refl
  | binary_op.GreaterEqual ↦ refl
  | binary_op.Equal ↦ refl
  | binary_op.NotEqual ↦ refl
  | binary_op.And ↦ refl
  | binary_op.Xor ↦ refl
  | binary_op.Or ↦ refl
]

assign_is : (op : AssignOp) → of_sign (assign_sign op) (Some op) ≡ Some op
unfolding of_sign
assign_is assign.Simple = refl
assign_is (assign.Compound op) = compound_is op

assign_at : (op : AssignOp) (sign : Punctuator) (a c : List Terminal) → assign_sign op ≡ Some sign → IsSign sign a c → assign_of (first_symbol a) ≡ Some op
unfolding of_sign
assign_at op sign a c is at = let one : assign_of_sign sign ≡ Some op = rw is at (assign_is op) in rw at.symbol one

unary_tree : (e : Tree) (known : List (List ℕ)) (ts rest : List Terminal) → Derives e known 14 ts rest → is_unary e ≡ true
unary_tree (Cast at name es e) known ts rest d = let h = d.0 in absurd (omega arith)
unary_tree (Binary at op x y) known ts rest d = let h = d.0 in let low = level_low op in absurd (omega arith)
unary_tree (Logical at op x y) known ts rest d = let h = d.0 in let low = logical_low op in absurd (omega arith)
unary_tree (Conditional at x y z) known ts rest d = let h = d.0 in absurd (omega arith)
unary_tree (Assign at op x y) known ts rest d = let h = d.0 in absurd (omega arith)
unary_tree (Comma at x y) known ts rest d = let h = d.0 in absurd (omega arith)
unary_tree _ known ts rest d = refl

becomes_ends : (op : AssignOp) (sign : Punctuator) (a c : List Terminal) → assign_sign op ≡ Some sign → IsSign sign a c → EndsBefore 2 a
becomes_ends op sign a c is at = let becomes = power_is at (becomes_sign op sign is) in rw becomes (omega arith)

pub assign_found : (name : NameReaders) (known : List (List ℕ)) (at : Place) (op : AssignOp) (x y : Tree) → IsFound name known x → IsFound name known y → IsFound name known (Assign at op x y)
assign_found name known at op x y of-x of-y = found_by name known (Assign at op x y) finds
  where
    reads : (b : ℕ) → Reads known (assignment b (inside name known b) known) 1 (suc b) (Assign at op x y)
    reads b ts rest (level, sign, sign-is, a, c, place, left, is, right) ends small =
        let left-at = lower x known 14 2 ts a (omega arith) (omega arith) left in
        let one = (found_at name known x of-x b).conditional ts a left-at (becomes_ends op sign a c sign-is is) (omega arith) in
        let becomes = assign_at op sign a c sign-is is in
        let simple = unary_tree x known ts a left in
        let from : Derives y known 1 (behind_first a) rest = rw is.behind at right in
        let two = (found_inside name known y of-y b).assignment (behind_first a) rest from ends (omega arith) in
        let fits = below (max (height_of x) (height_of y)) b (omega arith) in
        rw (one, becomes, simple, two, fits, place) refl

    finds : (b : ℕ) → Finds known (readers_at name known b (inside name known b)) (suc b) (Assign at op x y)
    finds b = record {
      expression = to_expression known b (inside name known b) (Assign at op x y) (omega arith) (reads b);
      assignment = reads b;
      conditional = nothing known _ 2 (suc b) (Assign at op x y) (omega arith) (omega arith);
      binary = λ l from top. nothing known _ l (suc b) (Assign at op x y) (omega arith) (omega arith);
      cast = nothing known _ 13 (suc b) (Assign at op x y) (omega arith) (omega arith);
      unary = nothing known _ 14 (suc b) (Assign at op x y) (omega arith) (omega arith);
      postfix = nothing known _ 15 (suc b) (Assign at op x y) (omega arith) (omega arith);
    }

-- ---- comma expressions

abbrev pub comma_count : Tree → ℕ
comma_count (Comma at x y) = suc (comma_count x)
comma_count _ = 0

comma_count_high : (e : Tree) → comma_count e ≤ height_of e
comma_count_high (Comma at x y) = let h = comma_count_high x in omega arith
comma_count_high _ = omega arith

abbrev pub IsCommaRead : NameReaders → List (List ℕ) → Tree → Type 0
IsCommaRead name known e =
    (b j : ℕ) (ts rest : List Terminal) → Derives e known 0 ts rest → power_at rest ≤ 1 → height_of e ≤ b → b ≡ comma_count e + j →
    expression b (inside name known b) known ts ≡ commas b (inside name known b) j (got e (height_of e) rest)

pub item_read : (name : NameReaders) (known : List (List ℕ)) (e : Tree) → 1 ≤ own_level e → comma_count e ≡ 0 → IsFound name known e → IsCommaRead name known e
item_read name known e high none of-e b j ts rest d ends small turns =
    let one = (found_at name known e of-e b).assignment ts rest (raise e known 0 1 ts rest high d) (omega arith) (omega arith) in
    let same : b ≡ j = omega arith in
    rw (one, same) refl

pub comma_read : (name : NameReaders) (known : List (List ℕ)) (at : Place) (x y : Tree) → IsCommaRead name known x → IsFound name known y → IsCommaRead name known (Comma at x y)
comma_read name known at x y of-x of-y b j ts rest (level, a, c, place, left, comma, right) ends small turns =
    let front = of-x b (suc j) ts a left (rw comma.symbol (omega arith)) (omega arith) (omega arith) in
    let from : Derives y known 1 (behind_first a) rest = rw comma.behind at right in
    let one = (found_inside name known y of-y b).assignment (behind_first a) rest from (omega arith) (omega arith) in
    let fits = below (max (height_of x) (height_of y)) b (omega arith) in
    front ∙ rw (comma.symbol, one, fits, place) refl

pub comma_found : (name : NameReaders) (known : List (List ℕ)) (at : Place) (x y : Tree) → IsCommaRead name known (Comma at x y) → IsFound name known (Comma at x y)
comma_found name known at x y of-e = found_by name known (Comma at x y) finds
  where
    reads : (b : ℕ) → Reads known (expression b (inside name known b) known) 0 (suc b) (Comma at x y)
    reads b ts rest d ends small =
        let short = comma_count_high x in
        let whole : b ≡ comma_count (Comma at x y) + (b - comma_count (Comma at x y)) = omega arith in
        of-e b (b - comma_count (Comma at x y)) ts rest d (omega arith) (omega arith) whole ∙ commas_stop b (inside name known b) (b - comma_count (Comma at x y)) (got (Comma at x y) (height_of (Comma at x y)) rest) ends

    finds : (b : ℕ) → Finds known (readers_at name known b (inside name known b)) (suc b) (Comma at x y)
    finds b = record {
      expression = reads b;
      assignment = nothing known _ 1 (suc b) (Comma at x y) (omega arith) (omega arith);
      conditional = nothing known _ 2 (suc b) (Comma at x y) (omega arith) (omega arith);
      binary = λ l from top. nothing known _ l (suc b) (Comma at x y) (omega arith) (omega arith);
      cast = nothing known _ 13 (suc b) (Comma at x y) (omega arith) (omega arith);
      unary = nothing known _ 14 (suc b) (Comma at x y) (omega arith) (omega arith);
      postfix = nothing known _ 15 (suc b) (Comma at x y) (omega arith) (omega arith);
    }
