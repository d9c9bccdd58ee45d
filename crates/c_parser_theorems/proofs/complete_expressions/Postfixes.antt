-- Primary and postfix expressions are found.
use Rattle.std.proofs.Common.{◌≡◌, ℕ, suc, ◌+◌, ◌-◌, ◌≤◌, true, false, max, List, Some, refl, arith, ◌∙◌}
use Rattle.cc_base.specs.declared.diagnostics.Place.{Place}
use Rattle.c_layout.specs.SyntaxTrees.{Tree, Name, Number, Literal, Paren, Subscript, Member, Arrow, Postfix, Binary, Logical, Conditional, Assign, Comma}
use Rattle.c_layout.specs.declared.syntax_tree.expressions.Constant.{Constant}
use Rattle.c_layout.specs.declared.syntax_tree.expressions.StepOp.{StepOp}
use Rattle.c_layout.specs.declared.syntax_tree.expressions.StepOp.TheVariants as step
use Rattle.c_parser_tokens.specs.declared.terminals.Terminal.{Terminal}
use Rattle.c_parser_tokens.specs.declared.terminals.Punctuator.TheVariants as p
use Rattle.c_parser_tokens.specs.declared.terminals.Symbol.{Symbol}
use Rattle.c_parser_tokens.specs.declared.terminals.Symbol.TheVariants as symbol
use Rattle.c_parser_expression_grammar.specs.Expressions.{Derives, height_of}
use Rattle.c_parser_expression_grammar.specs.Fronts.{first_symbol, first_place, behind_first, is_identifier_first, IsName}
use Rattle.c_parser_expression_grammar.specs.Levels.{step_sign, step_of, goes_on}
use Rattle.c_parser_expression_grammar.specs.Continuations.{continuation_of}
use Rattle.c_parser_theorems.specs.UniqueExpressions.Endings.{power}
use Rattle.c_parser_theorems.proofs.unique_expressions.Levels.{below, ends_at, power_at}
use Rattle.c_parser_theorems.proofs.unique_expressions.Operands.{spine}
use Rattle.c_parser_expression_grammar.specs.Readings.{got, is_left_parenthesis}
use Rattle.c_parser_expression_grammar.specs.ExpressionReaders.{NameReaders, postfix, suffixes, inside}
use Rattle.c_parser_theorems.specs.CompleteExpressions.Found.{Reads, IsFound}
use Rattle.c_parser_theorems.proofs.complete_expressions.Stops.{suffixes_stop}
use Rattle.c_parser_theorems.proofs.complete_expressions.Lifts.{own_level, from_postfix, found_by, found_inside}
use Rattle.c_parser_theorems.proofs.complete_expressions.Begins.{begins_postfix}

-- no more operators stand behind the first operand than the tree is high
pub spine_high : (e : Tree) → spine e ≤ height_of e
spine_high (Subscript at e i) = let h = spine_high e in omega arith
spine_high (Member at e name) = let h = spine_high e in omega arith
spine_high (Arrow at e name) = let h = spine_high e in omega arith
spine_high (Postfix at op e) = let h = spine_high e in omega arith
spine_high (Binary at op x y) = let h = spine_high x in omega arith
spine_high (Logical at op x y) = let h = spine_high x in omega arith
spine_high (Conditional at x y z) = let h = spine_high x in omega arith
spine_high (Assign at op x y) = let h = spine_high x in omega arith
spine_high (Comma at x y) = let h = spine_high x in omega arith
spine_high _ = omega arith

-- reading goes as far as the expression, and on from there with the turns that are left
abbrev pub IsPostfixRead : NameReaders → List (List ℕ) → Tree → Type 0
IsPostfixRead name known e =
    (b j : ℕ) (ts rest : List Terminal) → Derives e known 15 ts rest → power_at rest ≤ 16 → height_of e ≤ b → b ≡ spine e + j →
    postfix b (inside name known b) known ts ≡ suffixes b (inside name known b) known j (got e (height_of e) rest)

parenthesis_off : (s : Symbol) → power (continuation_of s) ≤ 16 → is_left_parenthesis s ≡ false
parenthesis_off (symbol.Punctuator p.LeftParenthesis) low = absurd (omega arith)
parenthesis_off _ low = refl

pub name_read : (name : NameReaders) (known : List (List ℕ)) (at : Place) (text : List ℕ) → IsPostfixRead name known (Name at text)
name_read name known at text b j ts rest is ends high turns =
    let off : is_left_parenthesis (first_symbol (behind_first ts)) ≡ false = parenthesis_off (first_symbol (behind_first ts)) (rw is.behind at ends) in
    let same : b ≡ j = omega arith in
    rw (is.symbol, is.other, off, is.place, is.spelled, is.behind, same) refl

pub number_read : (name : NameReaders) (known : List (List ℕ)) (at : Place) (value : Constant) → IsPostfixRead name known (Number at value)
number_read name known at value b j ts rest is ends high turns = let same : b ≡ j = omega arith in rw (is.symbol, is.place, is.behind, same) refl

pub literal_read : (name : NameReaders) (known : List (List ℕ)) (at : Place) (bytes : List ℕ) → IsPostfixRead name known (Literal at bytes)
literal_read name known at bytes b j ts rest is ends high turns = let same : b ≡ j = omega arith in rw (is.symbol, is.place, is.spelled, is.behind, same) refl

pub paren_read : (name : NameReaders) (known : List (List ℕ)) (at : Place) (e : Tree) → IsFound name known e → IsPostfixRead name known (Paren at e)
paren_read name known at e of-e b j ts rest (place, a, c, opens, inner, shut) ends high turns =
    let from : Derives e known 0 (behind_first ts) c = rw opens.behind at inner in
    let one = (found_inside name known e of-e b).expression (behind_first ts) c from (ends_at 0 shut (omega arith)) (omega arith) in
    let fits = below (height_of e) b (omega arith) in
    let same : b ≡ j = omega arith in
    rw (opens.symbol, opens.symbol, one, shut.symbol, fits, place, shut.behind, same) refl

pub subscript_read : (name : NameReaders) (known : List (List ℕ)) (at : Place) (e x : Tree) → IsPostfixRead name known e → IsFound name known x → IsPostfixRead name known (Subscript at e x)
subscript_read name known at e x of-e of-x b j ts rest (level, a, c, d, place, left, opens, inner, shut) ends high turns =
    let front = of-e b (suc j) ts a left (rw opens.symbol (omega arith)) (omega arith) (omega arith) in
    let from : Derives x known 0 (behind_first a) d = rw opens.behind at inner in
    let one = (found_inside name known x of-x b).expression (behind_first a) d from (ends_at 0 shut (omega arith)) (omega arith) in
    let fits = below (max (height_of e) (height_of x)) b (omega arith) in
    front ∙ rw (opens.symbol, opens.symbol, one, shut.symbol, fits, place, shut.behind) refl

pub member_read : (name : NameReaders) (known : List (List ℕ)) (at : Place) (e : Tree) (text : List ℕ) → IsPostfixRead name known e → IsPostfixRead name known (Member at e text)
member_read name known at e text of-e b j ts rest (level, a, c, place, left, dot, is) ends high turns =
    let front = of-e b (suc j) ts a left (rw dot.symbol (omega arith)) (omega arith) (omega arith) in
    let is-at : IsName known (first_place (behind_first a)) text (behind_first a) rest = rw dot.behind at is in
    let yes : is_identifier_first known (behind_first a) ≡ true = rw (is-at.symbol, is-at.other) refl in
    let fits = below (height_of e) b (omega arith) in
    front ∙ rw (dot.symbol, yes, fits, place, is-at.spelled, is-at.behind) refl

pub arrow_read : (name : NameReaders) (known : List (List ℕ)) (at : Place) (e : Tree) (text : List ℕ) → IsPostfixRead name known e → IsPostfixRead name known (Arrow at e text)
arrow_read name known at e text of-e b j ts rest (level, a, c, place, left, arrow, is) ends high turns =
    let front = of-e b (suc j) ts a left (rw arrow.symbol (omega arith)) (omega arith) (omega arith) in
    let is-at : IsName known (first_place (behind_first a)) text (behind_first a) rest = rw arrow.behind at is in
    let yes : is_identifier_first known (behind_first a) ≡ true = rw (is-at.symbol, is-at.other) refl in
    let fits = below (height_of e) b (omega arith) in
    front ∙ rw (arrow.symbol, yes, fits, place, is-at.spelled, is-at.behind) refl

step_goes_on : (op : StepOp) → goes_on (symbol.Punctuator (step_sign op)) ≡ true
step_goes_on op = elim op as (λ o. goes_on (symbol.Punctuator (step_sign o)) ≡ true) [ step.Increment ↦ refl | step.Decrement ↦ refl ]

pub step_is : (op : StepOp) → step_of (symbol.Punctuator (step_sign op)) ≡ Some op
step_is op = elim op as (λ o. step_of (symbol.Punctuator (step_sign o)) ≡ Some o) [ step.Increment ↦ refl | step.Decrement ↦ refl ]

step_power : (op : StepOp) → power (continuation_of (symbol.Punctuator (step_sign op))) ≤ 16
step_power op = elim op as (λ o. power (continuation_of (symbol.Punctuator (step_sign o))) ≤ 16) [ step.Increment ↦ omega arith | step.Decrement ↦ omega arith ]

pub postfix_read : (name : NameReaders) (known : List (List ℕ)) (at : Place) (op : StepOp) (e : Tree) → IsPostfixRead name known e → IsPostfixRead name known (Postfix at op e)
postfix_read name known at op e of-e b j ts rest (level, a, place, left, sign) ends high turns =
    let front = of-e b (suc j) ts a left (rw sign.symbol (step_power op)) (omega arith) (omega arith) in
    let on = step_goes_on op in
    let is = step_is op in
    let fits = below (height_of e) b (omega arith) in
    front ∙ rw (sign.symbol, on, is, fits, place, sign.behind) refl

-- what is read so is found
pub postfix_found : (name : NameReaders) (known : List (List ℕ)) (e : Tree) → 15 ≤ own_level e → IsPostfixRead name known e → IsFound name known e
postfix_found name known e high of-e =
    found_by name known e (λ b. from_postfix name known b (inside name known b) e high (begins_postfix e known) (reads b))
  where
    reads : (b : ℕ) → Reads known (postfix b (inside name known b) known) 15 (suc b) e
    reads b ts rest d ends small =
        let short = spine_high e in
        let whole : b ≡ spine e + (b - spine e) = omega arith in
        of-e b (b - spine e) ts rest d (omega arith) (omega arith) whole ∙ suffixes_stop b (inside name known b) known (b - spine e) (got e (height_of e) rest) (omega arith)
