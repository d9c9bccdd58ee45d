-- What expressions begin with.
use Rattle.std.proofs.Common.{◌≡◌, ℕ, Bool, true, false, List, refl, arith}
use Rattle.cc_base.specs.declared.diagnostics.Place.{Place}
use Rattle.c_layout.specs.SyntaxTrees.{Tree, Name, Number, Literal, Paren, Subscript, Call, Member, Arrow, Postfix, Prefix, Unary, SizeofExpr, SizeofType, Cast, Binary, Logical, Conditional, Assign, Comma}
use Rattle.c_layout.specs.declared.syntax_tree.expressions.StepOp.{StepOp}
use Rattle.c_layout.specs.declared.syntax_tree.expressions.StepOp.TheVariants as step
use Rattle.c_layout.specs.declared.syntax_tree.expressions.UnaryOp.{UnaryOp}
use Rattle.c_layout.specs.declared.syntax_tree.expressions.UnaryOp.TheVariants as unary
use Rattle.c_parser_tokens.specs.declared.terminals.Terminal.{Terminal}
use Rattle.c_parser_tokens.specs.declared.terminals.Punctuator.{Punctuator}
use Rattle.c_parser_tokens.specs.declared.terminals.Punctuator.TheVariants as p
use Rattle.c_parser_tokens.specs.declared.terminals.Symbol.{Symbol}
use Rattle.c_parser_tokens.specs.declared.terminals.Symbol.TheVariants as symbol
use Rattle.c_parser_expression_grammar.specs.Expressions.{Derives}
use Rattle.c_parser_expression_grammar.specs.Fronts.{first_symbol, behind_first, begins_specifiers, IsSign, IsName}
use Rattle.c_parser_expression_grammar.specs.Levels.{step_sign, unary_sign}
use Rattle.c_parser_theorems.proofs.unique_expressions.Levels.{level_low, logical_low}
use Rattle.c_parser_expression_grammar.specs.Readings.{is_right_parenthesis, is_right_bracket, is_left_brace, is_right_brace}
use Rattle.c_parser_theorems.proofs.complete_expressions.Lifts.{BeginsPostfix}

-- ---- no expression begins as specifiers do

sign_begins : {sign : Punctuator} {ts rest : List Terminal} (known : List (List ℕ)) → IsSign sign ts rest → begins_specifiers known ts ≡ false
sign_begins known is = rw is.symbol refl

name_begins : {known : List (List ℕ)} {at : Place} {text : List ℕ} {ts rest : List Terminal} → IsName known at text ts rest → begins_specifiers known ts ≡ false
name_begins is = rw (is.symbol, is.other) refl

pub no_specifiers : (e : Tree) (known : List (List ℕ)) (l : ℕ) (ts rest : List Terminal) → Derives e known l ts rest → begins_specifiers known ts ≡ false
no_specifiers (Name at text) known l ts rest is = name_begins is
no_specifiers (Number at value) known l ts rest is = rw is.symbol refl
no_specifiers (Literal at bytes) known l ts rest is = rw is.symbol refl
no_specifiers (Paren at e) known l ts rest (place, a, b, opens, inner, shut) = sign_begins known opens
no_specifiers (Subscript at e i) known l ts rest (level, a, b, c, place, left, opens, inner, shut) = no_specifiers e known 15 ts a left
no_specifiers (Call at name es) known l ts rest (level, spans, a, b, c, is, opens, each, sep, shut) = name_begins is
no_specifiers (Member at e name) known l ts rest (level, a, b, place, left, dot, is) = no_specifiers e known 15 ts a left
no_specifiers (Arrow at e name) known l ts rest (level, a, b, place, left, arrow, is) = no_specifiers e known 15 ts a left
no_specifiers (Postfix at op e) known l ts rest (level, a, place, left, sign) = no_specifiers e known 15 ts a left
no_specifiers (Prefix at op e) known l ts rest (level, a, place, sign, inner) = sign_begins known sign
no_specifiers (Unary at op e) known l ts rest (level, a, place, sign, inner) = sign_begins known sign
no_specifiers (SizeofExpr at e) known l ts rest (level, a, place, front, inner) = rw front.symbol refl
no_specifiers (SizeofType at name es) known l ts rest (level, spans, a, b, c, place, front, opens, each, is, shut) = rw front.symbol refl
no_specifiers (Cast at name es e) known l ts rest (level, spans, a, b, c, place, opens, each, is, shut, inner) = sign_begins known opens
no_specifiers (Binary at op x y) known l ts rest (level, a, b, place, left, sign, right) = no_specifiers x known _ ts a left
no_specifiers (Logical at op x y) known l ts rest (level, a, b, place, left, sign, right) = no_specifiers x known _ ts a left
no_specifiers (Conditional at x y z) known l ts rest (level, a, b, c, d, place, left, question, middle, colon, right) = no_specifiers x known 3 ts a left
no_specifiers (Assign at op x y) known l ts rest (level, sign, sign-is, a, b, place, left, is, right) = no_specifiers x known 14 ts a left
no_specifiers (Comma at x y) known l ts rest (level, a, b, place, left, comma, right) = no_specifiers x known 0 ts a left

-- ---- no expression begins with a `)`, a `]` or a brace

is_close : Symbol → Bool
is_close (symbol.Punctuator p.RightParenthesis) = true
is_close (symbol.Punctuator p.RightBracket) = true
is_close (symbol.Punctuator p.LeftBrace) = true
is_close (symbol.Punctuator p.RightBrace) = true
is_close _ = false

step_opens : (op : StepOp) → is_close (symbol.Punctuator (step_sign op)) ≡ false
unfolding is_close
step_opens op = elim op as (λ o. is_close (symbol.Punctuator (step_sign o)) ≡ false) [ step.Increment ↦ refl | step.Decrement ↦ refl ]

unary_opens : (op : UnaryOp) → is_close (symbol.Punctuator (unary_sign op)) ≡ false
unfolding is_close
unary_opens op = elim op as (λ o. is_close (symbol.Punctuator (unary_sign o)) ≡ false) [
  | unary.Address ↦ refl
  | unary.Indirection ↦ refl
  | unary.Plus ↦ refl
  | unary.Minus ↦ refl
  | unary.Complement ↦ refl
  | unary.Not ↦ refl
]

no_close : (e : Tree) (known : List (List ℕ)) (l : ℕ) (ts rest : List Terminal) → Derives e known l ts rest → is_close (first_symbol ts) ≡ false
unfolding is_close
no_close (Name at text) known l ts rest is = rw is.symbol refl
no_close (Number at value) known l ts rest is = rw is.symbol refl
no_close (Literal at bytes) known l ts rest is = rw is.symbol refl
no_close (Paren at e) known l ts rest (place, a, b, opens, inner, shut) = rw opens.symbol refl
no_close (Subscript at e i) known l ts rest (level, a, b, c, place, left, opens, inner, shut) = no_close e known 15 ts a left
no_close (Call at name es) known l ts rest (level, spans, a, b, c, is, opens, each, sep, shut) = rw is.symbol refl
no_close (Member at e name) known l ts rest (level, a, b, place, left, dot, is) = no_close e known 15 ts a left
no_close (Arrow at e name) known l ts rest (level, a, b, place, left, arrow, is) = no_close e known 15 ts a left
no_close (Postfix at op e) known l ts rest (level, a, place, left, sign) = no_close e known 15 ts a left
no_close (Prefix at op e) known l ts rest (level, a, place, sign, inner) = let off = step_opens op in rw sign.symbol off
no_close (Unary at op e) known l ts rest (level, a, place, sign, inner) = let off = unary_opens op in rw sign.symbol off
no_close (SizeofExpr at e) known l ts rest (level, a, place, front, inner) = rw front.symbol refl
no_close (SizeofType at name es) known l ts rest (level, spans, a, b, c, place, front, opens, each, is, shut) = rw front.symbol refl
no_close (Cast at name es e) known l ts rest (level, spans, a, b, c, place, opens, each, is, shut, inner) = rw opens.symbol refl
no_close (Binary at op x y) known l ts rest (level, a, b, place, left, sign, right) = no_close x known _ ts a left
no_close (Logical at op x y) known l ts rest (level, a, b, place, left, sign, right) = no_close x known _ ts a left
no_close (Conditional at x y z) known l ts rest (level, a, b, c, d, place, left, question, middle, colon, right) = no_close x known 3 ts a left
no_close (Assign at op x y) known l ts rest (level, sign, sign-is, a, b, place, left, is, right) = no_close x known 14 ts a left
no_close (Comma at x y) known l ts rest (level, a, b, place, left, comma, right) = no_close x known 0 ts a left

parenthesis_off : (s : Symbol) → is_close s ≡ false → is_right_parenthesis s ≡ false
unfolding is_close
parenthesis_off (symbol.Punctuator p.RightParenthesis) off = absurd (cc off)
parenthesis_off _ off = refl

bracket_off : (s : Symbol) → is_close s ≡ false → is_right_bracket s ≡ false
unfolding is_close
bracket_off (symbol.Punctuator p.RightBracket) off = absurd (cc off)
bracket_off _ off = refl

left_brace_off : (s : Symbol) → is_close s ≡ false → is_left_brace s ≡ false
unfolding is_close
left_brace_off (symbol.Punctuator p.LeftBrace) off = absurd (cc off)
left_brace_off _ off = refl

right_brace_off : (s : Symbol) → is_close s ≡ false → is_right_brace s ≡ false
unfolding is_close
right_brace_off (symbol.Punctuator p.RightBrace) off = absurd (cc off)
right_brace_off _ off = refl

pub no_left_brace : (e : Tree) (known : List (List ℕ)) (l : ℕ) (ts rest : List Terminal) → Derives e known l ts rest → is_left_brace (first_symbol ts) ≡ false
no_left_brace e known l ts rest d = left_brace_off (first_symbol ts) (no_close e known l ts rest d)

pub no_right_brace : (e : Tree) (known : List (List ℕ)) (l : ℕ) (ts rest : List Terminal) → Derives e known l ts rest → is_right_brace (first_symbol ts) ≡ false
no_right_brace e known l ts rest d = right_brace_off (first_symbol ts) (no_close e known l ts rest d)

pub no_parenthesis : (e : Tree) (known : List (List ℕ)) (l : ℕ) (ts rest : List Terminal) → Derives e known l ts rest → is_right_parenthesis (first_symbol ts) ≡ false
no_parenthesis e known l ts rest d = parenthesis_off (first_symbol ts) (no_close e known l ts rest d)

pub no_bracket : (e : Tree) (known : List (List ℕ)) (l : ℕ) (ts rest : List Terminal) → Derives e known l ts rest → is_right_bracket (first_symbol ts) ≡ false
no_bracket e known l ts rest d = bracket_off (first_symbol ts) (no_close e known l ts rest d)

-- ---- postfix expressions

name_front : {known : List (List ℕ)} {at : Place} {text : List ℕ} {ts rest : List Terminal} → IsName known at text ts rest → BeginsPostfix known ts
name_front is = record { no_step = rw is.symbol refl; no_unary = rw is.symbol refl; no_sizeof = rw is.symbol refl; no_type = rw is.symbol refl }

pub begins_postfix : (e : Tree) (known : List (List ℕ)) (ts rest : List Terminal) → Derives e known 15 ts rest → BeginsPostfix known ts
begins_postfix (Name at text) known ts rest is = name_front is
begins_postfix (Number at value) known ts rest is = record { no_step = rw is.symbol refl; no_unary = rw is.symbol refl; no_sizeof = rw is.symbol refl; no_type = rw is.symbol refl }
begins_postfix (Literal at bytes) known ts rest is = record { no_step = rw is.symbol refl; no_unary = rw is.symbol refl; no_sizeof = rw is.symbol refl; no_type = rw is.symbol refl }
begins_postfix (Paren at e) known ts rest (place, a, b, opens, inner, shut) =
    let from : Derives e known 0 (behind_first ts) b = rw opens.behind at inner in
    let none = no_specifiers e known 0 (behind_first ts) b from in
    record { no_step = rw opens.symbol refl; no_unary = rw opens.symbol refl; no_sizeof = rw opens.symbol refl; no_type = rw (opens.symbol, none) refl }
begins_postfix (Subscript at e i) known ts rest (level, a, b, c, place, left, opens, inner, shut) = begins_postfix e known ts a left
begins_postfix (Call at name es) known ts rest (level, spans, a, b, c, is, opens, each, sep, shut) = name_front is
begins_postfix (Member at e name) known ts rest (level, a, b, place, left, dot, is) = begins_postfix e known ts a left
begins_postfix (Arrow at e name) known ts rest (level, a, b, place, left, arrow, is) = begins_postfix e known ts a left
begins_postfix (Postfix at op e) known ts rest (level, a, place, left, sign) = begins_postfix e known ts a left
begins_postfix (Prefix at op e) known ts rest d = let h = d.0 in absurd (omega arith)
begins_postfix (Unary at op e) known ts rest d = let h = d.0 in absurd (omega arith)
begins_postfix (SizeofExpr at e) known ts rest d = let h = d.0 in absurd (omega arith)
begins_postfix (SizeofType at name es) known ts rest d = let h = d.0 in absurd (omega arith)
begins_postfix (Cast at name es e) known ts rest d = let h = d.0 in absurd (omega arith)
begins_postfix (Binary at op x y) known ts rest d = let h = d.0 in let low = level_low op in absurd (omega arith)
begins_postfix (Logical at op x y) known ts rest d = let h = d.0 in let low = logical_low op in absurd (omega arith)
begins_postfix (Conditional at x y z) known ts rest d = let h = d.0 in absurd (omega arith)
begins_postfix (Assign at op x y) known ts rest d = let h = d.0 in absurd (omega arith)
begins_postfix (Comma at x y) known ts rest d = let h = d.0 in absurd (omega arith)
