-- What stands at the front of expressions, words and declarators, and what ends them.
use Rattle.std.proofs.Common.{◌≡◌, ℕ, suc, Bool, true, false, List, Some, None, sym, ◌∙◌, arith}
use Rattle.c_layout.specs.SyntaxTrees.{Tree}
use Rattle.c_layout.specs.DeclarationTrees.{NameView}
use Rattle.c_parser_tokens.specs.declared.terminals.Terminal.{Terminal}
use Rattle.c_parser_tokens.specs.declared.terminals.Symbol.{Symbol}
use Rattle.c_parser_tokens.specs.declared.terminals.Symbol.TheVariants as symbol
use Rattle.c_parser_tokens.specs.declared.terminals.Punctuator.TheVariants as p
use Rattle.c_parser_expression_grammar.specs.Expressions.{Derives}
use Rattle.c_parser_expression_grammar.specs.Fronts.{first_symbol, IsName}
use Rattle.c_parser_theorems.specs.UniqueExpressions.Endings.{EndsBefore}
use Rattle.c_parser_theorems.proofs.unique_expressions.Reading.{Reads, Found, begin, read}
use Rattle.c_parser_theorems.proofs.unique_expressions.Operands.{operand, size}
use Rattle.c_parser_theorems.proofs.unique_expressions.Unique.{spined}

-- ---- names

-- two names at one place are the same
pub names_fix : {known : List (List ℕ)} (n m : NameView) {ts r s : List Terminal} → IsName known n.at n.text ts r → IsName known m.at m.text ts s → (n ≡ m) × (r ≡ s)
names_fix {known} n m {ts} {r} {s} one two = (λ i. record { at = (one.place ∙ sym two.place) i; text = (one.spelled ∙ sym two.spelled) i }, one.behind ∙ sym two.behind)

-- ---- what begins no expression

some_none : {x : Tree × List Terminal} {f : Found} → f ≡ Some x → f ≡ None → ⊥
some_none {x} {f} is none = let h : Some x ≡ None = sym is ∙ none in cc

pub no_expression : (known : List (List ℕ)) (l : ℕ) (e : Tree) (ts r : List Terminal) (x : Symbol) → first_symbol ts ≡ x → ((self : Reads) (m low : ℕ) → begin self m known low ts x ≡ None) → Derives e known l ts r → EndsBefore l r → ⊥
no_expression known l e ts r x at none d ends =
    let nothing : begin (read known (size e)) (size e) known l ts (first_symbol ts) ≡ None = rw at (none (read known (size e)) (size e) l) in
    let unread : read known (suc (size e)) l ts ≡ None = rw nothing in
    some_none (operand e (spined e) known l ts r d ends (suc (size e)) (omega arith)) unread

-- ---- what ends a declarator

abbrev pub is_end : Symbol → Bool
is_end (symbol.Punctuator p.Comma) = true
is_end (symbol.Punctuator p.Semicolon) = true
is_end (symbol.Punctuator p.Assign) = true
is_end (symbol.Punctuator p.RightParenthesis) = true
is_end _ = false

-- one of `,` `;` `=` and `)` stands there
abbrev pub Ends : List Terminal → Type 0
Ends r = is_end (first_symbol r) ≡ true
