-- What statements begin with, and how many terminals they take.
use Rattle.std.proofs.Common.{◌≡◌, ℕ, ◌+◌, ◌≤◌, Bool, true, false, ◌&&◌, not, List, [], ◌∷◌, length, Option, Some, None, refl, arith, sym, ap, ◌∙◌}
use Rattle.c_layout.specs.SyntaxTrees.{Tree, Name, Number, Literal, Paren, Subscript, Call, Member, Arrow, Postfix, Prefix, Unary, SizeofExpr, SizeofType, Cast, Binary, Logical, Conditional, Assign, Comma}
use Rattle.c_layout.specs.declared.syntax_tree.expressions.StepOp.{StepOp}
use Rattle.c_layout.specs.declared.syntax_tree.expressions.StepOp.TheVariants as step
use Rattle.c_layout.specs.declared.syntax_tree.expressions.UnaryOp.{UnaryOp}
use Rattle.c_layout.specs.declared.syntax_tree.expressions.UnaryOp.TheVariants as unary
use Rattle.c_layout.specs.DeclarationTrees.{LocalView, ForFirstView, NoClause, Clause, Declares, StatementTree, StatementTrees, Declaration, Label, Case, Default, Block, Expression, If, IfElse, Switch, While, Do, For, Goto, Continue, Break, Return, NoStatement, MoreStatements, InitDeclaratorView, spec_trees}
use Rattle.c_parser_tokens.specs.declared.terminals.Keyword.{Keyword}
use Rattle.c_parser_tokens.specs.declared.terminals.Keyword.TheVariants as k
use Rattle.c_parser_tokens.specs.declared.terminals.Punctuator.TheVariants as p
use Rattle.c_parser_tokens.specs.declared.terminals.Symbol.{Symbol}
use Rattle.c_parser_tokens.specs.declared.terminals.Symbol.TheVariants as symbol
use Rattle.c_parser_tokens.specs.declared.terminals.Terminal.{Terminal}
use Rattle.c_parser_expression_grammar.specs.Expressions.{Derives}
use Rattle.c_parser_expression_grammar.specs.Fronts.{first_symbol, first_place, first_text, behind_first, begins_specifiers, is_identifier, is_typedef, is_specifier, IsSign, IsWord, IsName}
use Rattle.c_parser_expression_grammar.specs.Levels.{step_sign, unary_sign}
use Rattle.c_parser_declarations.specs.Grammar.Declarations.{IsLocalDeclarator, LocalDeclarators, IsLocal}
use Rattle.c_parser.specs.Findings.{is_else}
use Rattle.c_parser.specs.Statements.{Maybe, Condition, FirstClause, is_statement, DeriveStatement, DeriveStatements}
use Rattle.c_parser_theorems.proofs.unique_expressions.Levels.{ends_at}
use Rattle.c_parser_theorems.proofs.unique_expressions.Unique.{one_expression}
use Rattle.c_parser_expression_grammar.specs.Readings.{is_right_brace, is_colon}
use Rattle.c_parser_theorems.proofs.complete_expressions.Begins.{no_specifiers, no_right_brace}
use Rattle.c_parser_theorems.proofs.complete_expressions.Shrinking.{length_behind}
use Rattle.c_parser_theorems.proofs.complete_expressions.Takes.{takes}
use Rattle.c_parser_declarations.specs.Grammar.SpecifierReaders.{is_semicolon}
use Rattle.c_parser_theorems.proofs.complete_declarations.Beginnings.{spec_front, word_takes}
use Rattle.c_parser_theorems.proofs.complete_declarations.Declarations.{local_takes}
use Rattle.c_parser_theorems.proofs.complete_declarations.Lists.{listed_few}
use Rattle.c_parser_theorems.proofs.complete_declarations.Named.{name_takes}
use Rattle.c_parser_theorems.proofs.complete_declarations.Parameters.{spec_takes}
use Rattle.c_parser.specs.StatementReaders.{is_label}

-- ---- expressions

-- a `;`, or a keyword besides `sizeof`
abbrev pub is_odd : Symbol → Bool
is_odd (symbol.Punctuator p.Semicolon) = true
is_odd (symbol.Keyword k.Sizeof) = false
is_odd (symbol.Keyword w) = true
is_odd _ = false

step_even : (op : StepOp) → is_odd (symbol.Punctuator (step_sign op)) ≡ false
step_even op = elim op as (λ o. is_odd (symbol.Punctuator (step_sign o)) ≡ false) [ step.Increment ↦ refl | step.Decrement ↦ refl ]

unary_even : (op : UnaryOp) → is_odd (symbol.Punctuator (unary_sign op)) ≡ false
unary_even op = elim op as (λ o. is_odd (symbol.Punctuator (unary_sign o)) ≡ false) [
  | unary.Address ↦ refl
  | unary.Indirection ↦ refl
  | unary.Plus ↦ refl
  | unary.Minus ↦ refl
  | unary.Complement ↦ refl
  | unary.Not ↦ refl
]

pub no_odd : (e : Tree) (known : List (List ℕ)) (l : ℕ) (ts rest : List Terminal) → Derives e known l ts rest → is_odd (first_symbol ts) ≡ false
no_odd (Name at text) known l ts rest is = rw is.symbol refl
no_odd (Number at value) known l ts rest is = rw is.symbol refl
no_odd (Literal at bytes) known l ts rest is = rw is.symbol refl
no_odd (Paren at e) known l ts rest (place, a, b, opens, inner, shut) = rw opens.symbol refl
no_odd (Subscript at e i) known l ts rest (level, a, b, c, place, left, opens, inner, shut) = no_odd e known 15 ts a left
no_odd (Call at name es) known l ts rest (level, spans, a, b, c, is, opens, each, sep, shut) = rw is.symbol refl
no_odd (Member at e name) known l ts rest (level, a, b, place, left, dot, is) = no_odd e known 15 ts a left
no_odd (Arrow at e name) known l ts rest (level, a, b, place, left, arrow, is) = no_odd e known 15 ts a left
no_odd (Postfix at op e) known l ts rest (level, a, place, left, sign) = no_odd e known 15 ts a left
no_odd (Prefix at op e) known l ts rest (level, a, place, sign, inner) = let off = step_even op in rw sign.symbol off
no_odd (Unary at op e) known l ts rest (level, a, place, sign, inner) = let off = unary_even op in rw sign.symbol off
no_odd (SizeofExpr at e) known l ts rest (level, a, place, front, inner) = rw front.symbol refl
no_odd (SizeofType at name es) known l ts rest (level, spans, a, b, c, place, front, opens, each, is, shut) = rw front.symbol refl
no_odd (Cast at name es e) known l ts rest (level, spans, a, b, c, place, opens, each, is, shut, inner) = rw opens.symbol refl
no_odd (Binary at op x y) known l ts rest (level, a, b, place, left, sign, right) = no_odd x known _ ts a left
no_odd (Logical at op x y) known l ts rest (level, a, b, place, left, sign, right) = no_odd x known _ ts a left
no_odd (Conditional at x y z) known l ts rest (level, a, b, c, d, place, left, question, middle, colon, right) = no_odd x known 3 ts a left
no_odd (Assign at op x y) known l ts rest (level, sign, sign-is, a, b, place, left, is, right) = no_odd x known 14 ts a left
no_odd (Comma at x y) known l ts rest (level, a, b, place, left, comma, right) = no_odd x known 0 ts a left

semicolon_off : (x : Symbol) → is_odd x ≡ false → is_semicolon x ≡ false
semicolon_off (symbol.Punctuator p.Semicolon) off = absurd (cc off)
semicolon_off _ off = refl

else_off : (x : Symbol) → is_odd x ≡ false → is_else x ≡ false
else_off (symbol.Keyword k.Else) off = absurd (cc off)
else_off _ off = refl

pub no_semicolon : (e : Tree) (known : List (List ℕ)) (l : ℕ) (ts rest : List Terminal) → Derives e known l ts rest → is_semicolon (first_symbol ts) ≡ false
no_semicolon e known l ts rest d = semicolon_off (first_symbol ts) (no_odd e known l ts rest d)

-- no expression in front of a `;` begins with a name and a `:`
identifier_symbol : (x : Symbol) → is_identifier x ≡ true → x ≡ symbol.Identifier
identifier_symbol symbol.Identifier is = refl
identifier_symbol _ is = absurd (cc is)

colon_symbol : (x : Symbol) → is_colon x ≡ true → x ≡ symbol.Punctuator p.Colon
colon_symbol (symbol.Punctuator p.Colon) is = refl
colon_symbol _ is = absurd (cc is)

name_alone : (known : List (List ℕ)) (e : Tree) (ts last rest : List Terminal) → Derives e known 0 ts last → IsSign p.Semicolon last rest → is_identifier (first_symbol ts) ≡ true → is_typedef known (first_text ts) ≡ false → is_colon (first_symbol (behind_first ts)) ≡ true → ⊥
name_alone known e ts last rest d semi name other colon =
    let is : IsName known (first_place ts) (first_text ts) ts (behind_first ts) = record { symbol = identifier_symbol (first_symbol ts) name; other = other; place = refl; spelled = refl; behind = refl } in
    let one : Derives (Name (first_place ts) (first_text ts)) known 0 ts (behind_first ts) = is in
    let sign : IsSign p.Colon (behind_first ts) (behind_first (behind_first ts)) = record { symbol = colon_symbol (first_symbol (behind_first ts)) colon; behind = refl } in
    let same = one_expression (Name (first_place ts) (first_text ts)) e known 0 ts (behind_first ts) last one (ends_at 0 sign (omega arith)) d (ends_at 0 semi (omega arith)) in
    let clash : symbol.Punctuator p.Colon ≡ symbol.Punctuator p.Semicolon = sym sign.symbol ∙ ap first_symbol same.1 ∙ semi.symbol in
    absurd (cc clash)

pub no_label : (known : List (List ℕ)) (e : Tree) (ts last rest : List Terminal) → Derives e known 0 ts last → IsSign p.Semicolon last rest → is_label known ts ≡ false
no_label known e ts last rest d semi = by (is_identifier (first_symbol ts)) (is_typedef known (first_text ts)) (is_colon (first_symbol (behind_first ts))) refl refl refl
  where
    by : (x y z : Bool) → is_identifier (first_symbol ts) ≡ x → is_typedef known (first_text ts) ≡ y → is_colon (first_symbol (behind_first ts)) ≡ z → ((x && not y) && z) ≡ false
    by true false true name other colon = absurd (name_alone known e ts last rest d semi name other colon)
    by true false false name other colon = refl
    by true true z name other colon = refl
    by false y z name other colon = refl

-- ---- statements

-- what an item of a block begins with: specifiers where it is a declaration, and never `else` or a `}`
pub record ItemFront (known : List (List ℕ)) (declares : Bool) (ts : List Terminal) : Type 0 where
  pub word : begins_specifiers known ts ≡ declares
  pub brace : is_right_brace (first_symbol ts) ≡ false
  pub other : is_else (first_symbol ts) ≡ false

keyword_front : (known : List (List ℕ)) (w : Keyword) (ts rest : List Terminal) → is_specifier w ≡ false → is_else (symbol.Keyword w) ≡ false → IsWord w ts rest → ItemFront known false ts
keyword_front known w ts rest plain other is = record { word = rw is.symbol plain; brace = rw is.symbol refl; other = rw is.symbol other }

expression_front : (known : List (List ℕ)) (e : Option Tree) (ts last rest : List Terminal) → Maybe known e ts last → IsSign p.Semicolon last rest → ItemFront known false ts
expression_front known None ts last rest same semi =
    let here : last ≡ ts = same in
    let semi-at : IsSign p.Semicolon ts rest = rw here at semi in
    record { word = rw semi-at.symbol refl; brace = rw semi-at.symbol refl; other = rw semi-at.symbol refl }
expression_front known (Some e) ts last rest d semi = record { word = no_specifiers e known 0 ts last d; brace = no_right_brace e known 0 ts last d; other = else_off (first_symbol ts) (no_odd e known 0 ts last d) }

else_specifies : (known : List (List ℕ)) (ts : List Terminal) (x : Symbol) → first_symbol ts ≡ x → begins_specifiers known ts ≡ true → is_else x ≡ false
else_specifies known ts (symbol.Keyword k.Else) at is = let h : false ≡ true = rw at at is in absurd (cc h)
else_specifies known ts _ at is = refl

pub local_front : (known : List (List ℕ)) (l : LocalView) (ts rest : List Terminal) → IsLocal known l ts rest → ItemFront known true ts
local_front known l ts rest is =
    let front = spec_front known (spec_trees l.words) ts is.behind is.spec.derive is.spec.one_type in
    record { word = front.word; brace = front.right_brace; other = else_specifies known ts (first_symbol ts) refl front.word }

pub item_front : (known : List (List ℕ)) (s : StatementTree) (ts rest : List Terminal) → DeriveStatement s known ts rest → ItemFront known (not (is_statement s)) ts
item_front known (Declaration l) ts rest is = local_front known l ts rest is
item_front known (Label name s) ts rest (a, b, is, colon, some, d) = record { word = rw (is.symbol, is.other) refl; brace = rw is.symbol refl; other = rw is.symbol refl }
item_front known (Case at e s) ts rest d = keyword_front known k.Case ts d.1 refl refl d.4
item_front known (Default at s) ts rest d = keyword_front known k.Default ts d.1 refl refl d.3
item_front known (Block at items) ts rest d = record { word = rw d.3.symbol refl; brace = rw d.3.symbol refl; other = rw d.3.symbol refl }
item_front known (Expression at e) ts rest d = expression_front known e ts d.1 rest d.2 d.3
item_front known (If at e s) ts rest d = keyword_front known k.If ts d.1 refl refl d.3
item_front known (IfElse at e s t) ts rest d = keyword_front known k.If ts d.1 refl refl d.5
item_front known (Switch at e s) ts rest d = keyword_front known k.Switch ts d.1 refl refl d.3
item_front known (While at e s) ts rest d = keyword_front known k.While ts d.1 refl refl d.3
item_front known (Do at s e) ts rest d = keyword_front known k.Do ts d.1 refl refl d.5
item_front known (For at first condition step s) ts rest d = keyword_front known k.For ts d.1 refl refl d.8
item_front known (Goto at name) ts rest d = keyword_front known k.Goto ts d.1 refl refl d.3
item_front known (Continue at) ts rest d = keyword_front known k.Continue ts d.1 refl refl d.2
item_front known (Break at) ts rest d = keyword_front known k.Break ts d.1 refl refl d.2
item_front known (Return at e) ts rest d = keyword_front known k.Return ts d.1 refl refl d.3

-- ---- how many terminals they take

maybe_shrinks : (known : List (List ℕ)) (e : Option Tree) (ts rest : List Terminal) → Maybe known e ts rest → length rest ≤ length ts
maybe_shrinks known None ts rest same = let here : rest ≡ ts = same in rw here (omega arith)
maybe_shrinks known (Some e) ts rest d = let h = takes e known 0 ts rest d in omega arith

locals_shrink : (known : List (List ℕ)) (ds : List InitDeclaratorView) (ts rest : List Terminal) → LocalDeclarators known ds ts rest → length rest ≤ length ts
locals_shrink known [] ts rest same = let here : rest ≡ ts = same in rw here (omega arith)
locals_shrink known (x ∷ xs) ts rest d = let h = listed_few (IsLocalDeclarator known) (local_takes known) (x ∷ xs) ts rest d in omega arith

pub local_shrinks : (known : List (List ℕ)) (l : LocalView) (ts rest : List Terminal) → IsLocal known l ts rest → length rest + 1 ≤ length ts
local_shrinks known l ts rest is =
    let one = spec_takes known (spec_trees l.words) ts is.behind is.spec in
    let two = locals_shrink known l.declarators is.behind is.last is.declarators in
    let three = length_behind is.last rest is.ends in
    omega arith

pub condition_shrinks : (known : List (List ℕ)) (e : Tree) (ts rest : List Terminal) → Condition known e ts rest → length rest + 1 ≤ length ts
condition_shrinks known e ts rest (a, b, opens, d, shut) = let one = length_behind ts a opens in let two = takes e known 0 a b d in let three = length_behind b rest shut in omega arith

pub clause_shrinks : (known : List (List ℕ)) (first : ForFirstView) (ts rest : List Terminal) → FirstClause known first ts rest → length rest + 1 ≤ length ts
clause_shrinks known NoClause ts rest semi = let h = length_behind ts rest semi in omega arith
clause_shrinks known (Clause e) ts rest (a, d, semi) = let one = takes e known 0 ts a d in let h = length_behind a rest semi in omega arith
clause_shrinks known (Declares l) ts rest is = local_shrinks known l ts rest is

-- behind the clauses of a `for`
pub clauses_shrink : (known : List (List ℕ)) (first : ForFirstView) (condition step : Option Tree) (ts a b c d e f : List Terminal) → IsSign p.LeftParenthesis ts a → FirstClause known first a b → Maybe known condition b c → IsSign p.Semicolon c d → Maybe known step d e → IsSign p.RightParenthesis e f → length f + 1 ≤ length ts
clauses_shrink known first condition step ts a b c d e f opens first-is test semi step-is shut =
    let one = length_behind ts a opens in
    let two = clause_shrinks known first a b first-is in
    let three = maybe_shrinks known condition b c test in
    let four = length_behind c d semi in
    let five = maybe_shrinks known step d e step-is in
    let six = length_behind e f shut in
    omega arith

abbrev pub statement_count : StatementTrees → ℕ
statement_count NoStatement = 0
statement_count (MoreStatements s more) = statement_count more + 1

mutual
  pub statement_takes : (known : List (List ℕ)) (s : StatementTree) (ts rest : List Terminal) → DeriveStatement s known ts rest → length rest + 1 ≤ length ts
  statement_takes known (Declaration l) ts rest is = local_shrinks known l ts rest is
  statement_takes known (Label name s) ts rest (a, b, is, colon, some, d) = let one = name_takes name ts a is in let two = length_behind a b colon in let three = statement_takes known s b rest d in omega arith
  statement_takes known (Case at e s) ts rest (place, a, b, c, front, value, colon, some, d) =
      let one = word_takes ts a front in let two = takes e known 2 a b value in let three = length_behind b c colon in let four = statement_takes known s c rest d in omega arith
  statement_takes known (Default at s) ts rest (place, a, b, front, colon, some, d) = let one = word_takes ts a front in let three = length_behind a b colon in let four = statement_takes known s b rest d in omega arith
  statement_takes known (Block at items) ts rest (place, a, b, opens, all, shut) = let one = length_behind ts a opens in let two = statements_few known items a b all in let three = length_behind b rest shut in omega arith
  statement_takes known (Expression at e) ts rest (place, a, value, semi) = let one = maybe_shrinks known e ts a value in let two = length_behind a rest semi in omega arith
  statement_takes known (If at e s) ts rest (place, a, b, front, test, some, d) = let one = word_takes ts a front in let two = condition_shrinks known e a b test in let three = statement_takes known s b rest d in omega arith
  statement_takes known (IfElse at e s t) ts rest (place, a, b, c, d, front, test, some, shut, first, other, some-too, second) =
      let one = word_takes ts a front in
      let two = condition_shrinks known e a b test in
      let three = statement_takes known s b c first in
      let four = word_takes c d other in
      let five = statement_takes known t d rest second in
      omega arith
  statement_takes known (Switch at e s) ts rest (place, a, b, front, test, some, d) = let one = word_takes ts a front in let two = condition_shrinks known e a b test in let three = statement_takes known s b rest d in omega arith
  statement_takes known (While at e s) ts rest (place, a, b, front, test, some, d) = let one = word_takes ts a front in let two = condition_shrinks known e a b test in let three = statement_takes known s b rest d in omega arith
  statement_takes known (Do at s e) ts rest (place, a, b, c, d, front, some, body, again, test, semi) =
      let one = word_takes ts a front in
      let two = statement_takes known s a b body in
      let three = word_takes b c again in
      let four = condition_shrinks known e c d test in
      let five = length_behind d rest semi in
      omega arith
  statement_takes known (For at first condition step s) ts rest (place, a, b, c, d, e, f, g, front, opens, first-is, test, semi, step-is, shut, some, body) =
      let one = word_takes ts a front in
      let two = clauses_shrink known first condition step a b c d e f g opens first-is test semi step-is shut in
      let three = statement_takes known s g rest body in
      omega arith
  statement_takes known (Goto at name) ts rest (place, a, b, front, is, semi) = let one = word_takes ts a front in let two = name_takes name a b is in let three = length_behind b rest semi in omega arith
  statement_takes known (Continue at) ts rest (place, a, front, semi) = let one = word_takes ts a front in let three = length_behind a rest semi in omega arith
  statement_takes known (Break at) ts rest (place, a, front, semi) = let one = word_takes ts a front in let three = length_behind a rest semi in omega arith
  statement_takes known (Return at e) ts rest (place, a, b, front, value, semi) = let one = word_takes ts a front in let two = maybe_shrinks known e a b value in let three = length_behind b rest semi in omega arith

  pub statements_few : (known : List (List ℕ)) (ss : StatementTrees) (ts rest : List Terminal) → DeriveStatements ss known ts rest → statement_count ss + length rest ≤ length ts
  statements_few known NoStatement ts rest same = let here : rest ≡ ts = same in rw here (omega arith)
  statements_few known (MoreStatements s more) ts rest (a, one, all) = let h = statement_takes known s ts a one in let t = statements_few known more a rest all in omega arith
