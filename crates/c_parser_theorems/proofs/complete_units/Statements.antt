-- Statements and blocks are found.
use Rattle.std.proofs.Common.{◌≡◌, ℕ, zero, suc, ◌+◌, ◌≤◌, ◌<◌, true, false, max, List, length, Option, Some, None, refl, arith, ◌∙◌}
use Rattle.cc_base.specs.declared.diagnostics.Place.{Place}
use Rattle.c_layout.specs.SyntaxTrees.{Tree}
use Rattle.c_layout.specs.DeclarationTrees.{NameView, LocalView, ForFirstView, NoClause, Clause, Declares, StatementTree, Label, Case, Default, Expression, If, IfElse, Switch, While, Do, For, Goto, Continue, Break, Return}
use Rattle.c_parser_tokens.specs.declared.terminals.Keyword.{Keyword}
use Rattle.c_parser_tokens.specs.declared.terminals.Keyword.TheVariants as k
use Rattle.c_parser_tokens.specs.declared.terminals.Punctuator.TheVariants as p
use Rattle.c_parser_tokens.specs.declared.terminals.Symbol.{Symbol}
use Rattle.c_parser_tokens.specs.declared.terminals.Symbol.TheVariants as symbol
use Rattle.c_parser_tokens.specs.declared.terminals.Terminal.{Terminal}
use Rattle.c_parser_expression_grammar.specs.Expressions.{Derives, height_of}
use Rattle.c_parser_expression_grammar.specs.Fronts.{first_symbol, first_place, behind_first, begins_specifiers, IsSign, IsWord, IsName}
use Rattle.c_parser_declarations.specs.Grammar.Declarations.{IsLocal, local_height}
use Rattle.c_parser.specs.Findings.{is_else}
use Rattle.c_parser.specs.Statements.{Maybe, Condition, FirstClause, maybe_height, first_height, expression_height, statement_height}
use Rattle.c_parser_theorems.proofs.unique_expressions.Levels.{ends_at, below}
use Rattle.c_parser_expression_grammar.specs.Readings.{is_left_brace, is_right_parenthesis}
use Rattle.c_parser_expression_grammar.specs.ExpressionReaders.{Readers}
use Rattle.c_parser_expression_grammar.specs.TypeNameReaders.{names_of, readers_inside}
use Rattle.c_parser_theorems.proofs.complete_expressions.Begins.{no_specifiers, no_left_brace, no_parenthesis}
use Rattle.c_parser_theorems.proofs.complete_expressions.Lifts.{found_inside}
use Rattle.c_parser_theorems.proofs.complete_expressions.TypeNames.{all_expressions_found}
use Rattle.c_parser_declarations.specs.Grammar.Items.{Item, item_of}
use Rattle.c_parser_declarations.specs.Grammar.SpecifierReaders.{is_semicolon}
use Rattle.c_parser_theorems.proofs.complete_declarations.Declarations.{local_declaration_found}
use Rattle.c_parser_theorems.proofs.complete_declarations.Declarators.{name_is}
use Rattle.c_parser_theorems.proofs.complete_declarations.Enumerators.{identifier_first}
use Rattle.c_parser.specs.StatementReaders.{condition, optional_expression, local_inside, for_first, value_statement, is_label, statement_by, statement, statement_inside}
use Rattle.c_parser_theorems.proofs.complete_units.Fronts.{is_odd, no_odd, no_semicolon, no_label, local_front}

-- ---- what statements are made of besides statements

condition_read : (known : List (List ℕ)) (b : ℕ) (e : Tree) (ts rest : List Terminal) → Condition known e ts rest → height_of e < b → condition (readers_inside known b) ts ≡ Some (item_of e (height_of e) rest)
condition_read known b e ts rest (a, c, opens, d, shut) small =
    let from : Derives e known 0 (behind_first ts) c = rw opens.behind at d in
    let one = (found_inside (names_of known) known e (all_expressions_found known e) b).expression (behind_first ts) c from (ends_at 0 shut (omega arith)) small in
    rw (opens.symbol, one, shut.symbol, shut.behind) refl

-- an expression in front of a sign, or that sign
semicolon_read : (known : List (List ℕ)) (b : ℕ) (e : Option Tree) (ts last rest : List Terminal) → Maybe known e ts last → IsSign p.Semicolon last rest → maybe_height e < b → optional_expression is_semicolon (readers_inside known b) ts ≡ Some (item_of e (maybe_height e) rest)
semicolon_read known b None ts last rest same semi small =
    let here : last ≡ ts = same in
    let semi-at : IsSign p.Semicolon ts rest = rw here at semi in
    rw (semi-at.symbol, semi-at.behind) refl
semicolon_read known b (Some e) ts last rest d semi small =
    let off = no_semicolon e known 0 ts last d in
    let one = (found_inside (names_of known) known e (all_expressions_found known e) b).expression ts last d (ends_at 0 semi (omega arith)) small in
    rw (off, one, semi.symbol, semi.behind) refl

parenthesis_read : (known : List (List ℕ)) (b : ℕ) (e : Option Tree) (ts last rest : List Terminal) → Maybe known e ts last → IsSign p.RightParenthesis last rest → maybe_height e < b → optional_expression is_right_parenthesis (readers_inside known b) ts ≡ Some (item_of e (maybe_height e) rest)
parenthesis_read known b None ts last rest same shut small =
    let here : last ≡ ts = same in
    let shut-at : IsSign p.RightParenthesis ts rest = rw here at shut in
    rw (shut-at.symbol, shut-at.behind) refl
parenthesis_read known b (Some e) ts last rest d shut small =
    let off = no_parenthesis e known 0 ts last d in
    let one = (found_inside (names_of known) known e (all_expressions_found known e) b).expression ts last d (ends_at 0 shut (omega arith)) small in
    rw (off, one, shut.symbol, shut.behind) refl

pub local_read : (known : List (List ℕ)) (b : ℕ) (l : LocalView) (ts rest : List Terminal) → IsLocal known l ts rest → local_height l < b → b + length ts < 4294967295 → local_inside known b ts ≡ Some (item_of l (local_height l) rest)
local_read known zero l ts rest is small room = absurd (omega arith)
local_read known (suc b) l ts rest is small room = local_declaration_found known b l ts rest is (omega arith) (omega arith)

clause_read : (known : List (List ℕ)) (b : ℕ) (first : ForFirstView) (ts rest : List Terminal) → FirstClause known first ts rest → first_height first < b → b + length ts < 4294967295 → for_first known b ts ≡ Some (item_of first (first_height first) rest)
clause_read known b NoClause ts rest semi small room =
    let off : begins_specifiers known ts ≡ false = rw semi.symbol refl in
    let one = semicolon_read known b None ts ts rest refl semi small in
    rw (off, one) refl
clause_read known b (Clause e) ts rest (a, d, semi) small room =
    let off = no_specifiers e known 0 ts a d in
    let one = semicolon_read known b (Some e) ts a rest d semi small in
    rw (off, one) refl
clause_read known b (Declares l) ts rest is small room =
    let front = local_front known l ts rest is in
    let one = local_read known b l ts rest is small room in
    rw (front.word, one) refl

-- ---- by what a statement begins with

pub by_symbol : (known : List (List ℕ)) (b : ℕ) (ts : List Terminal) (x : Symbol) → first_symbol ts ≡ x → statement known b ts ≡ statement_by known b (readers_inside known b) (statement_inside known b) ts x
by_symbol known zero ts x at = rw at refl
by_symbol known (suc b) ts x at = rw at refl

by_word : (known : List (List ℕ)) (b : ℕ) (w : Keyword) (ts a : List Terminal) → IsWord w ts a → statement known b ts ≡ statement_by known b (readers_inside known b) (statement_inside known b) ts (symbol.Keyword w)
by_word known b w ts a front = by_symbol known b ts (symbol.Keyword w) front.symbol

-- what the reader of statements inside answers
abbrev pub Body : List (List ℕ) → ℕ → StatementTree → List Terminal → List Terminal → Type 0
Body known b s ts rest = statement_inside known b ts ≡ Some (item_of s (statement_height s) rest)

abbrev pub Answer : List (List ℕ) → ℕ → StatementTree → List Terminal → List Terminal → Type 0
Answer known b s ts rest = statement known b ts ≡ Some (item_of s (statement_height s) rest)

-- ---- labels

pub label_read : (known : List (List ℕ)) (b : ℕ) (name : NameView) (s : StatementTree) (ts a c rest : List Terminal) → IsName known name.at name.text ts a → IsSign p.Colon a c → Body known b s c rest → statement_height s < b → Answer known b (Label name s) ts rest
label_read known b name s ts a c rest is colon body small =
    let colon-at : IsSign p.Colon (behind_first ts) c = rw is.behind at colon in
    let body-at : Body known b s (behind_first (behind_first ts)) rest = rw colon-at.behind at body in
    let first = identifier_first name ts a is in
    let label : is_label known ts ≡ true = rw (first, colon-at.symbol) refl in
    let brace : is_left_brace (first_symbol ts) ≡ false = rw is.symbol refl in
    let fits = below (statement_height s) b small in
    let same = name_is known name ts a is in
    by_symbol known b ts symbol.Identifier is.symbol ∙ rw (brace, label, body-at, fits, same) refl

pub case_read : (known : List (List ℕ)) (b : ℕ) (at : Place) (e : Tree) (s : StatementTree) (ts a c d rest : List Terminal) → at ≡ first_place ts → IsWord k.Case ts a → Derives e known 2 a c → IsSign p.Colon c d → Body known b s d rest → max (height_of e) (statement_height s) < b → Answer known b (Case at e s) ts rest
case_read known b at e s ts a c d rest place front value colon body small =
    let from : Derives e known 2 (behind_first ts) c = rw front.behind at value in
    let one = (found_inside (names_of known) known e (all_expressions_found known e) b).conditional (behind_first ts) c from (ends_at 2 colon (omega arith)) (omega arith) in
    let body-at : Body known b s (behind_first c) rest = rw colon.behind at body in
    let fits = below (max (height_of e) (statement_height s)) b small in
    by_word known b k.Case ts a front ∙ rw (one, colon.symbol, body-at, fits, place) refl

pub default_read : (known : List (List ℕ)) (b : ℕ) (at : Place) (s : StatementTree) (ts a c rest : List Terminal) → at ≡ first_place ts → IsWord k.Default ts a → IsSign p.Colon a c → Body known b s c rest → statement_height s < b → Answer known b (Default at s) ts rest
default_read known b at s ts a c rest place front colon body small =
    let colon-at : IsSign p.Colon (behind_first ts) c = rw front.behind at colon in
    let body-at : Body known b s (behind_first (behind_first ts)) rest = rw colon-at.behind at body in
    let fits = below (statement_height s) b small in
    by_word known b k.Default ts a front ∙ rw (colon-at.symbol, body-at, fits, place) refl

-- ---- selections and iterations

tested : (known : List (List ℕ)) (b : ℕ) (w : Keyword) (e : Tree) (ts a c : List Terminal) → IsWord w ts a → Condition known e a c → height_of e < b → condition (readers_inside known b) (behind_first ts) ≡ Some (item_of e (height_of e) c)
tested known b w e ts a c front test small = let from : Condition known e (behind_first ts) c = rw front.behind at test in condition_read known b e (behind_first ts) c from small

pub if_read : (known : List (List ℕ)) (b : ℕ) (at : Place) (e : Tree) (s : StatementTree) (ts a c rest : List Terminal) → at ≡ first_place ts → IsWord k.If ts a → Condition known e a c → Body known b s c rest → is_else (first_symbol rest) ≡ false → max (height_of e) (statement_height s) < b → Answer known b (If at e s) ts rest
if_read known b at e s ts a c rest place front test body none small =
    let one = tested known b k.If e ts a c front test (omega arith) in
    let fits = below (max (height_of e) (statement_height s)) b small in
    by_word known b k.If ts a front ∙ rw (one, body, none, fits, place) refl

pub if_else_read : (known : List (List ℕ)) (b : ℕ) (at : Place) (e : Tree) (s t : StatementTree) (ts a c d f rest : List Terminal) → at ≡ first_place ts → IsWord k.If ts a → Condition known e a c → Body known b s c d → IsWord k.Else d f → Body known b t f rest → max (max (height_of e) (statement_height s)) (statement_height t) < b → Answer known b (IfElse at e s t) ts rest
if_else_read known b at e s t ts a c d f rest place front test body other second small =
    let one = tested known b k.If e ts a c front test (omega arith) in
    let second-at : Body known b t (behind_first d) rest = rw other.behind at second in
    let fits = below (max (max (height_of e) (statement_height s)) (statement_height t)) b small in
    by_word known b k.If ts a front ∙ rw (one, body, other.symbol, second-at, fits, place) refl

pub switch_read : (known : List (List ℕ)) (b : ℕ) (at : Place) (e : Tree) (s : StatementTree) (ts a c rest : List Terminal) → at ≡ first_place ts → IsWord k.Switch ts a → Condition known e a c → Body known b s c rest → max (height_of e) (statement_height s) < b → Answer known b (Switch at e s) ts rest
switch_read known b at e s ts a c rest place front test body small =
    let one = tested known b k.Switch e ts a c front test (omega arith) in
    let fits = below (max (height_of e) (statement_height s)) b small in
    by_word known b k.Switch ts a front ∙ rw (one, body, fits, place) refl

pub while_read : (known : List (List ℕ)) (b : ℕ) (at : Place) (e : Tree) (s : StatementTree) (ts a c rest : List Terminal) → at ≡ first_place ts → IsWord k.While ts a → Condition known e a c → Body known b s c rest → max (height_of e) (statement_height s) < b → Answer known b (While at e s) ts rest
while_read known b at e s ts a c rest place front test body small =
    let one = tested known b k.While e ts a c front test (omega arith) in
    let fits = below (max (height_of e) (statement_height s)) b small in
    by_word known b k.While ts a front ∙ rw (one, body, fits, place) refl

pub do_read : (known : List (List ℕ)) (b : ℕ) (at : Place) (e : Tree) (s : StatementTree) (ts a c d f rest : List Terminal) → at ≡ first_place ts → IsWord k.Do ts a → Body known b s a c → IsWord k.While c d → Condition known e d f → IsSign p.Semicolon f rest → max (statement_height s) (height_of e) < b → Answer known b (Do at s e) ts rest
do_read known b at e s ts a c d f rest place front body again test semi small =
    let body-at : Body known b s (behind_first ts) c = rw front.behind at body in
    let one = tested known b k.While e c d f again test (omega arith) in
    let fits = below (max (statement_height s) (height_of e)) b small in
    by_word known b k.Do ts a front ∙ rw (body-at, again.symbol, one, semi.symbol, semi.behind, fits, place) refl

pub for_read : (known : List (List ℕ)) (b : ℕ) (at : Place) (first : ForFirstView) (test step : Option Tree) (s : StatementTree) (ts a c d e f g h rest : List Terminal) → at ≡ first_place ts → IsWord k.For ts a → IsSign p.LeftParenthesis a c → FirstClause known first c d → Maybe known test d e → IsSign p.Semicolon e f → Maybe known step f g → IsSign p.RightParenthesis g h → Body known b s h rest → b + length c < 4294967295 →
    max (max (max (first_height first) (maybe_height test)) (maybe_height step)) (statement_height s) < b → Answer known b (For at first test step s) ts rest
for_read known b at first test step s ts a c d e f g h rest place front opens first-is test-is semi step-is shut body room small =
    let opens-at : IsSign p.LeftParenthesis (behind_first ts) c = rw front.behind at opens in
    let one : for_first known b (behind_first (behind_first ts)) ≡ Some (item_of first (first_height first) d) = rw opens-at.behind at (clause_read known b first c d first-is (omega arith) room) in
    let two = semicolon_read known b test d e f test-is semi (omega arith) in
    let three = parenthesis_read known b step f g h step-is shut (omega arith) in
    let fits = below (max (max (max (first_height first) (maybe_height test)) (maybe_height step)) (statement_height s)) b small in
    by_word known b k.For ts a front ∙ rw (opens-at.symbol, one, two, three, body, fits, place) refl

-- ---- jumps and expressions

pub goto_read : (known : List (List ℕ)) (b : ℕ) (at : Place) (name : NameView) (ts a c rest : List Terminal) → at ≡ first_place ts → IsWord k.Goto ts a → IsName known name.at name.text a c → IsSign p.Semicolon c rest → 1 ≤ b → Answer known b (Goto at name) ts rest
goto_read known b at name ts a c rest place front is semi small =
    let from : IsName known name.at name.text (behind_first ts) c = rw front.behind at is in
    let first = identifier_first name (behind_first ts) c from in
    let semi-at : IsSign p.Semicolon (behind_first (behind_first ts)) rest = rw from.behind at semi in
    let fits = below 0 b (omega arith) in
    let same = name_is known name (behind_first ts) c from in
    by_word known b k.Goto ts a front ∙ rw (first, semi-at.symbol, semi-at.behind, fits, place, same) refl

pub continue_read : (known : List (List ℕ)) (b : ℕ) (at : Place) (ts a rest : List Terminal) → at ≡ first_place ts → IsWord k.Continue ts a → IsSign p.Semicolon a rest → 1 ≤ b → Answer known b (Continue at) ts rest
continue_read known b at ts a rest place front semi small =
    let semi-at : IsSign p.Semicolon (behind_first ts) rest = rw front.behind at semi in
    let fits = below 0 b (omega arith) in
    by_word known b k.Continue ts a front ∙ rw (semi-at.symbol, semi-at.behind, fits, place) refl

pub break_read : (known : List (List ℕ)) (b : ℕ) (at : Place) (ts a rest : List Terminal) → at ≡ first_place ts → IsWord k.Break ts a → IsSign p.Semicolon a rest → 1 ≤ b → Answer known b (Break at) ts rest
break_read known b at ts a rest place front semi small =
    let semi-at : IsSign p.Semicolon (behind_first ts) rest = rw front.behind at semi in
    let fits = below 0 b (omega arith) in
    by_word known b k.Break ts a front ∙ rw (semi-at.symbol, semi-at.behind, fits, place) refl

pub return_read : (known : List (List ℕ)) (b : ℕ) (at : Place) (e : Option Tree) (ts a c rest : List Terminal) → at ≡ first_place ts → IsWord k.Return ts a → Maybe known e a c → IsSign p.Semicolon c rest → maybe_height e < b → Answer known b (Return at e) ts rest
return_read known b at e ts a c rest place front value semi small =
    let one : optional_expression is_semicolon (readers_inside known b) (behind_first ts) ≡ Some (item_of e (maybe_height e) rest) = rw front.behind at (semicolon_read known b e a c rest value semi small) in
    let fits = below (maybe_height e) b small in
    by_word known b k.Return ts a front ∙ rw (one, fits, place) refl

-- a statement that no sign and no keyword of one begins is read as an expression
value_by : (known : List (List ℕ)) (b : ℕ) (i : Readers) (s : Item StatementTree) (ts : List Terminal) (x : Symbol) → is_odd x ≡ false → is_left_brace (first_symbol ts) ≡ false → is_label known ts ≡ false → statement_by known b i s ts x ≡ value_statement b i ts
value_by known b i s ts (symbol.Keyword k.Sizeof) off brace label = refl
value_by known b i s ts (symbol.Keyword w) off brace label = absurd (cc off)
value_by known b i s ts _ off brace label = rw (brace, label) refl

pub value_read : (known : List (List ℕ)) (b : ℕ) (at : Place) (e : Option Tree) (ts a rest : List Terminal) → at ≡ first_place ts → Maybe known e ts a → IsSign p.Semicolon a rest → expression_height e ≤ b → Answer known b (Expression at e) ts rest
value_read known b at None ts a rest place same semi small =
    let here : a ≡ ts = same in
    let semi-at : IsSign p.Semicolon ts rest = rw here at semi in
    let brace : is_left_brace (first_symbol ts) ≡ false = rw semi-at.symbol refl in
    let label : is_label known ts ≡ false = rw semi-at.symbol refl in
    by_symbol known b ts (symbol.Punctuator p.Semicolon) semi-at.symbol ∙ rw (brace, label, semi-at.symbol, semi-at.behind, place) refl
value_read known b at (Some e) ts a rest place d semi small =
    let odd = no_odd e known 0 ts a d in
    let brace = no_left_brace e known 0 ts a d in
    let label = no_label known e ts a rest d semi in
    let off = no_semicolon e known 0 ts a d in
    let one = (found_inside (names_of known) known e (all_expressions_found known e) b).expression ts a d (ends_at 0 semi (omega arith)) (omega arith) in
    let fits = below (height_of e) b (omega arith) in
    by_symbol known b ts (first_symbol ts) refl ∙ value_by known b (readers_inside known b) (statement_inside known b) ts (first_symbol ts) odd brace label ∙ rw (off, one, semi.symbol, semi.behind, fits, place) refl
