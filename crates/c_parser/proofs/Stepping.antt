-- What the readers of statements as definitions answer, step by step.
use Rattle.std.proofs.Common.{◌≡◌, ℕ, suc, ◌+◌, ◌≤◌, Bool, true, false, List, max, Option, Some, None, refl, sym, ap, ◌∙◌, ◌≢◌, arith}
use Rattle.c_layout.specs.SyntaxTrees.{Tree}
use Rattle.c_layout.specs.DeclarationTrees.{StatementTree, NameView, ForFirstView, Expression, Label, Case, Default, If, IfElse, Switch, While, Do, For, Return}
use Rattle.c_parser_tokens.specs.declared.terminals.Keyword.TheVariants as k
use Rattle.c_parser_tokens.specs.declared.terminals.Punctuator.TheVariants as p
use Rattle.c_parser_tokens.specs.declared.terminals.Symbol.{Symbol}
use Rattle.c_parser_tokens.specs.declared.terminals.Symbol.TheVariants as symbol
use Rattle.c_parser_tokens.specs.declared.terminals.Terminal.{Terminal}
use Rattle.c_parser_expression_grammar.specs.ExpressionReaders.{Readers}
use Rattle.c_parser_expression_grammar.specs.Fronts.{first_symbol, first_place, behind_first, is_identifier_first, IsName, IsSign, IsWord}
use Rattle.c_parser_expression_grammar.specs.Readings.{Reading, got, is_colon, is_left_parenthesis, is_right_parenthesis}
use Rattle.c_parser_expression_grammar.specs.TypeNameReaders.{all_readers, readers_inside}
use Rattle.c_parser_declarations.specs.Grammar.Items.{Item, GotItem, item_of, after_item}
use Rattle.c_parser_declarations.specs.Grammar.SpecifierReaders.{raised, is_semicolon}
use Rattle.c_parser_declarations.proofs.grammar.Reading.{inner_is, raised_is}
use Rattle.c_parser.specs.StatementReaders.{first_value, tree_item, expected, condition, optional_expression, for_first_within, value_statement, return_statement, labelled, case_statement, default_statement, if_statement, behind_if, switch_statement, while_statement, is_while, do_statement, ended_do, for_statement, for_clauses, for_body, block, items_within, statement, statement_inside}
use Rattle.c_parser.specs.Findings.{is_else}

-- ---- what stands inside

pub in_readers : {X : Type 0} (f : Readers → X) (known : List (List ℕ)) (b : ℕ) {budget : ℕ} {r : X} → b + 1 ≡ budget → f (all_readers known b) ≡ r → f (readers_inside known budget) ≡ r
in_readers f known b inside e = rw (inner_is inside) e

pub in_statement : (known : List (List ℕ)) (b : ℕ) (ts : List Terminal) {budget : ℕ} {r : Option (GotItem StatementTree)} → b + 1 ≡ budget → statement known b ts ≡ r → statement_inside known budget ts ≡ r
in_statement known b ts inside e = rw (inner_is inside) e

-- ---- the first clause of a `for`

pub first_unended : (i : Readers) (ts a : List Terminal) (e : Tree) (h : ℕ) → is_semicolon (first_symbol ts) ≡ false → i.expression ts ≡ Some (got e h a) → is_semicolon (first_symbol a) ≡ false → first_value i ts ≡ None
first_unended i ts a e h off is none = rw (off, is, none) refl

-- ---- expression statements

pub value_none : (b : ℕ) (i : Readers) (ts : List Terminal) → is_semicolon (first_symbol ts) ≡ false → i.expression ts ≡ None → value_statement b i ts ≡ None
value_none b i ts off none = rw (off, none) refl

pub value_unended : (b : ℕ) (i : Readers) (ts a : List Terminal) (e : Tree) (h : ℕ) → is_semicolon (first_symbol ts) ≡ false → i.expression ts ≡ Some (got e h a) → is_semicolon (first_symbol a) ≡ false → value_statement b i ts ≡ None
value_unended b i ts a e h off is none = rw (off, is, none) refl

pub value_is : (b : ℕ) (i : Readers) (ts a c : List Terminal) (e : Tree) (h m : ℕ) → is_semicolon (first_symbol ts) ≡ false → i.expression ts ≡ Some (got e h a) → IsSign p.Semicolon a c → m ≡ h + 1 → m ≤ b →
    value_statement b i ts ≡ Some (item_of (Expression (first_place ts) (Some e)) m c)
value_is b i ts a c e h m off is ends height low =
    let step : value_statement b i ts ≡ raised b (Expression (first_place ts) (Some e)) h c = rw (off, is, ends.symbol, sym ends.behind) refl in
    step ∙ raised_is b h m (Expression (first_place ts) (Some e)) c height low

-- ---- jumps

pub return_is : (known : List (List ℕ)) (b : ℕ) {budget : ℕ} {ts a : List Terminal} (r : Option (GotItem (Option Tree))) → IsWord k.Return ts a → b + 1 ≡ budget → optional_expression is_semicolon (all_readers known b) a ≡ r →
    return_statement budget (readers_inside known budget) ts ≡ after_item r (λ e. raised budget (Return (first_place ts) e.item) e.height e.rest)
return_is known b {budget} {ts} {a} r word inside e = rw (sym word.behind, inner_is inside, e) refl

-- ---- labels

pub label_is : (known : List (List ℕ)) (b : ℕ) {budget : ℕ} (v : NameView) {ts a c : List Terminal} (r : Option (GotItem StatementTree)) → IsName known v.at v.text ts a → IsSign p.Colon a c → b + 1 ≡ budget → statement known b c ≡ r →
    labelled known budget (statement_inside known budget) ts ≡ after_item r (λ g. raised budget (Label v g.item) g.height g.rest)
label_is known b {budget} v {ts} {a} {c} r is colon inside e = rw (is.symbol, is.other, sym is.behind, sym is.place, sym is.spelled, colon.symbol, sym colon.behind, inner_is inside, e) refl

pub label_off : (known : List (List ℕ)) (b : ℕ) (s : Item StatementTree) (v : NameView) {ts a : List Terminal} → IsName known v.at v.text ts a → is_colon (first_symbol a) ≡ false → labelled known b s ts ≡ None
label_off known b s v {ts} {a} is off = rw (is.symbol, is.other, sym is.behind, off) refl

pub label_nameless : (known : List (List ℕ)) (b : ℕ) (s : Item StatementTree) (ts : List Terminal) → is_identifier_first known ts ≡ false → labelled known b s ts ≡ None
label_nameless known b s ts off = rw off refl

pub case_none : (known : List (List ℕ)) (b : ℕ) {budget : ℕ} (s : Item StatementTree) {ts a : List Terminal} → IsWord k.Case ts a → b + 1 ≡ budget → (all_readers known b).conditional a ≡ None → case_statement budget (readers_inside known budget) s ts ≡ None
case_none known b {budget} s {ts} {a} word inside e = rw (sym word.behind, inner_is inside, e) refl

pub case_uncolon : (known : List (List ℕ)) (b : ℕ) {budget : ℕ} (s : Item StatementTree) {ts a : List Terminal} (e : Tree) (h : ℕ) (c : List Terminal) → IsWord k.Case ts a → b + 1 ≡ budget → (all_readers known b).conditional a ≡ Some (got e h c) → is_colon (first_symbol c) ≡ false →
    case_statement budget (readers_inside known budget) s ts ≡ None
case_uncolon known b {budget} s {ts} {a} e h c word inside value off = rw (sym word.behind, inner_is inside, value, off) refl

same_inside : {b c budget : ℕ} → b + 1 ≡ budget → c + 1 ≡ budget → c ≡ b
same_inside {b} {c} {budget} one other = omega (arith, one, other)

pub case_is : (known : List (List ℕ)) (b f : ℕ) {budget : ℕ} {ts a d : List Terminal} (e : Tree) (h : ℕ) (c : List Terminal) (r : Option (GotItem StatementTree)) → IsWord k.Case ts a → b + 1 ≡ budget → (all_readers known b).conditional a ≡ Some (got e h c) → IsSign p.Colon c d →
    f + 1 ≡ budget → statement known f d ≡ r →
    case_statement budget (readers_inside known budget) (statement_inside known budget) ts ≡ after_item r (λ g. raised budget (Case (first_place ts) e g.item) (max h g.height) g.rest)
case_is known b f {budget} {ts} {a} {d} e h c r word inside value colon same body =
    rw (sym word.behind, inner_is inside, value, colon.symbol, sym colon.behind, rw (same_inside inside same) at body) refl

pub default_uncolon : (b : ℕ) (s : Item StatementTree) {ts a : List Terminal} → IsWord k.Default ts a → is_colon (first_symbol a) ≡ false → default_statement b s ts ≡ None
default_uncolon b s {ts} {a} word off = rw (sym word.behind, off) refl

pub default_is : (known : List (List ℕ)) (b : ℕ) {budget : ℕ} {ts a d : List Terminal} (r : Option (GotItem StatementTree)) → IsWord k.Default ts a → IsSign p.Colon a d → b + 1 ≡ budget → statement known b d ≡ r →
    default_statement budget (statement_inside known budget) ts ≡ after_item r (λ g. raised budget (Default (first_place ts) g.item) g.height g.rest)
default_is known b {budget} {ts} {a} {d} r word colon inside body = rw (sym word.behind, colon.symbol, sym colon.behind, inner_is inside, body) refl

-- ---- `if`, `switch`, `while`

pub if_none : (known : List (List ℕ)) (b : ℕ) {budget : ℕ} (s : Item StatementTree) {ts a : List Terminal} → IsWord k.If ts a → b + 1 ≡ budget → condition (all_readers known b) a ≡ None → if_statement budget (readers_inside known budget) s ts ≡ None
if_none known b {budget} s {ts} {a} word inside e = rw (sym word.behind, inner_is inside, e) refl

pub if_first : (known : List (List ℕ)) (b f : ℕ) {budget : ℕ} {ts a : List Terminal} (e : GotItem Tree) (r : Option (GotItem StatementTree)) → IsWord k.If ts a → b + 1 ≡ budget → condition (all_readers known b) a ≡ Some e → f + 1 ≡ budget → statement known f e.rest ≡ r →
    if_statement budget (readers_inside known budget) (statement_inside known budget) ts ≡ after_item r (behind_if budget (statement_inside known budget) ts e)
if_first known b f {budget} {ts} {a} e r word inside test same body = rw (sym word.behind, inner_is inside, test, rw (same_inside inside same) at body) refl

pub if_alone : (b : ℕ) (s : Item StatementTree) (ts : List Terminal) (e : GotItem Tree) (g : GotItem StatementTree) → is_else (first_symbol g.rest) ≡ false → behind_if b s ts e g ≡ raised b (If (first_place ts) e.item g.item) (max e.height g.height) g.rest
if_alone b s ts e g off = rw off refl

pub if_second : (known : List (List ℕ)) (b : ℕ) {budget : ℕ} (ts : List Terminal) {d : List Terminal} (e : GotItem Tree) (g : GotItem StatementTree) (r : Option (GotItem StatementTree)) → IsWord k.Else g.rest d → b + 1 ≡ budget → statement known b d ≡ r →
    behind_if budget (statement_inside known budget) ts e g ≡ after_item r (λ t. raised budget (IfElse (first_place ts) e.item g.item t.item) (max (max e.height g.height) t.height) t.rest)
if_second known b {budget} ts {d} e g r word inside body = rw (word.symbol, sym word.behind, inner_is inside, body) refl

pub switch_none : (known : List (List ℕ)) (b : ℕ) {budget : ℕ} (s : Item StatementTree) {ts a : List Terminal} → IsWord k.Switch ts a → b + 1 ≡ budget → condition (all_readers known b) a ≡ None → switch_statement budget (readers_inside known budget) s ts ≡ None
switch_none known b {budget} s {ts} {a} word inside e = rw (sym word.behind, inner_is inside, e) refl

pub switch_is : (known : List (List ℕ)) (b f : ℕ) {budget : ℕ} {ts a : List Terminal} (e : GotItem Tree) (r : Option (GotItem StatementTree)) → IsWord k.Switch ts a → b + 1 ≡ budget → condition (all_readers known b) a ≡ Some e → f + 1 ≡ budget → statement known f e.rest ≡ r →
    switch_statement budget (readers_inside known budget) (statement_inside known budget) ts ≡ after_item r (λ g. raised budget (Switch (first_place ts) e.item g.item) (max e.height g.height) g.rest)
switch_is known b f {budget} {ts} {a} e r word inside test same body = rw (sym word.behind, inner_is inside, test, rw (same_inside inside same) at body) refl

pub while_none : (known : List (List ℕ)) (b : ℕ) {budget : ℕ} (s : Item StatementTree) {ts a : List Terminal} → IsWord k.While ts a → b + 1 ≡ budget → condition (all_readers known b) a ≡ None → while_statement budget (readers_inside known budget) s ts ≡ None
while_none known b {budget} s {ts} {a} word inside e = rw (sym word.behind, inner_is inside, e) refl

pub while_is : (known : List (List ℕ)) (b f : ℕ) {budget : ℕ} {ts a : List Terminal} (e : GotItem Tree) (r : Option (GotItem StatementTree)) → IsWord k.While ts a → b + 1 ≡ budget → condition (all_readers known b) a ≡ Some e → f + 1 ≡ budget → statement known f e.rest ≡ r →
    while_statement budget (readers_inside known budget) (statement_inside known budget) ts ≡ after_item r (λ g. raised budget (While (first_place ts) e.item g.item) (max e.height g.height) g.rest)
while_is known b f {budget} {ts} {a} e r word inside test same body = rw (sym word.behind, inner_is inside, test, rw (same_inside inside same) at body) refl

-- ---- `do`

pub do_body : (known : List (List ℕ)) (i : Readers) (b : ℕ) {budget : ℕ} {ts a : List Terminal} (r : Option (GotItem StatementTree)) → IsWord k.Do ts a → b + 1 ≡ budget → statement known b a ≡ r →
    do_statement budget i (statement_inside known budget) ts ≡ after_item r (λ g. expected is_while g.rest (λ a. after_item (condition i a) (ended_do budget ts g)))
do_body known i b {budget} {ts} {a} r word inside body = rw (sym word.behind, inner_is inside, body) refl

no_while : (x : Symbol) → x ≢ symbol.Keyword k.While → is_while x ≡ false
no_while (symbol.Keyword k.While) n = absurd (n refl)
no_while _ n = refl

pub do_unended : (b : ℕ) (i : Readers) (ts : List Terminal) (g : GotItem StatementTree) → first_symbol g.rest ≢ symbol.Keyword k.While → expected is_while g.rest (λ a. after_item (condition i a) (ended_do b ts g)) ≡ None
do_unended b i ts g off = let none = no_while (first_symbol g.rest) off in rw none refl

pub do_test : (known : List (List ℕ)) (f : ℕ) {budget : ℕ} (ts : List Terminal) {d : List Terminal} (g : GotItem StatementTree) (r : Option (GotItem Tree)) → IsWord k.While g.rest d → f + 1 ≡ budget → condition (all_readers known f) d ≡ r →
    expected is_while g.rest (λ a. after_item (condition (readers_inside known budget) a) (ended_do budget ts g)) ≡ after_item r (ended_do budget ts g)
do_test known f {budget} ts {d} g r word inside test = rw (word.symbol, sym word.behind, inner_is inside, test) refl

pub do_is : (b : ℕ) (ts : List Terminal) (g : GotItem StatementTree) (e : GotItem Tree) {d : List Terminal} → IsSign p.Semicolon e.rest d → ended_do b ts g e ≡ raised b (Do (first_place ts) g.item e.item) (max g.height e.height) d
do_is b ts g e {d} ends = rw (ends.symbol, sym ends.behind) refl

pub do_off : (b : ℕ) (ts : List Terminal) (g : GotItem StatementTree) (e : GotItem Tree) → is_semicolon (first_symbol e.rest) ≡ false → ended_do b ts g e ≡ None
do_off b ts g e off = rw off refl

-- ---- `for`

pub for_first_at : (known : List (List ℕ)) (b : ℕ) {budget : ℕ} {ts a d : List Terminal} (r : Option (GotItem ForFirstView)) → IsWord k.For ts a → b + 1 ≡ budget → IsSign p.LeftParenthesis a d → for_first_within known b d ≡ r →
    for_statement known budget (readers_inside known budget) (statement_inside known budget) ts ≡ after_item r (for_clauses budget (readers_inside known budget) (statement_inside known budget) ts)
for_first_at known b {budget} {ts} {a} {d} r word inside opens first = rw (sym word.behind, opens.symbol, sym opens.behind, inner_is inside, first) refl

pub for_unopened : (known : List (List ℕ)) (b : ℕ) (i : Readers) (s : Item StatementTree) {ts a : List Terminal} → IsWord k.For ts a → is_left_parenthesis (first_symbol a) ≡ false → for_statement known b i s ts ≡ None
for_unopened known b i s {ts} {a} word off = rw (sym word.behind, off) refl

pub for_test_at : (known : List (List ℕ)) (b : ℕ) {budget : ℕ} (s : Item StatementTree) (ts : List Terminal) (f : GotItem ForFirstView) (r : Option (GotItem (Option Tree))) → b + 1 ≡ budget → optional_expression is_semicolon (all_readers known b) f.rest ≡ r →
    for_clauses budget (readers_inside known budget) s ts f ≡ after_item r (λ c. after_item (optional_expression is_right_parenthesis (readers_inside known budget) c.rest) (for_body budget s ts f c))
for_test_at known b {budget} s ts f r inside test = rw (inner_is inside, test) refl

pub for_step_at : (known : List (List ℕ)) (b : ℕ) {budget : ℕ} (s : Item StatementTree) (ts : List Terminal) (f : GotItem ForFirstView) (c : GotItem (Option Tree)) (r : Option (GotItem (Option Tree))) → b + 1 ≡ budget →
    optional_expression is_right_parenthesis (all_readers known b) c.rest ≡ r → after_item (optional_expression is_right_parenthesis (readers_inside known budget) c.rest) (for_body budget s ts f c) ≡ after_item r (for_body budget s ts f c)
for_step_at known b {budget} s ts f c r inside step = rw (inner_is inside, step) refl

pub for_body_at : (known : List (List ℕ)) (b : ℕ) {budget : ℕ} (ts : List Terminal) (f : GotItem ForFirstView) (c e : GotItem (Option Tree)) (r : Option (GotItem StatementTree)) → b + 1 ≡ budget → statement known b e.rest ≡ r →
    for_body budget (statement_inside known budget) ts f c e ≡ after_item r (λ g. raised budget (For (first_place ts) f.item c.item e.item g.item) (max (max (max f.height c.height) e.height) g.height) g.rest)
for_body_at known b {budget} ts f c e r inside body = rw (inner_is inside, body) refl

-- ---- blocks

pub block_is : (known : List (List ℕ)) (b : ℕ) {budget : ℕ} {ts a : List Terminal} (r : Option (GotItem (List StatementTree))) → IsSign p.LeftBrace ts a → b + 1 ≡ budget → items_within known b a ≡ r →
    block known budget (statement_inside known budget) ts ≡ after_item r (λ g. raised budget g.item g.height g.rest)
block_is known b {budget} {ts} {a} r opens inside items = rw (opens.symbol, sym opens.behind, inner_is inside, items) refl
