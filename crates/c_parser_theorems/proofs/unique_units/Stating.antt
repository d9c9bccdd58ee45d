-- Statements are fixed by their terminals, and by the `else` that does not stand behind an open one.
use Rattle.std.proofs.Common.{◌≡◌, ℕ, Bool, true, false, List, Option, Some, None, refl, sym, ap, subst, ◌∙◌, arith}
use Rattle.c_layout.specs.SyntaxTrees.{Tree}
use Rattle.c_layout.specs.DeclarationTrees.{ForFirstView, NoClause, Clause, StatementTree, StatementTrees, Declaration, Label, Case, Default, Block, Expression, If, IfElse, Switch, While, Do, For, Goto, Continue, Break, Return, NoStatement, MoreStatements}
use Rattle.c_layout.specs.DeclarationTrees as tree
use Rattle.c_parser_tokens.specs.declared.terminals.Terminal.{Terminal}
use Rattle.c_parser_tokens.specs.declared.terminals.Keyword.{Keyword}
use Rattle.c_parser_tokens.specs.declared.terminals.Keyword.TheVariants as k
use Rattle.c_parser_tokens.specs.declared.terminals.Symbol.{Symbol}
use Rattle.c_parser_tokens.specs.declared.terminals.Symbol.TheVariants as symbol
use Rattle.c_parser_tokens.specs.declared.terminals.Punctuator.TheVariants as p
use Rattle.c_parser_expression_grammar.specs.Expressions.{Derives}
use Rattle.c_parser_expression_grammar.specs.Fronts.{first_symbol, behind_first, IsSign, IsWord, IsName}
use Rattle.c_parser_declarations.specs.Grammar.Declarations.{IsLocal}
use Rattle.c_parser.specs.Statements.{Maybe, Condition, FirstClause, is_open, DeriveStatement, DeriveStatements, IsBlock}
use Rattle.c_parser_theorems.specs.UniqueUnits.StatementEnds.{is_else, TakesNoElse}
use Rattle.c_parser_theorems.proofs.unique_expressions.Levels.{ends_at}
use Rattle.c_parser_theorems.proofs.unique_expressions.Unique.{one_expression}
use Rattle.c_parser_theorems.proofs.unique_units.Listing.{next, true_false, AtBrace, at_brace, is_right_brace}
use Rattle.c_parser_theorems.proofs.unique_units.Fronts.{names_fix, no_expression}
use Rattle.c_parser_theorems.proofs.unique_units.Specifying.{OfNone, kind_at}
use Rattle.c_parser_theorems.proofs.unique_units.Initializing.{local_fix, local_word}
use Rattle.c_parser_theorems.proofs.unique_units.Starting.{Declares, Evaluates, Never, start_at, start_of, start_is, no_statement, evaluates_at, declares_at}

-- ---- parts

-- two words at one place leave the same
next_word : {w v : Keyword} {a b c d : List Terminal} → IsWord w a b → IsWord v c d → a ≡ c → b ≡ d
next_word {w} {v} {a} {b} {c} {d} one two same = one.behind ∙ ap behind_first same ∙ sym two.behind

valued_fix : (known : List (List ℕ)) (x y : Option Tree) (ts r s a b : List Terminal) → Maybe known x ts r → IsSign p.Semicolon r a → Maybe known y ts s → IsSign p.Semicolon s b → (x ≡ y) × (r ≡ s)
valued_fix known None None ts r s a b d semi e semi-too = (refl, d ∙ sym e)
valued_fix known None (Some y) ts r s a b d semi e semi-too =
    let at : first_symbol ts ≡ symbol.Punctuator p.Semicolon = rw d at semi.symbol in absurd (no_expression known 0 y ts s (symbol.Punctuator p.Semicolon) at (λ self m low. refl) e (ends_at 0 semi-too (omega arith)))
valued_fix known (Some x) None ts r s a b d semi e semi-too =
    let at : first_symbol ts ≡ symbol.Punctuator p.Semicolon = rw e at semi-too.symbol in absurd (no_expression known 0 x ts r (symbol.Punctuator p.Semicolon) at (λ self m low. refl) d (ends_at 0 semi (omega arith)))
valued_fix known (Some x) (Some y) ts r s a b d semi e semi-too =
    let same = one_expression x y known 0 ts r s d (ends_at 0 semi (omega arith)) e (ends_at 0 semi-too (omega arith)) in (ap Some same.0, same.1)

step_fix : (known : List (List ℕ)) (x y : Option Tree) (ts r s a b : List Terminal) → Maybe known x ts r → IsSign p.RightParenthesis r a → Maybe known y ts s → IsSign p.RightParenthesis s b → (x ≡ y) × (r ≡ s)
step_fix known None None ts r s a b d shut e shut-too = (refl, d ∙ sym e)
step_fix known None (Some y) ts r s a b d shut e shut-too =
    let at : first_symbol ts ≡ symbol.Punctuator p.RightParenthesis = rw d at shut.symbol in absurd (no_expression known 0 y ts s (symbol.Punctuator p.RightParenthesis) at (λ self m low. refl) e (ends_at 0 shut-too (omega arith)))
step_fix known (Some x) None ts r s a b d shut e shut-too =
    let at : first_symbol ts ≡ symbol.Punctuator p.RightParenthesis = rw e at shut-too.symbol in absurd (no_expression known 0 x ts r (symbol.Punctuator p.RightParenthesis) at (λ self m low. refl) d (ends_at 0 shut (omega arith)))
step_fix known (Some x) (Some y) ts r s a b d shut e shut-too =
    let same = one_expression x y known 0 ts r s d (ends_at 0 shut (omega arith)) e (ends_at 0 shut-too (omega arith)) in (ap Some same.0, same.1)

condition_fix : (known : List (List ℕ)) (x y : Tree) (ts r s : List Terminal) → Condition known x ts r → Condition known y ts s → (x ≡ y) × (r ≡ s)
condition_fix known x y ts r s (a, b, opens, d, shut) (c, f, opens-too, e, shut-too) =
    let from : Derives y known 0 a f = subst (λ (z : List Terminal). Derives y known 0 z f) (sym (next opens opens-too refl)) e in
    let same = one_expression x y known 0 a b f d (ends_at 0 shut (omega arith)) from (ends_at 0 shut-too (omega arith)) in
    (same.0, next shut shut-too same.1)

semicolon_kind : {ts r : List Terminal} (known : List (List ℕ)) → IsSign p.Semicolon ts r → kind_at known ts ≡ OfNone
semicolon_kind {ts} {r} known semi = rw semi.symbol refl

clause_apart : (known : List (List ℕ)) (e : Tree) (l : tree.LocalView) (ts a r s : List Terminal) → Derives e known 0 ts a → IsSign p.Semicolon a r → IsLocal known l ts s → ⊥
clause_apart known e l ts a r s d semi local = let clash : Evaluates ≡ Declares = sym (evaluates_at known e ts a r d semi) ∙ declares_at known ts (local_word known l ts s local) in cc clash

empty_apart : (known : List (List ℕ)) (e : Tree) (ts a r s : List Terminal) → IsSign p.Semicolon ts s → Derives e known 0 ts a → IsSign p.Semicolon a r → ⊥
empty_apart known e ts a r s first d semi = no_expression known 0 e ts a (symbol.Punctuator p.Semicolon) first.symbol (λ self m low. refl) d (ends_at 0 semi (omega arith))

first_fix : (known : List (List ℕ)) (x y : ForFirstView) (ts r s : List Terminal) → FirstClause known x ts r → FirstClause known y ts s → (x ≡ y) × (r ≡ s)
first_fix known NoClause NoClause ts r s d e = (refl, next d e refl)
first_fix known NoClause (Clause y) ts r s d e = absurd (empty_apart known y ts e.0 s r d e.1 e.2)
first_fix known NoClause (tree.Declares l) ts r s d e = absurd (local_word known l ts s e (semicolon_kind known d))
first_fix known (Clause x) NoClause ts r s d e = absurd (empty_apart known x ts d.0 r s e d.1 d.2)
first_fix known (Clause x) (Clause y) ts r s d e =
    let same = one_expression x y known 0 ts d.0 e.0 d.1 (ends_at 0 d.2 (omega arith)) e.1 (ends_at 0 e.2 (omega arith)) in (ap Clause same.0, next d.2 e.2 same.1)
first_fix known (Clause x) (tree.Declares l) ts r s d e = absurd (clause_apart known x l ts d.0 r s d.1 d.2 e)
first_fix known (tree.Declares l) NoClause ts r s d e = absurd (local_word known l ts r d (semicolon_kind known e))
first_fix known (tree.Declares l) (Clause y) ts r s d e = absurd (clause_apart known y l ts e.0 s r e.1 e.2 d)
first_fix known (tree.Declares x) (tree.Declares y) ts r s d e = let same = local_fix known x y ts r s d e in (ap tree.Declares same.0, same.1)

-- ---- what stands behind an open statement

closed_fits : (s : StatementTree) (r : List Terminal) → is_open s ≡ false → TakesNoElse s r
closed_fits s r closed open-is = absurd (true_false open-is closed)

while_fits : (s : StatementTree) {r a : List Terminal} → IsWord k.While r a → TakesNoElse s r
while_fits s {r} {a} is open-is = rw is.symbol refl

no_else : {r c d : List Terminal} → is_else (first_symbol r) ≡ false → r ≡ c → IsWord k.Else c d → ⊥
no_else {r} {c} {d} none same is = let at : false ≡ true = sym none ∙ ap (λ (z : List Terminal). is_else (first_symbol z)) same ∙ rw is.symbol refl in cc at

else_never : (x : Symbol) → is_else x ≡ true → x ≡ symbol.Keyword k.Else
else_never (symbol.Keyword k.Else) is = refl
else_never _ is = cc

else_start : (known : List (List ℕ)) (ts : List Terminal) → is_else (first_symbol ts) ≡ true → start_at known ts ≡ Never
else_start known ts is = let at : first_symbol ts ≡ symbol.Keyword k.Else = else_never (first_symbol ts) is in rw at

brace_never : (x : Symbol) → is_right_brace x ≡ true → x ≡ symbol.Punctuator p.RightBrace
brace_never (symbol.Punctuator p.RightBrace) is = refl
brace_never _ is = cc

brace_start : (known : List (List ℕ)) (ts : List Terminal) → AtBrace ts → start_at known ts ≡ Never
brace_start known ts is = let at : first_symbol ts ≡ symbol.Punctuator p.RightBrace = brace_never (first_symbol ts) is in rw at

brace_no_else : (x : Symbol) → is_right_brace x ≡ true → is_else x ≡ false
brace_no_else (symbol.Keyword w) is = cc
brace_no_else _ is = refl

statement_no_else : (s : StatementTree) (known : List (List ℕ)) (ts r : List Terminal) → DeriveStatement s known ts r → (b : Bool) → is_else (first_symbol ts) ≡ b → b ≡ false
statement_no_else s known ts r d false at = refl
statement_no_else s known ts r d true at = absurd (no_statement s known ts r d (else_start known ts at))

items_no_else : (items : StatementTrees) (known : List (List ℕ)) (ts r : List Terminal) → DeriveStatements items known ts r → AtBrace r → is_else (first_symbol ts) ≡ false
items_no_else NoStatement known ts r same at = brace_no_else (first_symbol ts) (rw same at at)
items_no_else (MoreStatements s more) known ts r (a, one, others) at = statement_no_else s known ts a one (is_else (first_symbol ts)) refl

-- ---- statements

starts_alike : (x y : StatementTree) (known : List (List ℕ)) (ts r s : List Terminal) → DeriveStatement x known ts r → DeriveStatement y known ts s → start_of x ≡ start_of y
starts_alike x y known ts r s d e = sym (start_is x known ts r d) ∙ start_is y known ts s e

-- a statement at another place, where the places are the same
moved : (y : StatementTree) (known : List (List ℕ)) (s : List Terminal) {a b : List Terminal} → a ≡ b → DeriveStatement y known b s → DeriveStatement y known a s
moved y known s {a} {b} same e = subst (λ (z : List Terminal). DeriveStatement y known z s) (sym same) e

moved_condition : (y : Tree) (known : List (List ℕ)) (s : List Terminal) {a b : List Terminal} → a ≡ b → Condition known y b s → Condition known y a s
moved_condition y known s {a} {b} same e = subst (λ (z : List Terminal). Condition known y z s) (sym same) e

moved_maybe : (y : Option Tree) (known : List (List ℕ)) (s : List Terminal) {a b : List Terminal} → a ≡ b → Maybe known y b s → Maybe known y a s
moved_maybe y known s {a} {b} same e = subst (λ (z : List Terminal). Maybe known y z s) (sym same) e

mutual
  pub statement_fix : (x y : StatementTree) (known : List (List ℕ)) (ts r s : List Terminal) → DeriveStatement x known ts r → TakesNoElse x r → DeriveStatement y known ts s → TakesNoElse y s → (x ≡ y) × (r ≡ s)
  statement_fix (Declaration x) (Declaration y) known ts r s d er e es = let same = local_fix known x y ts r s d e in (ap Declaration same.0, same.1)
  statement_fix (Label n x) (Label m y) known ts r s (a, b, is, colon, some, d) er (f, g, is-too, colon-too, some-too, e) es =
      let names = names_fix n m is is-too in
      let same = statement_fix x y known b r s d er (moved y known _ (next colon colon-too names.1) e) es in
      (λ i. Label (names.0 i) (same.0 i), same.1)
  statement_fix (Case at v x) (Case at-too w y) known ts r s (place, a, b, c, is, value, colon, some, d) er (place-too, f, g, h, is-too, value-too, colon-too, some-too, e) es =
      let from : Derives w known 2 a g = subst (λ (z : List Terminal). Derives w known 2 z g) (sym (next_word is is-too refl)) value-too in
      let values = one_expression v w known 2 a b g value (ends_at 2 colon (omega arith)) from (ends_at 2 colon-too (omega arith)) in
      let same = statement_fix x y known c r s d er (moved y known _ (next colon colon-too values.1) e) es in
      (λ i. Case ((place ∙ sym place-too) i) (values.0 i) (same.0 i), same.1)
  statement_fix (Default at x) (Default at-too y) known ts r s (place, a, b, is, colon, some, d) er (place-too, f, g, is-too, colon-too, some-too, e) es =
      let same = statement_fix x y known b r s d er (moved y known _ (next colon colon-too (next_word is is-too refl)) e) es in
      (λ i. Default ((place ∙ sym place-too) i) (same.0 i), same.1)
  statement_fix (Block at x) (Block at-too y) known ts r s (place, a, b, opens, d, shut) er (place-too, f, g, opens-too, e, shut-too) es =
      let from : DeriveStatements y known a g = subst (λ (z : List Terminal). DeriveStatements y known z g) (sym (next opens opens-too refl)) e in
      let same = statements_fix x y known a b g d (at_brace shut) from (at_brace shut-too) in
      (λ i. Block ((place ∙ sym place-too) i) (same.0 i), next shut shut-too same.1)
  statement_fix (Expression at v) (Expression at-too w) known ts r s (place, a, value, semi) er (place-too, b, value-too, semi-too) es =
      let same = valued_fix known v w ts a b r s value semi value-too semi-too in
      (λ i. Expression ((place ∙ sym place-too) i) (same.0 i), next semi semi-too same.1)
  statement_fix (If at v x) (If at-too w y) known ts r s (place, a, b, is, value, some, d) er (place-too, f, g, is-too, value-too, some-too, e) es =
      let values = condition_fix known v w a b g value (moved_condition w known _ (next_word is is-too refl) value-too) in
      let same = statement_fix x y known b r s d (λ o. er refl) (moved y known _ values.1 e) (λ o. es refl) in
      (λ i. If ((place ∙ sym place-too) i) (values.0 i) (same.0 i), same.1)
  statement_fix (If at v x) (IfElse at-too w y z) known ts r s (place, a, b, is, value, some, d) er (place-too, f, g, h, j, is-too, value-too, some-too, closed, e, other, some-last, last) es =
      let values = condition_fix known v w a b g value (moved_condition w known _ (next_word is is-too refl) value-too) in
      let same = statement_fix x y known b r h d (λ o. er refl) (moved y known _ values.1 e) (closed_fits y h closed) in
      absurd (no_else (er refl) same.1 other)
  statement_fix (IfElse at-too w y z) (If at v x) known ts r s (place-too, f, g, h, j, is-too, value-too, some-too, closed, e, other, some-last, last) er (place, a, b, is, value, some, d) es =
      let values = condition_fix known w v f g b value-too (moved_condition v known _ (next_word is-too is refl) value) in
      let same = statement_fix y x known g h s e (closed_fits y h closed) (moved x known _ values.1 d) (λ o. es refl) in
      absurd (no_else (es refl) (sym same.1) other)
  statement_fix (IfElse at v x u) (IfElse at-too w y z) known ts r s (place, a, b, c, l, is, value, some, shut, d, else-is, some-end, tail) er (place-too, f, g, h, j, is-too, value-too, some-too, closed, e, other, some-last, last) es =
      let values = condition_fix known v w a b g value (moved_condition w known _ (next_word is is-too refl) value-too) in
      let same = statement_fix x y known b c h d (closed_fits x c shut) (moved y known _ values.1 e) (closed_fits y h closed) in
      let ends = statement_fix u z known l r s tail er (moved z known _ (next_word else-is other same.1) last) es in
      (λ i. IfElse ((place ∙ sym place-too) i) (values.0 i) (same.0 i) (ends.0 i), ends.1)
  statement_fix (Switch at v x) (Switch at-too w y) known ts r s (place, a, b, is, value, some, d) er (place-too, f, g, is-too, value-too, some-too, e) es =
      let values = condition_fix known v w a b g value (moved_condition w known _ (next_word is is-too refl) value-too) in
      let same = statement_fix x y known b r s d er (moved y known _ values.1 e) es in
      (λ i. Switch ((place ∙ sym place-too) i) (values.0 i) (same.0 i), same.1)
  statement_fix (While at v x) (While at-too w y) known ts r s (place, a, b, is, value, some, d) er (place-too, f, g, is-too, value-too, some-too, e) es =
      let values = condition_fix known v w a b g value (moved_condition w known _ (next_word is is-too refl) value-too) in
      let same = statement_fix x y known b r s d er (moved y known _ values.1 e) es in
      (λ i. While ((place ∙ sym place-too) i) (values.0 i) (same.0 i), same.1)
  statement_fix (Do at x v) (Do at-too y w) known ts r s (place, a, b, c, l, is, some, d, is-while, value, semi) er (place-too, f, g, h, j, is-too, some-too, e, is-while-too, value-too, semi-too) es =
      let same = statement_fix x y known a b g d (while_fits x is-while) (moved y known _ (next_word is is-too refl) e) (while_fits y is-while-too) in
      let values = condition_fix known v w c l j value (moved_condition w known _ (next_word is-while is-while-too same.1) value-too) in
      (λ i. Do ((place ∙ sym place-too) i) (same.0 i) (values.0 i), next semi semi-too values.1)
  statement_fix (For at first v w x) (For at-too first-too v-too w-too y) known ts r s
      (place, a, b, c, l, f, g, h, is, opens, clause, test, semi, step, shut, some, d) er
      (place-too, a2, b2, c2, l2, f2, g2, h2, is-too, opens-too, clause-too, test-too, semi-too, step-too, shut-too, some-too, e) es =
      let inside : b ≡ b2 = next opens opens-too (next_word is is-too refl) in
      let from : FirstClause known first-too b c2 = subst (λ (z : List Terminal). FirstClause known first-too z c2) (sym inside) clause-too in
      let clauses = first_fix known first first-too b c c2 clause from in
      let tests = valued_fix known v v-too c l l2 f f2 test semi (moved_maybe v-too known _ clauses.1 test-too) semi-too in
      let steps = step_fix known w w-too f g g2 h h2 step shut (moved_maybe w-too known _ (next semi semi-too tests.1) step-too) shut-too in
      let same = statement_fix x y known h r s d er (moved y known _ (next shut shut-too steps.1) e) es in
      (λ i. For ((place ∙ sym place-too) i) (clauses.0 i) (tests.0 i) (steps.0 i) (same.0 i), same.1)
  statement_fix (Goto at n) (Goto at-too m) known ts r s (place, a, b, is, name, semi) er (place-too, f, g, is-too, name-too, semi-too) es =
      let names = names_fix n m name (subst (λ (z : List Terminal). IsName known m.at m.text z g) (sym (next_word is is-too refl)) name-too) in
      (λ i. Goto ((place ∙ sym place-too) i) (names.0 i), next semi semi-too names.1)
  statement_fix (Continue at) (Continue at-too) known ts r s (place, a, is, semi) er (place-too, f, is-too, semi-too) es = (ap Continue (place ∙ sym place-too), next semi semi-too (next_word is is-too refl))
  statement_fix (Break at) (Break at-too) known ts r s (place, a, is, semi) er (place-too, f, is-too, semi-too) es = (ap Break (place ∙ sym place-too), next semi semi-too (next_word is is-too refl))
  statement_fix (Return at v) (Return at-too w) known ts r s (place, a, b, is, value, semi) er (place-too, f, g, is-too, value-too, semi-too) es =
      let same = valued_fix known v w a b g r s value semi (moved_maybe w known _ (next_word is is-too refl) value-too) semi-too in
      (λ i. Return ((place ∙ sym place-too) i) (same.0 i), next semi semi-too same.1)
  statement_fix x y known ts r s d er e es = let h : start_of x ≡ start_of y = starts_alike x y known ts r s d e in absurd (cc h)

  pub statements_fix : (xs ys : StatementTrees) (known : List (List ℕ)) (ts r s : List Terminal) → DeriveStatements xs known ts r → AtBrace r → DeriveStatements ys known ts s → AtBrace s → (xs ≡ ys) × (r ≡ s)
  statements_fix NoStatement NoStatement known ts r s d er e es = (refl, d ∙ sym e)
  statements_fix NoStatement (MoreStatements y ys) known ts r s d er (b, two, others) es = absurd (no_statement y known ts b two (brace_start known ts (rw d at er)))
  statements_fix (MoreStatements x xs) NoStatement known ts r s (a, one, more) er e es = absurd (no_statement x known ts a one (brace_start known ts (rw e at es)))
  statements_fix (MoreStatements x xs) (MoreStatements y ys) known ts r s (a, one, more) er (b, two, others) es =
      let same = statement_fix x y known ts a b one (λ o. items_no_else xs known a r more er) two (λ o. items_no_else ys known b s others es) in
      let tail = statements_fix xs ys known a r s more er (subst (λ (z : List Terminal). DeriveStatements ys known z s) (sym same.1) others) es in
      (λ i. MoreStatements (same.0 i) (tail.0 i), tail.1)

pub block_fix : (known : List (List ℕ)) (xs ys : StatementTrees) (ts r s : List Terminal) → IsBlock known xs ts r → IsBlock known ys ts s → (xs ≡ ys) × (r ≡ s)
block_fix known xs ys ts r s d e =
    let from : DeriveStatements ys known d.inside e.last = subst (λ (z : List Terminal). DeriveStatements ys known z e.last) (sym (next d.opens e.opens refl)) e.derive in
    let same = statements_fix xs ys known d.inside d.last e.last d.derive (at_brace d.closes) from (at_brace e.closes) in
    (same.0, next d.closes e.closes same.1)
