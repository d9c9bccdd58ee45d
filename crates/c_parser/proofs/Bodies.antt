-- Statements with statements in them, over what was found for their parts.
use Rattle.std.proofs.Common.{◌≡◌, ℕ, ◌+◌, ◌≤◌, Bool, true, false, List, [], ◌∷◌, ◌++◌, max, Option, refl, sym, subst, ap, ◌∙◌, arith}
use Rattle.cc_base.specs.declared.diagnostics.Place.{Place}
use Rattle.c_layout.specs.SyntaxTrees.{Tree}
use Rattle.c_layout.specs.DeclarationTrees.{NameView, LocalView, ForFirstView, StatementTree, statement_trees, Declaration, Label, Case, Default, Block, If, IfElse, Switch, While, Do, For}
use Rattle.c_parser_tokens.specs.declared.terminals.Terminal.{Terminal}
use Rattle.c_parser_tokens.specs.declared.terminals.Keyword.TheVariants as k
use Rattle.c_parser_tokens.specs.declared.terminals.Punctuator.TheVariants as p
use Rattle.c_parser_expression_grammar.specs.Expressions.{height_of}
use Rattle.c_parser_expression_grammar.specs.Findings.{Found}
use Rattle.c_parser_expression_grammar.specs.Fronts.{first_symbol, first_place, IsSign, IsWord, IsName}
use Rattle.c_parser_declarations.specs.Grammar.Findings.{FoundLocal}
use Rattle.c_parser.proofs.Jumps.{shut}
use Rattle.c_parser.specs.Findings.{FoundCondition, FoundMaybe, FoundFirst, FoundStatement, FoundItem, FoundItems, FoundBraced, FoundBlock, is_else}
use Rattle.c_parser.specs.Statements.{is_statement, is_open, DeriveStatement, DeriveStatements, statement_height, statements_height, maybe_height, first_height}

-- a statement that ends as its last part does
ends_as : {known : List (List ℕ)} {budget b g h : ℕ} (s : StatementTree) {v inner : StatementTree} {ts a rest : List Terminal} →
    v ≡ s → is_statement s ≡ true → is_open s ≡ is_open inner → DeriveStatement s known ts rest → FoundStatement known b inner g a rest → h ≡ statement_height s → h ≤ budget →
    FoundStatement known budget v h ts rest
ends_as {known} {budget} {b} {g} {h} s {v} {inner} {ts} {a} {rest} v-is statement same derives found height within =
    subst (λ (w : StatementTree). FoundStatement known budget w h ts rest) (sym v-is) (record {
      derives = derives;
      statement = statement;
      stops = λ (open-is : is_open s ≡ true). found.stops (sym same ∙ open-is);
      height = height;
      within = within;
    })

pub label_found : {known : List (List ℕ)} {budget b g h : ℕ} {s v : StatementTree} (name : NameView) {ts a c rest : List Terminal} →
    IsName known name.at name.text ts a → IsSign p.Colon a c → FoundStatement known b s g c rest → v ≡ Label name s → h ≡ g + 1 → h ≤ budget → FoundStatement known budget v h ts rest
label_found {known} {budget} {b} {g} {h} {s} {v} name {ts} {a} {c} {rest} named colon inner v-is h-is within =
    ends_as (Label name s) v-is refl refl (a, c, named, colon, inner.statement, inner.derives) inner (h-is ∙ ap (λ (n : ℕ). n + 1) inner.height) within

pub case_found : {known : List (List ℕ)} {budget b c f g h : ℕ} {s v : StatementTree} {e : Tree} {at : Place} {ts a d m rest : List Terminal} →
    at ≡ first_place ts → IsWord k.Case ts a → Found known 2 c e f a d → IsSign p.Colon d m → FoundStatement known b s g m rest → v ≡ Case at e s → h ≡ max f g + 1 → h ≤ budget →
    FoundStatement known budget v h ts rest
case_found {known} {budget} {b} {c} {f} {g} {h} {s} {v} {e} {at} {ts} {a} {d} {m} {rest} place word value colon inner v-is h-is within =
    ends_as (Case at e s) v-is refl refl (place, a, d, m, word, value.derives, colon, inner.statement, inner.derives) inner
    (h-is ∙ (ap (λ (n : ℕ). max n g + 1) value.height ∙ ap (λ (n : ℕ). max (height_of e) n + 1) inner.height)) within

pub default_found : {known : List (List ℕ)} {budget b g h : ℕ} {s v : StatementTree} {at : Place} {ts a c rest : List Terminal} →
    at ≡ first_place ts → IsWord k.Default ts a → IsSign p.Colon a c → FoundStatement known b s g c rest → v ≡ Default at s → h ≡ g + 1 → h ≤ budget → FoundStatement known budget v h ts rest
default_found {known} {budget} {b} {g} {h} {s} {v} {at} {ts} {a} {c} {rest} place word colon inner v-is h-is within =
    ends_as (Default at s) v-is refl refl (place, a, c, word, colon, inner.statement, inner.derives) inner (h-is ∙ ap (λ (n : ℕ). n + 1) inner.height) within

two : (f g x y : ℕ) → f ≡ x → g ≡ y → max f g + 1 ≡ max x y + 1
two f g x y f-is g-is = ap (λ (n : ℕ). max n g + 1) f-is ∙ ap (λ (n : ℕ). max x n + 1) g-is

three : (f g m x y z : ℕ) → f ≡ x → g ≡ y → m ≡ z → max (max f g) m + 1 ≡ max (max x y) z + 1
three f g m x y z f-is g-is m-is = two (max f g) m (max x y) z (ap (λ (n : ℕ). max n g) f-is ∙ ap (λ (n : ℕ). max x n) g-is) m-is

pub if_found : {known : List (List ℕ)} {budget b c f g h : ℕ} {s v : StatementTree} {e : Tree} {at : Place} {ts a d rest : List Terminal} →
    at ≡ first_place ts → IsWord k.If ts a → FoundCondition known c e f a d → FoundStatement known b s g d rest → is_else (first_symbol rest) ≡ false → v ≡ If at e s → h ≡ max f g + 1 → h ≤ budget →
    FoundStatement known budget v h ts rest
if_found {known} {budget} {b} {c} {f} {g} {h} {s} {v} {e} {at} {ts} {a} {d} {rest} place word test inner no-else v-is h-is within =
    subst (λ (w : StatementTree). FoundStatement known budget w h ts rest) (sym v-is) (record {
      derives = (place, a, d, word, test.derives, inner.statement, inner.derives);
      statement = refl;
      stops = λ (open-is : true ≡ true). no-else;
      height = h-is ∙ two f g (height_of e) (statement_height s) test.height inner.height;
      within = within;
    })

not_open : (open-is : Bool) → (open-is ≡ true → ⊥) → open-is ≡ false
not_open false never = refl
not_open true never = absurd (never refl)

else_closes : {known : List (List ℕ)} {b g : ℕ} {s : StatementTree} {ts a rest : List Terminal} → FoundStatement known b s g ts a → IsWord k.Else a rest → is_open s ≡ false
else_closes {known} {b} {g} {s} {ts} {a} {rest} found word =
    not_open (is_open s) (λ (open-is : is_open s ≡ true). let none : is_else (first_symbol a) ≡ false = found.stops open-is in let one : is_else (first_symbol a) ≡ true = ap is_else word.symbol in cc)

pub if_else_found : {known : List (List ℕ)} {budget b c o f g h m : ℕ} {s t v : StatementTree} {e : Tree} {at : Place} {ts a d q r rest : List Terminal} →
    at ≡ first_place ts → IsWord k.If ts a → FoundCondition known c e f a d → FoundStatement known b s g d q → IsWord k.Else q r → FoundStatement known o t m r rest →
    v ≡ IfElse at e s t → h ≡ max (max f g) m + 1 → h ≤ budget → FoundStatement known budget v h ts rest
if_else_found {known} {budget} {b} {c} {o} {f} {g} {h} {m} {s} {t} {v} {e} {at} {ts} {a} {d} {q} {r} {rest} place word test first other second v-is h-is within =
    ends_as (IfElse at e s t) v-is refl refl
    (place, a, d, q, r, word, test.derives, first.statement, else_closes first other, first.derives, other, second.statement, second.derives) second
    (h-is ∙ three f g m (height_of e) (statement_height s) (statement_height t) test.height first.height second.height) within

pub switch_found : {known : List (List ℕ)} {budget b c f g h : ℕ} {s v : StatementTree} {e : Tree} {at : Place} {ts a d rest : List Terminal} →
    at ≡ first_place ts → IsWord k.Switch ts a → FoundCondition known c e f a d → FoundStatement known b s g d rest → v ≡ Switch at e s → h ≡ max f g + 1 → h ≤ budget → FoundStatement known budget v h ts rest
switch_found {known} {budget} {b} {c} {f} {g} {h} {s} {v} {e} {at} {ts} {a} {d} {rest} place word test inner v-is h-is within =
    ends_as (Switch at e s) v-is refl refl (place, a, d, word, test.derives, inner.statement, inner.derives) inner
    (h-is ∙ two f g (height_of e) (statement_height s) test.height inner.height) within

pub while_found : {known : List (List ℕ)} {budget b c f g h : ℕ} {s v : StatementTree} {e : Tree} {at : Place} {ts a d rest : List Terminal} →
    at ≡ first_place ts → IsWord k.While ts a → FoundCondition known c e f a d → FoundStatement known b s g d rest → v ≡ While at e s → h ≡ max f g + 1 → h ≤ budget → FoundStatement known budget v h ts rest
while_found {known} {budget} {b} {c} {f} {g} {h} {s} {v} {e} {at} {ts} {a} {d} {rest} place word test inner v-is h-is within =
    ends_as (While at e s) v-is refl refl (place, a, d, word, test.derives, inner.statement, inner.derives) inner
    (h-is ∙ two f g (height_of e) (statement_height s) test.height inner.height) within

pub do_found : {known : List (List ℕ)} {budget b c f g h : ℕ} {s v : StatementTree} {e : Tree} {at : Place} {ts a d q r rest : List Terminal} →
    at ≡ first_place ts → IsWord k.Do ts a → FoundStatement known b s f a d → IsWord k.While d q → FoundCondition known c e g q r → IsSign p.Semicolon r rest →
    v ≡ Do at s e → h ≡ max f g + 1 → h ≤ budget → FoundStatement known budget v h ts rest
do_found {known} {budget} {b} {c} {f} {g} {h} {s} {v} {e} {at} {ts} {a} {d} {q} {r} {rest} place word inner other test ends v-is h-is within =
    shut (Do at s e) v-is refl refl (place, a, d, q, r, word, inner.statement, inner.derives, other, test.derives, ends)
    (h-is ∙ two f g (statement_height s) (height_of e) inner.height test.height) within

four : (f g m n x y z w : ℕ) → f ≡ x → g ≡ y → m ≡ z → n ≡ w → max (max (max f g) m) n + 1 ≡ max (max (max x y) z) w + 1
four f g m n x y z w f-is g-is m-is n-is = three (max f g) m n (max x y) z w (ap (λ (i : ℕ). max i g) f-is ∙ ap (λ (i : ℕ). max x i) g-is) m-is n-is

pub for_found : {known : List (List ℕ)} {budget b c f g h m n : ℕ} {s v : StatementTree} (first : ForFirstView) (test step : Option Tree) {at : Place} {ts a d q r t rest : List Terminal} →
    at ≡ first_place ts → IsWord k.For ts a → IsSign p.LeftParenthesis a d → FoundFirst known c first f d q → FoundMaybe known c p.Semicolon test g q r → FoundMaybe known c p.RightParenthesis step m r t →
    FoundStatement known b s n t rest → v ≡ For at first test step s → h ≡ max (max (max f g) m) n + 1 → h ≤ budget → FoundStatement known budget v h ts rest
for_found {known} {budget} {b} {c} {f} {g} {h} {m} {n} {s} {v} first test step {at} {ts} {a} {d} {q} {r} {t} {rest} place word opens one two-is three-is inner v-is h-is within =
    ends_as (For at first test step s) v-is refl refl
    (place, a, d, q, two-is.last, r, three-is.last, t, word, opens, one.derives, two-is.derives, two-is.ends, three-is.derives, three-is.ends, inner.statement, inner.derives) inner
    (h-is ∙ four f g m n (first_height first) (maybe_height test) (maybe_height step) (statement_height s) one.height two-is.height three-is.height inner.height) within

-- ---- blocks

pub as_item : {known : List (List ℕ)} {budget h : ℕ} {s : StatementTree} {ts rest : List Terminal} → FoundStatement known budget s h ts rest → FoundItem known budget s h ts rest
as_item {known} {budget} {h} {s} {ts} {rest} found = record { derives = found.derives; height = found.height; within = found.within }

pub local_item : {known : List (List ℕ)} {budget h : ℕ} {s : StatementTree} (l : LocalView) {ts rest : List Terminal} → FoundLocal known budget l h ts rest → s ≡ Declaration l → FoundItem known budget s h ts rest
local_item {known} {budget} {h} {s} l {ts} {rest} found s-is =
    subst (λ (w : StatementTree). FoundItem known budget w h ts rest) (sym s-is) (record { derives = found.derives; height = found.height; within = found.within })

items_more : (ss : List StatementTree) (s : StatementTree) (known : List (List ℕ)) (ts a b : List Terminal) →
    DeriveStatements (statement_trees ss) known ts a → DeriveStatement s known a b → DeriveStatements (statement_trees (ss ++ (s ∷ []))) known ts b
items_more [] s known ts a b d one = (b, subst (λ (start : List Terminal). DeriveStatement s known start b) d one, refl)
items_more (v ∷ vs) s known ts a b d one = (d.0, d.1, items_more vs s known d.0 a b d.2 one)

items_high : (ss : List StatementTree) (s : StatementTree) → statements_height (statement_trees (ss ++ (s ∷ []))) ≡ max (statements_height (statement_trees ss)) (statement_height s)
items_high [] s = omega arith
items_high (v ∷ vs) s = let inner : statements_height (statement_trees (vs ++ (s ∷ []))) ≡ max (statements_height (statement_trees vs)) (statement_height s) = items_high vs s in omega (arith, inner)

pub one_item : {known : List (List ℕ)} {budget g h j : ℕ} {ss vs : List StatementTree} {s : StatementTree} {ts a rest : List Terminal} →
    FoundItems known budget ss g ts a → FoundItem known budget s j a rest → vs ≡ ss ++ (s ∷ []) → h ≡ max g j → FoundItems known budget vs h ts rest
one_item {known} {budget} {g} {h} {j} {ss} {vs} {s} {ts} {a} {rest} so one vs-is h-is =
    rw vs-is (record {
      derive = items_more ss s known ts a rest so.derive one.derives;
      height = rw (items_high ss s, h-is, so.height, one.height);
      within = omega (arith, h-is, so.within, one.within);
    })

pub whole_block : {known : List (List ℕ)} {budget b g h : ℕ} (ss : List StatementTree) {ts a rest : List Terminal} →
    IsSign p.LeftBrace ts a → FoundBraced known b ss g a rest → h ≡ g + 1 → h ≤ budget → FoundBlock known budget ss h ts rest
whole_block {known} {budget} {b} {g} {h} ss {ts} {a} {rest} opens found h-is within = record {
  block = record { inside = a; last = found.last; opens = opens; derive = found.derive; closes = found.closes };
  height = h-is ∙ ap (λ (n : ℕ). n + 1) found.height;
  within = within;
}

pub block_found : {known : List (List ℕ)} {budget h : ℕ} {v : StatementTree} {at : Place} (ss : List StatementTree) {ts rest : List Terminal} →
    at ≡ first_place ts → FoundBlock known budget ss h ts rest → v ≡ Block at (statement_trees ss) → FoundStatement known budget v h ts rest
block_found {known} {budget} {h} {v} {at} ss {ts} {rest} place found v-is =
    shut (Block at (statement_trees ss)) v-is refl refl (place, found.block.inside, found.block.last, found.block.opens, found.block.derive, found.block.closes) found.height found.within
