-- A reader of a level answers what the one of the next level answers, where no operator of its own stands behind.
use Rattle.std.proofs.Common.{◌≡◌, ℕ, zero, suc, ◌≤◌, ◌<◌, false, List, Some, None, refl, arith}
use Rattle.c_layout.specs.SyntaxTrees.{Tree, Name, Number, Literal, Paren, Subscript, Call, Member, Arrow, Postfix, Prefix, Unary, SizeofExpr, SizeofType, Cast, Binary, Logical, Conditional, Assign, Comma}
use Rattle.c_parser_tokens.specs.declared.terminals.Terminal.{Terminal}
use Rattle.c_parser_expression_grammar.specs.Expressions.{Derives, height_of}
use Rattle.c_parser_expression_grammar.specs.Fronts.{first_symbol}
use Rattle.c_parser_expression_grammar.specs.Levels.{binary_level, logical_level, step_of, unary_of}
use Rattle.c_parser_expression_grammar.specs.Readings.{Reading, got, is_sizeof}
use Rattle.c_parser_expression_grammar.specs.ExpressionReaders.{NameReaders, Readers, readers_at, expression, assignment, conditional, binary, cast, unary, postfix, opens_type_name, inside}
use Rattle.c_parser_theorems.specs.CompleteExpressions.Found.{Reads, Finds, IsFound}
use Rattle.c_parser_theorems.proofs.complete_expressions.Stops.{ends_weaker, no_question, no_assign, climb_stops, commas_stop}

-- ---- the level of a tree's production

abbrev pub own_level : Tree → ℕ
own_level (Subscript at e index) = 15
own_level (Call at name arguments) = 15
own_level (Member at e name) = 15
own_level (Arrow at e name) = 15
own_level (Postfix at op e) = 15
own_level (Prefix at op e) = 14
own_level (Unary at op e) = 14
own_level (SizeofExpr at e) = 14
own_level (SizeofType at name lengths) = 14
own_level (Cast at name lengths e) = 13
own_level (Binary at op x y) = binary_level op
own_level (Logical at op x y) = logical_level op
own_level (Conditional at x y z) = 2
own_level (Assign at op x y) = 1
own_level (Comma at x y) = 0
own_level _ = 16

pub raise : (e : Tree) (known : List (List ℕ)) (l m : ℕ) (ts rest : List Terminal) → m ≤ own_level e → Derives e known l ts rest → Derives e known m ts rest
raise (Name at text) known l m ts rest fits d = d
raise (Number at value) known l m ts rest fits d = d
raise (Literal at bytes) known l m ts rest fits d = d
raise (Paren at e) known l m ts rest fits d = d
raise (Subscript at e i) known l m ts rest fits (level, a, b, c, place, left, opens, inner, shut) = (fits, a, b, c, place, left, opens, inner, shut)
raise (Call at name es) known l m ts rest fits (level, spans, a, b, c, is, opens, each, sep, shut) = (fits, spans, a, b, c, is, opens, each, sep, shut)
raise (Member at e name) known l m ts rest fits (level, a, b, place, left, dot, is) = (fits, a, b, place, left, dot, is)
raise (Arrow at e name) known l m ts rest fits (level, a, b, place, left, arrow, is) = (fits, a, b, place, left, arrow, is)
raise (Postfix at op e) known l m ts rest fits (level, a, place, left, sign) = (fits, a, place, left, sign)
raise (Prefix at op e) known l m ts rest fits (level, a, place, sign, inner) = (fits, a, place, sign, inner)
raise (Unary at op e) known l m ts rest fits (level, a, place, sign, inner) = (fits, a, place, sign, inner)
raise (SizeofExpr at e) known l m ts rest fits (level, a, place, front, inner) = (fits, a, place, front, inner)
raise (SizeofType at name es) known l m ts rest fits (level, spans, a, b, c, place, front, opens, each, is, shut) = (fits, spans, a, b, c, place, front, opens, each, is, shut)
raise (Cast at name es e) known l m ts rest fits (level, spans, a, b, c, place, opens, each, is, shut, inner) = (fits, spans, a, b, c, place, opens, each, is, shut, inner)
raise (Binary at op x y) known l m ts rest fits (level, a, b, place, left, sign, right) = (fits, a, b, place, left, sign, right)
raise (Logical at op x y) known l m ts rest fits (level, a, b, place, left, sign, right) = (fits, a, b, place, left, sign, right)
raise (Conditional at x y z) known l m ts rest fits (level, a, b, c, d, place, left, question, middle, colon, right) = (fits, a, b, c, d, place, left, question, middle, colon, right)
raise (Assign at op x y) known l m ts rest fits (level, sign, sign-is, a, b, place, left, is, right) = (fits, sign, sign-is, a, b, place, left, is, right)
raise (Comma at x y) known l m ts rest fits (level, a, b, place, left, comma, right) = (fits, a, b, place, left, comma, right)

-- none derives above it
pub no_higher : (e : Tree) (known : List (List ℕ)) (l : ℕ) (ts rest : List Terminal) → Derives e known l ts rest → own_level e ≤ 15 → l ≤ own_level e
no_higher (Name at text) known l ts rest d low = absurd (omega arith)
no_higher (Number at value) known l ts rest d low = absurd (omega arith)
no_higher (Literal at bytes) known l ts rest d low = absurd (omega arith)
no_higher (Paren at e) known l ts rest d low = absurd (omega arith)
no_higher (Subscript at e i) known l ts rest d low = d.0
no_higher (Call at name es) known l ts rest d low = d.0
no_higher (Member at e name) known l ts rest d low = d.0
no_higher (Arrow at e name) known l ts rest d low = d.0
no_higher (Postfix at op e) known l ts rest d low = d.0
no_higher (Prefix at op e) known l ts rest d low = d.0
no_higher (Unary at op e) known l ts rest d low = d.0
no_higher (SizeofExpr at e) known l ts rest d low = d.0
no_higher (SizeofType at name es) known l ts rest d low = d.0
no_higher (Cast at name es e) known l ts rest d low = d.0
no_higher (Binary at op x y) known l ts rest d low = d.0
no_higher (Logical at op x y) known l ts rest d low = d.0
no_higher (Conditional at x y z) known l ts rest d low = d.0
no_higher (Assign at op x y) known l ts rest d low = d.0
no_higher (Comma at x y) known l ts rest d low = d.0

-- where it derives above, there is nothing to read
pub nothing : (known : List (List ℕ)) (reader : List Terminal → Reading) (l bound : ℕ) (e : Tree) → own_level e ≤ 15 → own_level e < l → Reads known reader l bound e
nothing known reader l bound e low high ts rest d ends small = let h = no_higher e known l ts rest d low in absurd (omega arith)

-- ---- one budget

pub to_binary : (known : List (List ℕ)) (b : ℕ) (i : Readers) (e : Tree) → 13 ≤ own_level e → Reads known (cast b i known) 13 (suc b) e → (l : ℕ) → 3 ≤ l → l ≤ 13 → Reads known (binary b i known l) l (suc b) e
to_binary known b i e high reads l low top ts rest d ends small =
    let one : cast b i known ts ≡ Some (got e (height_of e) rest) = reads ts rest (raise e known l 13 ts rest (omega arith) d) (ends_weaker l 13 rest top ends) small in
    rw one (climb_stops b i l b (got e (height_of e) rest) ends)

pub to_conditional : (known : List (List ℕ)) (b : ℕ) (i : Readers) (e : Tree) → 3 ≤ own_level e → Reads known (binary b i known 3) 3 (suc b) e → Reads known (conditional b i known) 2 (suc b) e
to_conditional known b i e high reads ts rest d ends small =
    let one : binary b i known 3 ts ≡ Some (got e (height_of e) rest) = reads ts rest (raise e known 2 3 ts rest (omega arith) d) (ends_weaker 2 3 rest (omega arith) ends) small in
    let off = no_question rest ends in
    rw (one, off) refl

pub to_assignment : (known : List (List ℕ)) (b : ℕ) (i : Readers) (e : Tree) → 2 ≤ own_level e → Reads known (conditional b i known) 2 (suc b) e → Reads known (assignment b i known) 1 (suc b) e
to_assignment known b i e high reads ts rest d ends small =
    let one : conditional b i known ts ≡ Some (got e (height_of e) rest) = reads ts rest (raise e known 1 2 ts rest (omega arith) d) (ends_weaker 1 2 rest (omega arith) ends) small in
    let off = no_assign rest ends in
    rw (one, off) refl

pub to_expression : (known : List (List ℕ)) (b : ℕ) (i : Readers) (e : Tree) → 1 ≤ own_level e → Reads known (assignment b i known) 1 (suc b) e → Reads known (expression b i known) 0 (suc b) e
to_expression known b i e high reads ts rest d ends small =
    let one : assignment b i known ts ≡ Some (got e (height_of e) rest) = reads ts rest (raise e known 0 1 ts rest (omega arith) d) (ends_weaker 0 1 rest (omega arith) ends) small in
    rw one (commas_stop b i b (got e (height_of e) rest) ends)

-- what stands first tells a postfix expression from what stands above it
pub record BeginsPostfix (known : List (List ℕ)) (ts : List Terminal) : Type 0 where
  pub no_step : step_of (first_symbol ts) ≡ None
  pub no_unary : unary_of (first_symbol ts) ≡ None
  pub no_sizeof : is_sizeof (first_symbol ts) ≡ false
  pub no_type : opens_type_name known ts ≡ false

pub to_unary : (known : List (List ℕ)) (b : ℕ) (i : Readers) (e : Tree) → 15 ≤ own_level e → ((ts rest : List Terminal) → Derives e known 15 ts rest → BeginsPostfix known ts) → Reads known (postfix b i known) 15 (suc b) e → Reads known (unary b i known) 14 (suc b) e
to_unary known b i e high begins reads ts rest d ends small =
    let up : Derives e known 15 ts rest = raise e known 14 15 ts rest high d in
    let front = begins ts rest up in
    let one : postfix b i known ts ≡ Some (got e (height_of e) rest) = reads ts rest up (ends_weaker 14 15 rest (omega arith) ends) small in
    rw (front.no_step, front.no_unary, front.no_sizeof) one

pub to_cast : (known : List (List ℕ)) (b : ℕ) (i : Readers) (e : Tree) → 14 ≤ own_level e → ((ts rest : List Terminal) → Derives e known 14 ts rest → opens_type_name known ts ≡ false) → Reads known (unary b i known) 14 (suc b) e → Reads known (cast b i known) 13 (suc b) e
to_cast known b i e high begins reads ts rest d ends small =
    let up : Derives e known 14 ts rest = raise e known 13 14 ts rest high d in
    let off = begins ts rest up in
    let one : unary b i known ts ≡ Some (got e (height_of e) rest) = reads ts rest up (ends_weaker 13 14 rest (omega arith) ends) small in
    rw off one

-- ---- all levels of one budget

-- the readers below a level that a tree of the level is found by
pub from_conditional : (known : List (List ℕ)) (b : ℕ) (i : Readers) (e : Tree) → 2 ≤ own_level e → Reads known (conditional b i known) 2 (suc b) e → Reads known (assignment b i known) 1 (suc b) e × Reads known (expression b i known) 0 (suc b) e
from_conditional known b i e high reads =
    let one = to_assignment known b i e high reads in
    (one, to_expression known b i e (omega arith) one)

pub from_cast : (name : NameReaders) (known : List (List ℕ)) (b : ℕ) (i : Readers) (e : Tree) → 13 ≤ own_level e → Reads known (cast b i known) 13 (suc b) e →
    Reads known (unary b i known) 14 (suc b) e → Reads known (postfix b i known) 15 (suc b) e → Finds known (readers_at name known b i) (suc b) e
from_cast name known b i e high reads unary-reads postfix-reads =
    let all = to_binary known b i e high reads in
    let chosen = to_conditional known b i e (omega arith) (all 3 (omega arith) (omega arith)) in
    let lower = from_conditional known b i e (omega arith) chosen in
    record { expression = lower.1; assignment = lower.0; conditional = chosen; binary = all; cast = reads; unary = unary-reads; postfix = postfix-reads }

pub from_unary : (name : NameReaders) (known : List (List ℕ)) (b : ℕ) (i : Readers) (e : Tree) → 14 ≤ own_level e → ((ts rest : List Terminal) → Derives e known 14 ts rest → opens_type_name known ts ≡ false) →
    Reads known (unary b i known) 14 (suc b) e → Reads known (postfix b i known) 15 (suc b) e → Finds known (readers_at name known b i) (suc b) e
from_unary name known b i e high begins reads postfix-reads = from_cast name known b i e (omega arith) (to_cast known b i e high begins reads) reads postfix-reads

pub from_postfix : (name : NameReaders) (known : List (List ℕ)) (b : ℕ) (i : Readers) (e : Tree) → 15 ≤ own_level e → ((ts rest : List Terminal) → Derives e known 15 ts rest → BeginsPostfix known ts) →
    Reads known (postfix b i known) 15 (suc b) e → Finds known (readers_at name known b i) (suc b) e
from_postfix name known b i e high begins reads =
    from_unary name known b i e (omega arith) (λ ts rest d. (begins ts rest (raise e known 14 15 ts rest high d)).no_type) (to_unary known b i e high begins reads) reads

-- ---- budgets

-- the readers of a budget, by those of what stands inside
pub found_by : (name : NameReaders) (known : List (List ℕ)) (e : Tree) → ((b : ℕ) → Finds known (readers_at name known b (inside name known b)) (suc b) e) → IsFound name known e
found_by name known e all zero = all zero
found_by name known e all (suc b) = all (suc b)

-- and at one budget
pub found_at : (name : NameReaders) (known : List (List ℕ)) (e : Tree) → IsFound name known e → (b : ℕ) → Finds known (readers_at name known b (inside name known b)) (suc b) e
found_at name known e all zero = all zero
found_at name known e all (suc b) = all (suc b)

none_below : (known : List (List ℕ)) (reader : List Terminal → Reading) (l : ℕ) (e : Tree) → Reads known reader l zero e
none_below known reader l e ts rest d ends small = absurd (omega arith)

-- what is found is found inside
pub found_inside : (name : NameReaders) (known : List (List ℕ)) (e : Tree) → IsFound name known e → (b : ℕ) → Finds known (inside name known b) b e
found_inside name known e all zero = record {
  expression = none_below known _ 0 e;
  assignment = none_below known _ 1 e;
  conditional = none_below known _ 2 e;
  binary = λ l low high. none_below known _ l e;
  cast = none_below known _ 13 e;
  unary = none_below known _ 14 e;
  postfix = none_below known _ 15 e;
}
found_inside name known e all (suc b) = all b
