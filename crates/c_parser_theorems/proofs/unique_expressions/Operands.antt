-- What is shown of an expression: reading from its first terminal on comes to where it ends.
use Rattle.std.proofs.Common.{◌≡◌, ℕ, zero, suc, ◌+◌, ◌-◌, ◌≤◌, ◌<◌, false, List, [], ◌∷◌, Some, None, nat_lt, refl, arith, sym, ap, ◌∙◌}
use Rattle.c_layout.specs.SyntaxTrees.{Tree, Trees, Name, Number, Literal, Paren, Subscript, Call, Member, Arrow, Postfix, Prefix, Unary, SizeofExpr, SizeofType, Cast, Binary, Logical, Conditional, Assign, Comma, End, More}
use Rattle.c_parser_tokens.specs.declared.terminals.Terminal.{Terminal}
use Rattle.c_parser_expression_grammar.specs.Expressions.{Derives}
use Rattle.c_parser_expression_grammar.specs.Fronts.{first_symbol, behind_first}
use Rattle.c_parser_expression_grammar.specs.Spans.{Span, Separated}
use Rattle.c_parser_theorems.specs.UniqueExpressions.Endings.{EndsBefore}
use Rattle.c_parser_theorems.proofs.unique_expressions.Scanning.{Skips, AllSkipped}
use Rattle.c_parser_theorems.proofs.unique_expressions.WordReading.{name_weight}
use Rattle.c_parser_theorems.proofs.unique_expressions.Reading.{Found, Reads, several, skip_by, trees_at, is_comma, climb, start, read}
use Rattle.c_parser_theorems.proofs.unique_expressions.Levels.{edge, edge_right, power_at, not_below}

-- ---- measures

-- how many operators stand behind the first operand
abbrev pub spine : Tree → ℕ
spine (Subscript at e i) = suc (spine e)
spine (Member at e name) = suc (spine e)
spine (Arrow at e name) = suc (spine e)
spine (Postfix at op e) = suc (spine e)
spine (Binary at op x y) = suc (spine x)
spine (Logical at op x y) = suc (spine x)
spine (Conditional at x y z) = suc (spine x)
spine (Assign at op x y) = suc (spine x)
spine (Comma at x y) = suc (spine x)
spine _ = 0

abbrev mutual
  pub size : Tree → ℕ
  size (Name at text) = 0
  size (Number at value) = 0
  size (Literal at bytes) = 0
  size (Paren at e) = suc (size e)
  size (Subscript at e i) = suc (size e + size i)
  size (Call at name arguments) = suc (sizes arguments)
  size (Member at e name) = suc (size e)
  size (Arrow at e name) = suc (size e)
  size (Postfix at op e) = suc (size e)
  size (Prefix at op e) = suc (size e)
  size (Unary at op e) = suc (size e)
  size (SizeofExpr at e) = suc (size e)
  size (SizeofType at name lengths) = suc (name_weight name + sizes lengths)
  size (Cast at name lengths e) = suc (name_weight name + sizes lengths + size e)
  size (Binary at op x y) = suc (size x + size y)
  size (Logical at op x y) = suc (size x + size y)
  size (Conditional at x y z) = suc (size x + size y + size z)
  size (Assign at op x y) = suc (size x + size y)
  size (Comma at x y) = suc (size x + size y)

  -- that of several, with their number
  pub sizes : Trees → ℕ
  sizes End = 0
  sizes (More e more) = suc (size e + sizes more)

pub spine_small : (e : Tree) → spine e ≤ size e
spine_small (Subscript at e i) = let h = spine_small e in omega arith
spine_small (Member at e name) = let h = spine_small e in omega arith
spine_small (Arrow at e name) = let h = spine_small e in omega arith
spine_small (Postfix at op e) = let h = spine_small e in omega arith
spine_small (Binary at op x y) = let h = spine_small x in omega arith
spine_small (Logical at op x y) = let h = spine_small x in omega arith
spine_small (Conditional at x y z) = let h = spine_small x in omega arith
spine_small (Assign at op x y) = let h = spine_small x in omega arith
spine_small (Comma at x y) = let h = spine_small x in omega arith
spine_small _ = omega arith

-- ---- the claim

-- reading at a lower level goes as far as the expression, and on from there
abbrev pub Spined : Tree → Type 0
Spined e = (known : List (List ℕ)) (l : ℕ) (ts rest : List Terminal) → Derives e known l ts rest → power_at rest ≤ edge e →
    (low m j k : ℕ) → low ≤ l → size e ≤ m → j ≡ spine e + k → start (read known m) known m j low ts ≡ climb (read known m) k low e rest

-- an operand is read where nothing goes on with it
abbrev pub Operand : Tree → Type 0
Operand e = (known : List (List ℕ)) (l : ℕ) (ts rest : List Terminal) → Derives e known l ts rest → EndsBefore l rest → (m : ℕ) → size e < m → read known m l ts ≡ Some (e, rest)

climb_stops : (self : Reads) (k l : ℕ) (e : Tree) (rest : List Terminal) → EndsBefore l rest → climb self k l e rest ≡ Some (e, rest)
climb_stops self zero l e rest ends = refl
climb_stops self (suc k) l e rest ends = let stop : nat_lt l (power_at rest) ≡ false = not_below l (power_at rest) (omega arith) in rw stop

pub operand : (e : Tree) → Spined e → Operand e
operand e spined known l ts rest d ends zero small = absurd (omega arith)
operand e spined known l ts rest d ends (suc m) small =
    let right = edge_right e known l ts rest d in
    let short = spine_small e in
    let k : ℕ = m - spine e in
    let whole : m ≡ spine e + (m - spine e) = omega arith in
    spined known l ts rest d (omega arith) l m m (m - spine e) (omega arith) (omega arith) whole ∙ climb_stops (read known m) (m - spine e) l e rest ends

-- ---- several

-- at each span its tree is read
abbrev pub Each : (List Terminal → Found) → Trees → List Span → Type 0
Each item End spans = spans ≡ []
Each item (More e more) spans = (s : Span) × (others : List Span) × (spans ≡ s ∷ others) × (item s.from ≡ Some (e, s.to)) × Each item more others

pub each_skipped : (item : List Terminal → Found) (es : Trees) (spans : List Span) → Each item es spans → AllSkipped (skip_by item) spans
each_skipped item End spans none = rw none tt
each_skipped item (More e more) spans (s, others, parts, one, all) = let first : Skips (skip_by item) s = rw one refl in rw parts (first, each_skipped item more others all)

pub each_trees : (item : List Terminal → Found) (es : Trees) (spans : List Span) → Each item es spans → trees_at item spans ≡ es
each_trees item End spans none = rw none
each_trees item (More e more) spans (s, others, parts, one, all) = rw (parts, one, each_trees item more others all)

abbrev pub count : Trees → ℕ
count End = 0
count (More e more) = suc (count more)

several_end : (item : List Terminal → Found) (k : ℕ) (ts : List Terminal) → item ts ≡ None → several item k ts ≡ (End, ts)
several_end item zero ts none = refl
several_end item (suc k) ts none = rw none

pub several_are : (item : List Terminal → Found) (es : Trees) (spans : List Span) (k : ℕ) (ts rest : List Terminal) → Each item es spans → Separated spans ts rest → item rest ≡ None → is_comma (first_symbol rest) ≡ false → count es ≤ k →
    several item k ts ≡ (es, rest)
several_are item End spans k ts rest each sep none ends enough =
    let all : Separated [] ts rest = rw each at sep in
    let here : item ts ≡ None = rw all at none in
    several_end item k ts here ∙ ap (λ (r : List Terminal). (End, r)) (sym all)
several_are item (More e more) spans zero ts rest each sep none ends enough = absurd (omega arith)
several_are item (More e End) spans (suc k) ts rest (s, others, parts, one, last) sep none ends enough =
    let only : others ≡ [] = last in
    let all : Separated (s ∷ []) ts rest = rw only at (rw parts at sep) in
    let end : is_comma (first_symbol s.to) ≡ false = rw (all.1) at ends in
    rw (all.0, one, end, all.1)
several_are item (More e (More d more)) spans (suc k) ts rest (s, others, parts, one, (next, further, parts-of, two, each)) sep none ends enough =
    let all : Separated (s ∷ (next ∷ further)) ts rest = rw parts-of at (rw parts at sep) in
    let onward : Separated (next ∷ further) (behind_first s.to) rest = rw (all.2.behind) at all.3 in
    let tail : Each item (More d more) (next ∷ further) = (next, further, refl, two, each) in
    let others-are : several item k (behind_first s.to) ≡ (More d more, rest) = several_are item (More d more) (next ∷ further) k (behind_first s.to) rest tail onward none ends (omega arith) in
    rw (all.1, one, all.2.symbol, others-are)
