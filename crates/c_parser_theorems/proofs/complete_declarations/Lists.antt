-- Lists are read, where their items are.
use Rattle.std.proofs.Common.{◌≡◌, ℕ, zero, suc, ◌+◌, ◌≤◌, ◌<◌, false, max, List, [], ◌∷◌, ◌⊎◌, inl, inr, length, Some, refl, arith}
use Rattle.c_parser_tokens.specs.declared.terminals.Terminal.{Terminal}
use Rattle.c_parser_tokens.specs.declared.terminals.Punctuator.TheVariants as p
use Rattle.c_parser_expression_grammar.specs.Fronts.{first_symbol, behind_first, IsSign}
use Rattle.c_parser_declarations.specs.Grammar.Lists.{Listed, Trailed, highest}
use Rattle.c_parser_expression_grammar.specs.Readings.{is_comma, is_right_brace}
use Rattle.c_parser_theorems.proofs.complete_expressions.Shrinking.{length_behind}
use Rattle.c_parser_declarations.specs.Grammar.Items.{Item, item_of, listed, braced}

-- an item is read where it ends
abbrev pub ReadsItem : {X : Type 0} → (X → List Terminal → List Terminal → Type 0) → (List Terminal → Type 0) → (X → ℕ) → ℕ → Item X → X → Type 0
ReadsItem Derive Ends height bound item x = (ts rest : List Terminal) → Derive x ts rest → Ends rest → height x < bound → item ts ≡ Some (item_of x (height x) rest)

abbrev pub AllRead : {X : Type 0} → (X → List Terminal → List Terminal → Type 0) → (List Terminal → Type 0) → (X → ℕ) → ℕ → Item X → List X → Type 0
AllRead Derive Ends height bound item [] = Unit {0}
AllRead Derive Ends height bound item (x ∷ xs) = ReadsItem Derive Ends height bound item x × AllRead Derive Ends height bound item xs

pub all_read : {X : Type 0} (Derive : X → List Terminal → List Terminal → Type 0) (Ends : List Terminal → Type 0) (height : X → ℕ) (bound : ℕ) (item : Item X) → ((x : X) → ReadsItem Derive Ends height bound item x) → (xs : List X) → AllRead Derive Ends height bound item xs
all_read Derive Ends height bound item reads [] = tt
all_read Derive Ends height bound item reads (x ∷ xs) = (reads x, all_read Derive Ends height bound item reads xs)

-- and takes a terminal at least
abbrev pub TakesOne : {X : Type 0} → (X → List Terminal → List Terminal → Type 0) → Type 0
TakesOne {X} Derive = (x : X) (ts rest : List Terminal) → Derive x ts rest → length rest + 1 ≤ length ts

abbrev pub BeforeComma : (List Terminal → Type 0) → Type 0
BeforeComma Ends = (a b : List Terminal) → IsSign p.Comma a b → Ends a

pub listed_few : {X : Type 0} (Derive : X → List Terminal → List Terminal → Type 0) → TakesOne Derive → (xs : List X) (ts rest : List Terminal) → Listed Derive xs ts rest → length xs + length rest ≤ length ts
listed_few Derive takes [] ts rest d = absurd d
listed_few Derive takes (x ∷ []) ts rest d = let h = takes x ts rest d in omega arith
listed_few Derive takes (x ∷ (y ∷ more)) ts rest (a, b, one, comma, others) = let h = takes x ts a one in let c = length_behind a b comma in let t = listed_few Derive takes (y ∷ more) b rest others in omega arith

pub listed_read : {X : Type 0} (Derive : X → List Terminal → List Terminal → Type 0) (Ends : List Terminal → Type 0) (height : X → ℕ) (bound : ℕ) (item : Item X) → BeforeComma Ends →
    (xs : List X) → AllRead Derive Ends height bound item xs → (turns : ℕ) (ts rest : List Terminal) → Listed Derive xs ts rest → Ends rest → is_comma (first_symbol rest) ≡ false → highest height xs < bound → length xs ≤ turns → listed item turns ts ≡ Some (item_of xs (highest height xs) rest)
listed_read Derive Ends height bound item before [] none-read turns ts rest d ends none small enough = absurd d
listed_read Derive Ends height bound item before (x ∷ xs) all zero ts rest d ends none small enough = absurd (omega arith)
listed_read Derive Ends height bound item before (x ∷ []) (reads, none-left) (suc turns) ts rest d ends none small enough =
    let one = reads ts rest d ends (omega arith) in
    let alone : max (height x) 0 ≡ height x = omega arith in
    rw (one, none, alone) refl
listed_read Derive Ends height bound item before (x ∷ (y ∷ more)) (reads, reads-more) (suc turns) ts rest (a, b, first, comma, others) ends none small enough =
    let one = reads ts a first (before a b comma) (omega arith) in
    let tail = listed_read Derive Ends height bound item before (y ∷ more) reads-more turns b rest others ends none (omega arith) (omega arith) in
    let tail-at : listed item turns (behind_first a) ≡ Some (item_of (y ∷ more) (highest height (y ∷ more)) rest) = rw comma.behind at tail in
    rw (one, comma.symbol, tail-at) refl

-- ---- items in braces

-- a list in braces, before its `}`: a comma between any two items, and maybe one behind the last
abbrev pub Row : {X : Type 0} → (X → List Terminal → List Terminal → Type 0) → List X → List Terminal → List Terminal → Type 0
Row Derive [] ts rest = ⊥
Row Derive (x ∷ []) ts rest = (a : List Terminal) × Derive x ts a × ((rest ≡ a) ⊎ IsSign p.Comma a rest)
Row Derive (x ∷ (y ∷ more)) ts rest = (a b : List Terminal) × Derive x ts a × IsSign p.Comma a b × Row Derive (y ∷ more) b rest

pub listed_row : {X : Type 0} (Derive : X → List Terminal → List Terminal → Type 0) (xs : List X) (ts rest : List Terminal) → Listed Derive xs ts rest → Row Derive xs ts rest
listed_row Derive [] ts rest d = d
listed_row Derive (x ∷ []) ts rest d = (rest, d, inl refl)
listed_row Derive (x ∷ (y ∷ more)) ts rest (a, b, one, comma, others) = (a, b, one, comma, listed_row Derive (y ∷ more) b rest others)

pub trailed_row : {X : Type 0} (Derive : X → List Terminal → List Terminal → Type 0) (x : X) (xs : List X) (ts rest : List Terminal) → Trailed Derive (x ∷ xs) ts rest → Row Derive (x ∷ xs) ts rest
trailed_row Derive x [] ts rest (a, b, one, comma, same) = (a, one, inr (rw same comma))
trailed_row Derive x (y ∷ more) ts rest (a, b, one, comma, others) = (a, b, one, comma, trailed_row Derive y more b rest others)

pub row_few : {X : Type 0} (Derive : X → List Terminal → List Terminal → Type 0) → TakesOne Derive → (xs : List X) (ts rest : List Terminal) → Row Derive xs ts rest → length xs + length rest ≤ length ts
row_few Derive takes [] ts rest d = absurd d
row_few Derive takes (x ∷ []) ts rest (a, one, inl same) = let h = takes x ts a one in rw same (omega arith)
row_few Derive takes (x ∷ []) ts rest (a, one, inr comma) = let h = takes x ts a one in let c = length_behind a rest comma in omega arith
row_few Derive takes (x ∷ (y ∷ more)) ts rest (a, b, one, comma, others) = let h = takes x ts a one in let c = length_behind a b comma in let t = row_few Derive takes (y ∷ more) b rest others in omega arith

abbrev pub BeforeBrace : (List Terminal → Type 0) → Type 0
BeforeBrace Ends = (a b : List Terminal) → IsSign p.RightBrace a b → Ends a

-- no item begins with a `}`
abbrev pub NoBrace : {X : Type 0} → (X → List Terminal → List Terminal → Type 0) → Type 0
NoBrace {X} Derive = (x : X) (ts rest : List Terminal) → Derive x ts rest → is_right_brace (first_symbol ts) ≡ false

row_begins : {X : Type 0} (Derive : X → List Terminal → List Terminal → Type 0) → NoBrace Derive → (y : X) (more : List X) (ts rest : List Terminal) → Row Derive (y ∷ more) ts rest → is_right_brace (first_symbol ts) ≡ false
row_begins Derive apart y [] ts rest (a, one, end) = apart y ts a one
row_begins Derive apart y (z ∷ more) ts rest (a, b, one, comma, others) = apart y ts a one

pub braced_read : {X : Type 0} (Derive : X → List Terminal → List Terminal → Type 0) (Ends : List Terminal → Type 0) (height : X → ℕ) (bound : ℕ) (item : Item X) → BeforeComma Ends → BeforeBrace Ends → NoBrace Derive →
    (xs : List X) → AllRead Derive Ends height bound item xs → (turns : ℕ) (ts last rest : List Terminal) → Row Derive xs ts last → IsSign p.RightBrace last rest → highest height xs < bound → length xs ≤ turns → braced item turns ts ≡ Some (item_of xs (highest height xs) rest)
braced_read Derive Ends height bound item before brace apart [] none-read turns ts last rest d shut small enough = absurd d
braced_read Derive Ends height bound item before brace apart (x ∷ xs) all zero ts last rest d shut small enough = absurd (omega arith)
braced_read Derive Ends height bound item before brace apart (x ∷ []) (reads, none-left) (suc turns) ts last rest (a, first, inl same) shut small enough =
    let shut-at : IsSign p.RightBrace a rest = rw same at shut in
    let one = reads ts a first (brace a rest shut-at) (omega arith) in
    let alone : max (height x) 0 ≡ height x = omega arith in
    rw (one, shut-at.symbol, shut-at.behind, alone) refl
braced_read Derive Ends height bound item before brace apart (x ∷ []) (reads, none-left) (suc turns) ts last rest (a, first, inr comma) shut small enough =
    let one = reads ts a first (before a last comma) (omega arith) in
    let shut-at : IsSign p.RightBrace (behind_first a) rest = rw comma.behind at shut in
    let alone : max (height x) 0 ≡ height x = omega arith in
    rw (one, comma.symbol, shut-at.symbol, shut-at.behind, alone) refl
braced_read Derive Ends height bound item before brace apart (x ∷ (y ∷ more)) (reads, reads-more) (suc turns) ts last rest (a, b, first, comma, others) shut small enough =
    let one = reads ts a first (before a b comma) (omega arith) in
    let off : is_right_brace (first_symbol (behind_first a)) ≡ false = rw comma.behind at (row_begins Derive apart y more b last others) in
    let tail = braced_read Derive Ends height bound item before brace apart (y ∷ more) reads-more turns b last rest others shut (omega arith) (omega arith) in
    let tail-at : braced item turns (behind_first a) ≡ Some (item_of (y ∷ more) (highest height (y ∷ more)) rest) = rw comma.behind at tail in
    rw (one, comma.symbol, off, tail-at) refl
