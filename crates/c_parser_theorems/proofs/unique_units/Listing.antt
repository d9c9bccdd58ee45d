-- Lists whose items are fixed by the terminals that they derive from.
use Rattle.std.proofs.Common.{◌≡◌, Bool, true, false, List, [], ◌∷◌, ◌⊎◌, inl, inr, refl, sym, ap, subst, ◌∙◌}
use Rattle.c_parser_tokens.specs.declared.terminals.Terminal.{Terminal}
use Rattle.c_parser_tokens.specs.declared.terminals.Symbol.{Symbol}
use Rattle.c_parser_tokens.specs.declared.terminals.Symbol.TheVariants as symbol
use Rattle.c_parser_tokens.specs.declared.terminals.Punctuator.{Punctuator}
use Rattle.c_parser_tokens.specs.declared.terminals.Punctuator.TheVariants as p
use Rattle.c_parser_expression_grammar.specs.Fronts.{first_symbol, behind_first, IsSign}
use Rattle.c_parser_declarations.specs.Grammar.Lists.{Listed, Trailed}
use Rattle.c_parser_theorems.proofs.unique_expressions.Reading.{is_comma}

abbrev pub is_right_brace : Symbol → Bool
is_right_brace (symbol.Punctuator p.RightBrace) = true
is_right_brace _ = false

-- two signs at one place leave the same
pub next : {s t : Punctuator} {a b c d : List Terminal} → IsSign s a b → IsSign t c d → a ≡ c → b ≡ d
next {s} {t} {a} {b} {c} {d} one two same = one.behind ∙ ap behind_first same ∙ sym two.behind

pub true_false : {b : Bool} → b ≡ true → b ≡ false → ⊥
true_false {b} is other = let h : true ≡ false = sym is ∙ other in cc

-- an item is fixed: what derives where it does is the same, and leaves the same
abbrev pub Fixes : {X : Type 0} → (X → List Terminal → List Terminal → Type 0) → (List Terminal → Type 0) → X → Type 0
Fixes {X} Item Ends x = (y : X) (ts r s : List Terminal) → Item x ts r → Ends r → Item y ts s → Ends s → (x ≡ y) × (r ≡ s)

abbrev pub AllFix : {X : Type 0} → (X → List Terminal → List Terminal → Type 0) → (List Terminal → Type 0) → List X → Type 0
AllFix Item Ends [] = Unit {0}
AllFix Item Ends (x ∷ xs) = Fixes Item Ends x × AllFix Item Ends xs

pub all_fix : {X : Type 0} (Item : X → List Terminal → List Terminal → Type 0) (Ends : List Terminal → Type 0) → ((x : X) → Fixes Item Ends x) → (xs : List X) → AllFix Item Ends xs
all_fix Item Ends each [] = tt
all_fix Item Ends each (x ∷ xs) = (each x, all_fix Item Ends each xs)

-- an item ends before a comma
abbrev pub BeforeComma : (List Terminal → Type 0) → Type 0
BeforeComma Ends = (a b : List Terminal) → IsSign p.Comma a b → Ends a

abbrev pub NoComma : List Terminal → Type 0
NoComma r = is_comma (first_symbol r) ≡ false

no_comma : {a b r : List Terminal} → IsSign p.Comma a b → r ≡ a → NoComma r → ⊥
no_comma {a} {b} {r} comma same none = true_false (let h : is_comma (first_symbol r) ≡ true = rw same (rw comma.symbol refl) in h) none

-- items with commas between them
pub listed_fix : {X : Type 0} (Item : X → List Terminal → List Terminal → Type 0) (Ends : List Terminal → Type 0) → ((x : X) → Fixes Item Ends x) → BeforeComma Ends →
    (xs ys : List X) (ts r s : List Terminal) → Listed Item xs ts r → Ends r → NoComma r → Listed Item ys ts s → Ends s → NoComma s → (xs ≡ ys) × (r ≡ s)
listed_fix Item Ends fix before [] ys ts r s d er nr e es ns = absurd d
listed_fix Item Ends fix before (x ∷ []) [] ts r s d er nr e es ns = absurd e
listed_fix Item Ends fix before (x ∷ []) (y ∷ []) ts r s d er nr e es ns = let same = fix x y ts r s d er e es in (ap (λ v. v ∷ []) same.0, same.1)
listed_fix Item Ends fix before (x ∷ []) (y ∷ (z ∷ zs)) ts r s d er nr (a, b, one, comma, more) es ns =
    let same = fix x y ts r a d er one (before a b comma) in absurd (no_comma comma same.1 nr)
listed_fix Item Ends fix before (x ∷ (w ∷ ws)) [] ts r s d er nr e es ns = absurd e
listed_fix Item Ends fix before (x ∷ (w ∷ ws)) (y ∷ []) ts r s (a, b, one, comma, more) er nr e es ns =
    let same = fix x y ts a s one (before a b comma) e es in absurd (no_comma comma (sym same.1) ns)
listed_fix Item Ends fix before (x ∷ (w ∷ ws)) (y ∷ (z ∷ zs)) ts r s (a, b, one, comma, more) er nr (c, d, two, comma-too, others) es ns =
    let same = fix x y ts a c one (before a b comma) two (before c d comma-too) in
    let from : Listed Item (z ∷ zs) b s = subst (λ (v : List Terminal). Listed Item (z ∷ zs) v s) (sym (next comma comma-too same.1)) others in
    let tail = listed_fix Item Ends fix before (w ∷ ws) (z ∷ zs) b r s more er nr from es ns in
    (λ i. same.0 i ∷ tail.0 i, tail.1)

-- items with commas between them and maybe one behind the last, in front of a `}`
abbrev pub Rowed : {X : Type 0} → (X → List Terminal → List Terminal → Type 0) → List X → List Terminal → List Terminal → Type 0
Rowed Item [] ts rest = rest ≡ ts
Rowed Item (x ∷ xs) ts rest = (a : List Terminal) × Item x ts a × ((xs ≡ []) × (rest ≡ a) ⊎ ((b : List Terminal) × IsSign p.Comma a b × Rowed Item xs b rest))

pub listed_rowed : {X : Type 0} (Item : X → List Terminal → List Terminal → Type 0) (xs : List X) (ts r : List Terminal) → Listed Item xs ts r → Rowed Item xs ts r
listed_rowed Item [] ts r d = absurd d
listed_rowed Item (x ∷ []) ts r d = (r, d, inl (refl, refl))
listed_rowed Item (x ∷ (y ∷ more)) ts r (a, b, one, comma, others) = (a, one, inr (b, comma, listed_rowed Item (y ∷ more) b r others))

pub trailed_rowed : {X : Type 0} (Item : X → List Terminal → List Terminal → Type 0) (xs : List X) (ts r : List Terminal) → Trailed Item xs ts r → Rowed Item xs ts r
trailed_rowed Item [] ts r d = d
trailed_rowed Item (x ∷ xs) ts r (a, b, one, comma, others) = (a, one, inr (b, comma, trailed_rowed Item xs b r others))

abbrev pub AtBrace : List Terminal → Type 0
AtBrace r = is_right_brace (first_symbol r) ≡ true

pub at_brace : {r s : List Terminal} → IsSign p.RightBrace r s → AtBrace r
at_brace {r} {s} shut = rw shut.symbol refl

no_brace : {a b : List Terminal} → IsSign p.Comma a b → AtBrace a → ⊥
no_brace {a} {b} comma at = let h : false ≡ true = rw comma.symbol at at in cc

abbrev RowTail : {X : Type 0} → (X → List Terminal → List Terminal → Type 0) → List X → List Terminal → List Terminal → Type 0
RowTail Item xs a rest = (xs ≡ []) × (rest ≡ a) ⊎ ((b : List Terminal) × IsSign p.Comma a b × Rowed Item xs b rest)

row_ends : {X : Type 0} (Item : X → List Terminal → List Terminal → Type 0) (Ends : List Terminal → Type 0) (xs : List X) (a r : List Terminal) → BeforeComma Ends → ((v : List Terminal) → AtBrace v → Ends v) → AtBrace r → RowTail Item xs a r → Ends a
row_ends Item Ends xs a r before braced shut (inl last) = braced a (rw last.1 at shut)
row_ends Item Ends xs a r before braced shut (inr (b, comma, more)) = before a b comma

tails_fix : {X : Type 0} (Item : X → List Terminal → List Terminal → Type 0) (xs ys : List X) (a c r s : List Terminal) → a ≡ c → RowTail Item xs a r → AtBrace r → RowTail Item ys c s → AtBrace s →
    ((b : List Terminal) → Rowed Item xs b r → Rowed Item ys b s → (xs ≡ ys) × (r ≡ s)) → (xs ≡ ys) × (r ≡ s)
tails_fix Item xs ys a c r s same (inl last) shut (inl last-too) shut-too more-fix = (last.0 ∙ sym last-too.0, last.1 ∙ same ∙ sym last-too.1)
tails_fix Item xs ys a c r s same (inl last) shut (inr (d, comma, more)) shut-too more-fix = absurd (no_brace comma (rw same at (rw last.1 at shut)))
tails_fix Item xs ys a c r s same (inr (b, comma, more)) shut (inl last) shut-too more-fix = absurd (no_brace comma (rw (sym same) at (rw last.1 at shut-too)))
tails_fix Item xs ys a c r s same (inr (b, comma, more)) shut (inr (d, comma-too, others)) shut-too more-fix =
    more-fix b more (subst (λ (v : List Terminal). Rowed Item ys v s) (sym (next comma comma-too same)) others)

pub rowed_fix : {X : Type 0} (Item : X → List Terminal → List Terminal → Type 0) (Ends : List Terminal → Type 0) → BeforeComma Ends → ((v : List Terminal) → AtBrace v → Ends v) → ((x : X) (ts r : List Terminal) → Item x ts r → Ends r → AtBrace ts → ⊥) →
    (xs ys : List X) → AllFix Item Ends xs → (ts r s : List Terminal) → Rowed Item xs ts r → AtBrace r → Rowed Item ys ts s → AtBrace s → (xs ≡ ys) × (r ≡ s)
rowed_fix Item Ends before braced apart [] [] all ts r s d shut e shut-too = (refl, d ∙ sym e)
rowed_fix Item Ends before braced apart [] (y ∷ ys) all ts r s d shut (c, two, tail) shut-too = absurd (apart y ts c two (row_ends Item Ends ys c s before braced shut-too tail) (rw d at shut))
rowed_fix Item Ends before braced apart (x ∷ xs) [] all ts r s (a, one, tail) shut e shut-too = absurd (apart x ts a one (row_ends Item Ends xs a r before braced shut tail) (rw e at shut-too))
rowed_fix Item Ends before braced apart (x ∷ xs) (y ∷ ys) (fix, all) ts r s (a, one, tail) shut (c, two, tail-too) shut-too =
    let same = fix y ts a c one (row_ends Item Ends xs a r before braced shut tail) two (row_ends Item Ends ys c s before braced shut-too tail-too) in
    let others = tails_fix Item xs ys a c r s same.1 tail shut tail-too shut-too (λ b m n. rowed_fix Item Ends before braced apart xs ys all b r s m shut n shut-too) in
    (λ i. same.0 i ∷ others.0 i, others.1)
