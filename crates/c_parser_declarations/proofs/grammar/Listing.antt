-- Lists of items with commas that grow at the end.
use Rattle.std.proofs.Common.{◌≡◌, ℕ, ◌≤◌, List, [], ◌∷◌, ◌++◌, max, map, inl, inr, refl, subst, ap, ◌∙◌, arith}
use Rattle.std.proofs.lemmas.List.{map-append}
use Rattle.c_layout.specs.DeclarationTrees.{EnumeratorView}
use Rattle.c_parser_tokens.specs.declared.terminals.Terminal.{Terminal}
use Rattle.c_parser_tokens.specs.declared.terminals.Punctuator.TheVariants as p
use Rattle.c_parser_expression_grammar.specs.Fronts.{IsSign}
use Rattle.c_parser_declarations.specs.Grammar.Findings.{FoundItems, FoundListed, FoundEnumerator, FoundEnumerators}
use Rattle.c_parser_declarations.specs.Grammar.Specifiers.{IsEnumerator, Enumerators, enumerator_height}
use Rattle.c_parser_declarations.specs.Grammar.Lists.{Trailed, Listed, highest}

pub trailed_more : {X : Type 0} (Item : X → List Terminal → List Terminal → Type 0) (xs : List X) (x : X) (ts a b c : List Terminal) → Trailed Item xs ts a → Item x a b → IsSign p.Comma b c → Trailed Item (xs ++ (x ∷ [])) ts c
trailed_more Item [] x ts a b c t is comma = (b, c, subst (λ (start : List Terminal). Item x start b) t is, comma, refl)
trailed_more Item (y ∷ ys) x ts a b c t is comma = (t.0, t.1, t.2, t.3, trailed_more Item ys x t.1 a b c t.4 is comma)

pub listed_last : {X : Type 0} (Item : X → List Terminal → List Terminal → Type 0) (xs : List X) (x : X) (ts a b : List Terminal) → Trailed Item xs ts a → Item x a b → Listed Item (xs ++ (x ∷ [])) ts b
listed_last Item [] x ts a b t is = subst (λ (start : List Terminal). Item x start b) t is
listed_last Item (y ∷ []) x ts a b t is = (t.0, t.1, t.2, t.3, subst (λ (start : List Terminal). Item x start b) t.4 is)
listed_last Item (y ∷ (z ∷ more)) x ts a b t is = (t.0, t.1, t.2, t.3, listed_last Item (z ∷ more) x t.1 a b t.4 is)

pub highest_more : {X : Type 0} (height : X → ℕ) (xs : List X) (x : X) → highest height (xs ++ (x ∷ [])) ≡ max (highest height xs) (height x)
highest_more height [] x = omega arith
highest_more height (y ∷ ys) x = let inner : highest height (ys ++ (x ∷ [])) ≡ max (highest height ys) (height x) = highest_more height ys x in omega (arith, inner)

pub map_snoc : {X Y : Type 0} (f : X → Y) (xs ys : List X) (x : X) → ys ≡ xs ++ (x ∷ []) → map f ys ≡ map f xs ++ (f x ∷ [])
map_snoc f xs ys x e = ap (map f) e ∙ map-append f xs (x ∷ [])

tall : {X : Type 0} (height : X → ℕ) (xs : List X) (x : X) (g h k : ℕ) → g ≡ highest height xs → k ≡ height x → h ≡ max g k → h ≡ highest height (xs ++ (x ∷ []))
tall height xs x g h k g-is k-is h-is = rw (highest_more height xs x, h-is, g-is, k-is)

pub items_more : {X : Type 0} {Item : X → List Terminal → List Terminal → Type 0} {height : X → ℕ} {budget g h k : ℕ} {xs ys : List X} (x : X) {ts a c rest : List Terminal} →
    FoundItems Item height budget xs g ts a → Item x a c → k ≡ height x → k ≤ budget → IsSign p.Comma c rest → ys ≡ xs ++ (x ∷ []) → h ≡ max g k → FoundItems Item height budget ys h ts rest
items_more {X} {Item} {height} {budget} {g} {h} {k} {xs} {ys} x {ts} {a} {c} {rest} so one k-is low comma ys-is h-is =
    rw ys-is (record {
      derive = trailed_more Item xs x ts a c rest so.derive one comma;
      high_is = tall height xs x g h k so.high_is k-is h-is;
      within = omega (arith, h-is, so.within, low);
    })

pub items_last : {X : Type 0} {Item : X → List Terminal → List Terminal → Type 0} {height : X → ℕ} {budget g h k : ℕ} {xs ys : List X} (x : X) {ts a c rest : List Terminal} →
    FoundItems Item height budget xs g ts a → Item x a c → k ≡ height x → k ≤ budget → rest ≡ c → ys ≡ xs ++ (x ∷ []) → h ≡ max g k → FoundListed Item height budget ys h ts rest
items_last {X} {Item} {height} {budget} {g} {h} {k} {xs} {ys} x {ts} {a} {c} {rest} so one k-is low same ys-is h-is =
    rw (ys-is, same) (record {
      derive = listed_last Item xs x ts a c so.derive one;
      high_is = tall height xs x g h k so.high_is k-is h-is;
      within = omega (arith, h-is, so.within, low);
    })

-- one item more, and its comma, are the last before what ends the list
some_listed : (known : List (List ℕ)) (es : List EnumeratorView) (ts rest : List Terminal) → Listed (IsEnumerator known) es ts rest → Enumerators known es ts rest
some_listed known [] ts rest l = absurd l
some_listed known (e ∷ es) ts rest l = inl l

some_trailed : (known : List (List ℕ)) (es : List EnumeratorView) (x : EnumeratorView) (ts rest : List Terminal) → Trailed (IsEnumerator known) (es ++ (x ∷ [])) ts rest → Enumerators known (es ++ (x ∷ [])) ts rest
some_trailed known [] x ts rest t = inr t
some_trailed known (e ∷ es) x ts rest t = inr t

pub enumerators_listed : {known : List (List ℕ)} {budget g h k : ℕ} {xs ys : List EnumeratorView} {x : EnumeratorView} {ts a c d rest : List Terminal} →
    FoundItems (IsEnumerator known) enumerator_height budget xs g ts a → FoundEnumerator known budget x k a c → d ≡ c → IsSign p.RightBrace d rest → ys ≡ xs ++ (x ∷ []) → h ≡ max g k → FoundEnumerators known budget ys h ts rest
enumerators_listed {known} {budget} {g} {h} {k} {xs} {ys} {x} {ts} {a} {c} {d} {rest} so one same closes ys-is h-is =
    let all : FoundListed (IsEnumerator known) enumerator_height budget ys h ts d = items_last x so one.derives one.height one.within same ys-is h-is in
    record { last = d; derive = some_listed known ys ts d all.derive; closes = closes; high_is = all.high_is; within = all.within }

pub enumerators_trailed : {known : List (List ℕ)} {budget g h k : ℕ} {xs ys : List EnumeratorView} {x : EnumeratorView} {ts a c d rest : List Terminal} →
    FoundItems (IsEnumerator known) enumerator_height budget xs g ts a → FoundEnumerator known budget x k a c → IsSign p.Comma c d → IsSign p.RightBrace d rest → ys ≡ xs ++ (x ∷ []) → h ≡ max g k → FoundEnumerators known budget ys h ts rest
enumerators_trailed {known} {budget} {g} {h} {k} {xs} {ys} {x} {ts} {a} {c} {d} {rest} so one comma closes ys-is h-is =
    let all : FoundItems (IsEnumerator known) enumerator_height budget ys h ts d = items_more x so one.derives one.height one.within comma ys-is h-is in
    let shape : Enumerators known ys ts d = rw ys-is (some_trailed known xs x ts d (rw ys-is at all.derive)) in
    record { last = d; derive = shape; closes = closes; high_is = all.high_is; within = all.within }
