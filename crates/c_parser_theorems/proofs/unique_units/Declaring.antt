-- A declarator is fixed by its terminals and by what ends it.
use Rattle.std.proofs.Common.{◌≡◌, ℕ, ◌+◌, Bool, true, false, List, [], ◌∷◌, Option, Some, None, is_some, refl, sym, ap, subst, ◌∙◌, arith}
use Rattle.c_layout.specs.SyntaxTrees.{Tree}
use Rattle.c_layout.specs.DeclarationTrees.{NameView, SuffixView, DeclaratorLayerView, DeclaratorView}
use Rattle.c_parser_tokens.specs.declared.terminals.Terminal.{Terminal}
use Rattle.c_parser_tokens.specs.declared.terminals.Symbol.{Symbol}
use Rattle.c_parser_tokens.specs.declared.terminals.Symbol.TheVariants as symbol
use Rattle.c_parser_tokens.specs.declared.terminals.Punctuator.{Punctuator}
use Rattle.c_parser_tokens.specs.declared.terminals.Punctuator.TheVariants as p
use Rattle.c_parser_expression_grammar.specs.Fronts.{first_symbol, is_identifier, IsSign}
use Rattle.c_parser_expression_grammar.specs.Spans.{Chain}
use Rattle.c_parser_expression_grammar.specs.TypeNames.{Stars, is_pointer_qualifier}
use Rattle.c_parser_declarations.specs.Grammar.Declarators.{Length, IsSuffix, Core, Layers, Shape, IsDeclarator}
use Rattle.c_parser_theorems.proofs.unique_expressions.Scanning.{NoStar, no_star, stars, stars_are, star_weight, is_star, is_left_parenthesis}
use Rattle.c_parser_theorems.proofs.unique_expressions.Levels.{ends_at}
use Rattle.c_parser_theorems.proofs.unique_expressions.Unique.{one_expression}
use Rattle.c_parser_theorems.proofs.unique_units.Listing.{next, Fixes}
use Rattle.c_parser_theorems.proofs.unique_units.Fronts.{names_fix, no_expression, is_end, Ends}

-- ---- ends

end_star : (x : Symbol) → is_end x ≡ true → is_star x ≡ false
end_star (symbol.Punctuator p.Star) end = cc
end_star _ end = refl

end_qualifier : (x : Symbol) → is_end x ≡ true → is_pointer_qualifier x ≡ false
end_qualifier (symbol.Keyword w) end = cc
end_qualifier _ end = refl

end_parenthesis : (x : Symbol) → is_end x ≡ true → is_left_parenthesis x ≡ false
end_parenthesis (symbol.Punctuator p.LeftParenthesis) end = cc
end_parenthesis _ end = refl

end_identifier : (x : Symbol) → is_end x ≡ true → is_identifier x ≡ false
end_identifier symbol.Identifier end = cc
end_identifier _ end = refl

pub no_star_end : (r : List Terminal) → Ends r → NoStar r
no_star_end r end = record { star = end_star (first_symbol r) end; qualifier = end_qualifier (first_symbol r) end }

pub ends_by : {r s : List Terminal} {sign : Punctuator} → IsSign sign r s → is_end (symbol.Punctuator sign) ≡ true → Ends r
ends_by {r} {s} {sign} is end = rw is.symbol end

-- ---- stars

same_pair : (x y : List ℕ × List Terminal) → x ≡ y → (x.0 ≡ y.0) × (x.1 ≡ y.1)
same_pair x y same = (λ i. (same i).0, λ i. (same i).1)

pub stars_fix : (qs ps : List ℕ) (ts r s : List Terminal) → Stars qs ts r → NoStar r → Stars ps ts s → NoStar s → (qs ≡ ps) × (r ≡ s)
stars_fix qs ps ts r s d er e es =
    let one : stars (star_weight qs + star_weight ps) ts ≡ (qs, r) = stars_are qs (star_weight qs + star_weight ps) ts r d er (omega arith) in
    let two : stars (star_weight qs + star_weight ps) ts ≡ (ps, s) = stars_are ps (star_weight qs + star_weight ps) ts s e es (omega arith) in
    same_pair (qs, r) (ps, s) (sym one ∙ two)

-- ---- brackets

length_fix : (known : List (List ℕ)) (n m : Option Tree) (ts r s v w : List Terminal) → Length known n ts r → IsSign p.RightBracket r v → Length known m ts s → IsSign p.RightBracket s w → (n ≡ m) × (r ≡ s)
length_fix known None None ts r s v w d shut e shut-too = (refl, d ∙ sym e)
length_fix known None (Some x) ts r s v w d shut e shut-too =
    let at : first_symbol ts ≡ symbol.Punctuator p.RightBracket = rw d at shut.symbol in
    absurd (no_expression known 2 x ts s (symbol.Punctuator p.RightBracket) at (λ self m low. refl) e (ends_at 2 shut-too (omega arith)))
length_fix known (Some x) None ts r s v w d shut e shut-too =
    let at : first_symbol ts ≡ symbol.Punctuator p.RightBracket = rw e at shut-too.symbol in
    absurd (no_expression known 2 x ts r (symbol.Punctuator p.RightBracket) at (λ self m low. refl) d (ends_at 2 shut (omega arith)))
length_fix known (Some x) (Some y) ts r s v w d shut e shut-too =
    let same = one_expression x y known 2 ts r s d (ends_at 2 shut (omega arith)) e (ends_at 2 shut-too (omega arith)) in (ap Some same.0, same.1)

suffix_fix : (known : List (List ℕ)) (x y : SuffixView) (ts r s : List Terminal) → IsSuffix known x ts r → IsSuffix known y ts s → (x ≡ y) × (r ≡ s)
suffix_fix known x y ts r s d e =
    let inside : d.inside ≡ e.inside = d.opens.behind ∙ sym e.opens.behind in
    let from : Length known y.length d.inside e.last = subst (λ (v : List Terminal). Length known y.length v e.last) (sym inside) e.length in
    let same = length_fix known x.length y.length d.inside d.last e.last r s d.length d.closes from e.closes in
    (λ i. record { at = (d.place ∙ sym e.place) i; length = same.0 i }, next d.closes e.closes same.1)

abbrev pub Suffixes : List (List ℕ) → List SuffixView → List Terminal → List Terminal → Type 0
Suffixes known xs ts r = Chain (IsSuffix known) xs ts r

no_suffix : (ts : List Terminal) → first_symbol ts ≡ symbol.Punctuator p.LeftBracket → Ends ts → ⊥
no_suffix ts at end = let h : false ≡ true = rw at at end in cc

suffixes_fix : (known : List (List ℕ)) (xs ys : List SuffixView) (ts r s : List Terminal) → Suffixes known xs ts r → Ends r → Suffixes known ys ts s → Ends s → (xs ≡ ys) × (r ≡ s)
suffixes_fix known [] [] ts r s d er e es = (refl, d ∙ sym e)
suffixes_fix known [] (y ∷ ys) ts r s d er (a, one, more) es = absurd (no_suffix ts one.opens.symbol (rw d at er))
suffixes_fix known (x ∷ xs) [] ts r s (a, one, more) er e es = absurd (no_suffix ts one.opens.symbol (rw e at es))
suffixes_fix known (x ∷ xs) (y ∷ ys) ts r s (a, one, more) er (b, two, others) es =
    let same = suffix_fix known x y ts a b one two in
    let from : Suffixes known ys a s = subst (λ (v : List Terminal). Suffixes known ys v s) (sym same.1) others in
    let tail = suffixes_fix known xs ys a r s more er from es in
    (λ i. same.0 i ∷ tail.0 i, tail.1)

-- ---- between the stars and the brackets

-- no star, and an identifier exactly where there is a name; no `(`
pub record CoreFront (ts : List Terminal) (named : Bool) : Type 0 where
  pub star : NoStar ts
  pub name : is_identifier (first_symbol ts) ≡ named
  pub parenthesis : is_left_parenthesis (first_symbol ts) ≡ false

pub suffixes_front : (known : List (List ℕ)) (xs : List SuffixView) (ts r : List Terminal) → Suffixes known xs ts r → Ends r → CoreFront ts false
suffixes_front known [] ts r d er =
    let end : Ends ts = rw d at er in record { star = no_star_end ts end; name = end_identifier (first_symbol ts) end; parenthesis = end_parenthesis (first_symbol ts) end }
suffixes_front known (x ∷ xs) ts r (a, one, more) er = record { star = no_star one.opens.symbol refl; name = rw one.opens.symbol refl; parenthesis = rw one.opens.symbol refl }

core_front : (known : List (List ℕ)) (name : Option NameView) (xs : List SuffixView) (ts a r : List Terminal) → Core known name ts a → Suffixes known xs a r → Ends r → CoreFront ts (is_some name)
core_front known None xs ts a r same d er = suffixes_front known xs ts r (rw same at d) er
core_front known (Some n) xs ts a r is d er = record { star = record { star = rw is.symbol refl; qualifier = rw is.symbol refl }; name = rw is.symbol refl; parenthesis = rw is.symbol refl }

core_fix : (known : List (List ℕ)) (n m : Option NameView) (ts a b : List Terminal) → is_some n ≡ is_some m → Core known n ts a → Core known m ts b → (n ≡ m) × (a ≡ b)
core_fix known None None ts a b alike d e = (refl, d ∙ sym e)
core_fix known None (Some m) ts a b alike d e = cc
core_fix known (Some n) None ts a b alike d e = cc
core_fix known (Some n) (Some m) ts a b alike d e = let same = names_fix n m d e in (ap Some same.0, same.1)

-- ---- layers

no_parenthesis : {ts a : List Terminal} {b : Bool} → IsSign p.LeftParenthesis ts a → CoreFront ts b → ⊥
no_parenthesis {ts} {a} {b} opens front = let h : true ≡ false = rw opens.symbol at front.parenthesis in cc

pub layers_fix : (inner others : List DeclaratorLayerView) (x y : DeclaratorLayerView) (known : List (List ℕ)) (n m : Option NameView) (ts r s : List Terminal) → Layers inner x known n ts r → Ends r → Layers others y known m ts s → Ends s → (x ≡ y) × (inner ≡ others) × (n ≡ m) × (r ≡ s)
layers_fix [] [] x y known n m ts r s (some, a, b, star, core, all) er (some-too, c, d, star-too, core-too, all-too) es =
    let front = core_front known n x.arrays a b r core all er in
    let front-too = core_front known m y.arrays c d s core-too all-too es in
    let one = stars_fix x.stars y.stars ts a c star front.star star-too front-too.star in
    let alike : is_some n ≡ is_some m = sym front.name ∙ ap (λ (v : List Terminal). is_identifier (first_symbol v)) one.1 ∙ front-too.name in
    let two = core_fix known n m a b d alike core (subst (λ (v : List Terminal). Core known m v d) (sym one.1) core-too) in
    let last = suffixes_fix known x.arrays y.arrays b r s all er (subst (λ (v : List Terminal). Suffixes known y.arrays v s) (sym two.1) all-too) es in
    (λ i. record { stars = one.0 i; arrays = last.0 i }, refl, two.0, last.1)
layers_fix [] (w ∷ ws) x y known n m ts r s (some, a, b, star, core, all) er (c, d, e, f, star-too, opens, inside, shut, all-too) es =
    let front = core_front known n x.arrays a b r core all er in
    let one = stars_fix x.stars y.stars ts a c star front.star star-too (no_star opens.symbol refl) in
    absurd (no_parenthesis (subst (λ (v : List Terminal). IsSign p.LeftParenthesis v d) (sym one.1) opens) front)
layers_fix (w ∷ ws) [] x y known n m ts r s (c, d, e, f, star, opens, inside, shut, all) er (some, a, b, star-too, core, all-too) es =
    let front = core_front known m y.arrays a b s core all-too es in
    let one = stars_fix x.stars y.stars ts c a star (no_star opens.symbol refl) star-too front.star in
    absurd (no_parenthesis (subst (λ (v : List Terminal). IsSign p.LeftParenthesis v d) one.1 opens) front)
layers_fix (w ∷ ws) (v ∷ vs) x y known n m ts r s (a, b, c, d, star, opens, inside, shut, all) er (e, f, g, h, star-too, opens-too, inside-too, shut-too, all-too) es =
    let one = stars_fix x.stars y.stars ts a e star (no_star opens.symbol refl) star-too (no_star opens-too.symbol refl) in
    let from : Layers vs v known m b g = subst (λ (z : List Terminal). Layers vs v known m z g) (sym (next opens opens-too one.1)) inside-too in
    let two = layers_fix ws vs w v known n m b c g inside (ends_by shut refl) from (ends_by shut-too refl) in
    let last = suffixes_fix known x.arrays y.arrays d r s all er (subst (λ (z : List Terminal). Suffixes known y.arrays z s) (sym (next shut shut-too two.3)) all-too) es in
    (λ i. record { stars = one.0 i; arrays = last.0 i }, λ i. two.0 i ∷ two.1 i, two.2, last.1)

shape_fix : (xs ys : List DeclaratorLayerView) (known : List (List ℕ)) (n m : Option NameView) (ts r s : List Terminal) → Shape xs known n ts r → Ends r → Shape ys known m ts s → Ends s → (xs ≡ ys) × (n ≡ m) × (r ≡ s)
shape_fix [] ys known n m ts r s d er e es = absurd d
shape_fix (x ∷ xs) [] known n m ts r s d er e es = absurd e
shape_fix (x ∷ xs) (y ∷ ys) known n m ts r s d er e es = let same = layers_fix xs ys x y known n m ts r s d er e es in (λ i. same.0 i ∷ same.1 i, same.2, same.3)

pub declarator_fix : (known : List (List ℕ)) (x : DeclaratorView) → Fixes (IsDeclarator known) Ends x
declarator_fix known x y ts r s d er e es =
    let same = shape_fix x.layers y.layers known x.name y.name ts r s d er e es in (λ i. record { layers = same.0 i; name = same.1 i }, same.2)
