-- The stars of abstract declarators are read.
use Rattle.std.proofs.Common.{◌≡◌, ℕ, zero, suc, ◌+◌, ◌≤◌, true, false, List, [], ◌∷◌, length, refl, arith}
use Rattle.c_parser_tokens.specs.declared.terminals.Terminal.{Terminal}
use Rattle.c_parser_expression_grammar.specs.Fronts.{first_symbol, behind_first}
use Rattle.c_parser_expression_grammar.specs.TypeNames.{is_pointer_qualifier, Qualifiers, Stars}
use Rattle.c_parser_expression_grammar.specs.TypeNameReaders.{is_star, qualifiers, stars}
use Rattle.c_parser_theorems.proofs.complete_expressions.Shrinking.{length_behind}

-- no star and no qualifier of one
pub record NoStar (ts : List Terminal) : Type 0 where
  pub star : is_star (first_symbol ts) ≡ false
  pub qualifier : is_pointer_qualifier (first_symbol ts) ≡ false

qualifiers_are : (q turns : ℕ) (ts rest : List Terminal) → Qualifiers q ts rest → is_pointer_qualifier (first_symbol rest) ≡ false → q ≤ turns → qualifiers turns ts ≡ (q, rest)
qualifiers_are zero zero ts rest all stop enough = rw all refl
qualifiers_are zero (suc turns) ts rest all stop enough = let here : is_pointer_qualifier (first_symbol ts) ≡ false = rw all at stop in rw (here, all) refl
qualifiers_are (suc q) zero ts rest all stop enough = absurd (omega arith)
qualifiers_are (suc q) (suc turns) ts rest (one, all) stop enough = let more = qualifiers_are q turns (behind_first ts) rest all stop (omega arith) in rw (one, more) refl

takes_one : (ts : List Terminal) → is_pointer_qualifier (first_symbol ts) ≡ true → length (behind_first ts) + 1 ≤ length ts
takes_one [] is = absurd (cc is)
takes_one (t ∷ ts) is = omega arith

qualifiers_few : (q : ℕ) (ts rest : List Terminal) → Qualifiers q ts rest → q + length rest ≤ length ts
qualifiers_few zero ts rest all = let same : rest ≡ ts = all in rw same (omega arith)
qualifiers_few (suc q) ts rest (one, all) = let first = takes_one ts one in let more = qualifiers_few q (behind_first ts) rest all in omega arith

behind_star : (qs : List ℕ) (ts rest : List Terminal) → Stars qs ts rest → NoStar rest → is_pointer_qualifier (first_symbol ts) ≡ false
behind_star [] ts rest all stop = rw all at stop.qualifier
behind_star (q ∷ qs) ts rest (a, star, all) stop = rw star.star.symbol refl

pub stars_are : (qs : List ℕ) (turns : ℕ) (ts rest : List Terminal) → Stars qs ts rest → NoStar rest → length qs ≤ turns → stars turns ts ≡ record { stars = qs; rest = rest }
stars_are [] zero ts rest all stop enough = rw all refl
stars_are [] (suc turns) ts rest all stop enough = let here : is_star (first_symbol ts) ≡ false = rw all at stop.star in rw (here, all) refl
stars_are (q ∷ qs) zero ts rest all stop enough = absurd (omega arith)
stars_are (q ∷ qs) (suc turns) ts rest (a, star, all) stop enough =
    let from : Qualifiers q (behind_first ts) a = rw star.star.behind at star.qualified in
    let few = qualifiers_few q (behind_first ts) a from in
    let one = qualifiers_are q (length (behind_first ts)) (behind_first ts) a from (behind_star qs a rest all stop) (omega arith) in
    let more = stars_are qs turns a rest all stop (omega arith) in
    rw (star.star.symbol, one, more) refl

pub stars_few : (qs : List ℕ) (ts rest : List Terminal) → Stars qs ts rest → length qs + length rest ≤ length ts
stars_few [] ts rest all = let same : rest ≡ ts = all in rw same (omega arith)
stars_few (q ∷ qs) ts rest (a, star, all) =
    let first = length_behind ts star.behind star.star in
    let second = qualifiers_few q star.behind a star.qualified in
    let more = stars_few qs a rest all in
    omega arith
