-- The brackets of abstract declarators are read, with their lengths.
use Rattle.std.proofs.Common.{◌≡◌, ℕ, zero, suc, ◌+◌, ◌≤◌, ◌<◌, Bool, true, false, cond, List, [], ◌∷◌, ◌++◌, length, Some, refl, arith, ap, ◌∙◌, sym}
use Rattle.c_layout.specs.SyntaxTrees.{Trees, End, More}
use Rattle.c_layout.specs.declared.syntax_tree.expressions.Brackets.{Brackets}
use Rattle.c_parser_tokens.specs.declared.terminals.Terminal.{Terminal}
use Rattle.c_parser_tokens.specs.declared.terminals.Punctuator.TheVariants as p
use Rattle.c_parser_expression_grammar.specs.Expressions.{Derives, DeriveEach, heights_of}
use Rattle.c_parser_expression_grammar.specs.Fronts.{first_symbol, first_place, behind_first, IsSign}
use Rattle.c_parser_expression_grammar.specs.Spans.{Span}
use Rattle.c_parser_expression_grammar.specs.TypeNames.{greatest, Length, Arrays, length_count}
use Rattle.c_parser_theorems.proofs.unique_expressions.Levels.{ends_at}
use Rattle.c_parser_expression_grammar.specs.Readings.{is_left_bracket}
use Rattle.c_parser_expression_grammar.specs.ExpressionReaders.{NameReaders, inside}
use Rattle.c_parser_theorems.specs.CompleteExpressions.Found.{AllFound}
use Rattle.c_parser_expression_grammar.specs.TypeNameReaders.{GotArrays, pair_at, pair, pairs}
use Rattle.c_parser_theorems.proofs.complete_expressions.Lifts.{found_inside}
use Rattle.c_parser_theorems.proofs.complete_expressions.Begins.{no_bracket}
use Rattle.c_parser_theorems.proofs.complete_expressions.Shrinking.{AllShrink, IsNoLonger, length_behind}

abbrev pub gathered : List Brackets → Trees → List Terminal → GotArrays
gathered bs es rest = record { arrays = bs; lengths = es; height = greatest (heights_of es); rest = rest }

-- each pair has no length, or one
pub length_one : (filled : Bool) (spans : List Span) (ts rest : List Terminal) → Length filled spans ts rest → length spans ≡ cond filled 1 0
length_one false spans ts rest (none, same) = rw none refl
length_one true spans ts rest one = rw one refl

length_append : (xs ys : List Span) → length (xs ++ ys) ≡ length xs + length ys
length_append [] ys = omega arith
length_append (x ∷ xs) ys = let h = length_append xs ys in omega arith

pub lengths_counted : (bs : List Brackets) (spans : List Span) (ts rest : List Terminal) → Arrays bs spans ts rest → length spans ≡ length_count bs
lengths_counted [] spans ts rest (none, same) = rw none refl
lengths_counted (b ∷ bs) spans ts rest (own, others, parts, a, is, more) =
    let one = length_one b.has_length own is.inside is.last is.length in
    let tail = lengths_counted bs others a rest more in
    let both = length_append own others in
    rw parts (both ∙ (ap (λ (n : ℕ). n + length others) one ∙ ap (λ (n : ℕ). cond b.has_length 1 0 + n) tail))

head_is : (x y : Span) (xs ys : List Span) → x ∷ xs ≡ y ∷ ys → x ≡ y
head_is x y xs ys same = cc

tail_is : (x y : Span) (xs ys : List Span) → x ∷ xs ≡ y ∷ ys → xs ≡ ys
tail_is x y xs ys same = cc

pair_is : (bd : Brackets) (ts : List Terminal) (filled : Bool) → bd.place ≡ first_place ts → bd.has_length ≡ filled → bd ≡ pair_at ts filled
pair_is bd ts filled place has = λ i. record { place = place i; has_length = has i }

-- one pair and those behind it, which are read
pair_read : (names : NameReaders) (known : List (List ℕ)) (b : ℕ) (filled : Bool) (bd : Brackets) (bs : List Brackets) (es : Trees) (own others : List Span) (turns : ℕ) (ts opened last a rest : List Terminal) →
    AllFound names known es → DeriveEach es known 2 (own ++ others) → bd ≡ pair_at ts filled → IsSign p.LeftBracket ts opened → Length filled own opened last → IsSign p.RightBracket last a → greatest (heights_of es) < b →
    ((more : Trees) → AllFound names known more → DeriveEach more known 2 others → greatest (heights_of more) < b → pairs (inside names known b) turns a ≡ Some (gathered bs more rest)) →
    pair (inside names known b) ts (pairs (inside names known b) turns) ≡ Some (gathered (bd ∷ bs) es rest)
pair_read names known b false bd bs es own others turns ts opened last a rest found each is opens (none, same) shut small onward =
    let left : DeriveEach es known 2 others = rw none at each in
    let shut-at : IsSign p.RightBracket (behind_first ts) a = rw opens.behind at (rw same at shut) in
    let more = onward es found left small in
    let more-at : pairs (inside names known b) turns (behind_first (behind_first ts)) ≡ Some (gathered bs es rest) = rw shut-at.behind at more in
    rw (shut-at.symbol, more-at, is) refl
pair_read names known b true bd bs End own others turns ts opened last a rest found none is opens one shut small onward =
    let empty : (record { from = opened; to = last }) ∷ others ≡ [] = rw one at none in
    absurd (cc empty)
pair_read names known b true bd bs (More e es) own others turns ts opened last a rest (of-e, all) (s, further, parts, d, each) is opens one shut small onward =
    let same : (record { from = opened; to = last }) ∷ others ≡ s ∷ further = rw one at parts in
    let span : record { from = opened; to = last } ≡ s = head_is (record { from = opened; to = last }) s others further same in
    let left : DeriveEach es known 2 others = rw (sym (tail_is (record { from = opened; to = last }) s others further same)) at each in
    let here : Derives e known 2 opened last = rw (sym span) at d in
    let from : Derives e known 2 (behind_first ts) last = rw opens.behind at here in
    let off = no_bracket e known 2 (behind_first ts) last from in
    let first = (found_inside names known e of-e b).conditional (behind_first ts) last from (ends_at 2 shut (omega arith)) (omega arith) in
    let more = onward es all left (omega arith) in
    let more-at : pairs (inside names known b) turns (behind_first last) ≡ Some (gathered bs es rest) = rw shut.behind at more in
    rw (off, first, shut.symbol, more-at, is) refl

no_trees : (known : List (List ℕ)) (es : Trees) → DeriveEach es known 2 [] → es ≡ End
no_trees known End none = refl
no_trees known (More e es) (s, others, parts, d, each) = absurd (cc parts)

-- lengths stand in brackets alone
abbrev pub Fits : List Brackets → Trees → ℕ → Type 0
Fits [] es b = Unit {0}
Fits (bd ∷ bs) es b = greatest (heights_of es) < b

pub fits_all : (bs : List Brackets) (es : Trees) (b : ℕ) → greatest (heights_of es) < b → Fits bs es b
fits_all [] es b small = tt
fits_all (bd ∷ bs) es b small = small

pub arrays_are : (names : NameReaders) (known : List (List ℕ)) (b : ℕ) (bs : List Brackets) (es : Trees) (spans : List Span) (turns : ℕ) (ts rest : List Terminal) → AllFound names known es → DeriveEach es known 2 spans → Arrays bs spans ts rest →
    is_left_bracket (first_symbol rest) ≡ false → Fits bs es b → length bs ≤ turns → pairs (inside names known b) turns ts ≡ Some (gathered bs es rest)
arrays_are names known b [] es spans zero ts rest found each (none, same) stop small enough = let empty = no_trees known es (rw none at each) in rw (empty, same) refl
arrays_are names known b [] es spans (suc turns) ts rest found each (none, same) stop small enough =
    let empty = no_trees known es (rw none at each) in
    let here : is_left_bracket (first_symbol ts) ≡ false = rw same at stop in
    rw (here, empty, same) refl
arrays_are names known b (bd ∷ bs) es spans zero ts rest found each all stop small enough = absurd (omega arith)
arrays_are names known b (bd ∷ bs) es spans (suc turns) ts rest found each (own, others, parts, a, is, more) stop small enough =
    let all : DeriveEach es known 2 (own ++ others) = rw parts at each in
    let one = pair_read names known b bd.has_length bd bs es own others turns ts is.inside is.last a rest found all (pair_is bd ts bd.has_length is.place refl) is.opens is.length is.closes small (λ left of-left each-left small-left. arrays_are names known b bs left others turns a rest of-left each-left more stop (fits_all bs left b small-left) (omega arith)) in
    rw is.opens.symbol one

-- there are no more pairs than terminals
length_fits : (filled : Bool) (spans : List Span) (ts rest : List Terminal) → AllShrink spans → Length filled spans ts rest → IsNoLonger rest ts
length_fits false spans ts rest all (none, same) = rw same (omega arith)
length_fits true spans ts rest all one = let here : AllShrink (record { from = ts; to = rest } ∷ []) = rw one at all in here.0

left_shrinks : (xs ys : List Span) → AllShrink (xs ++ ys) → AllShrink xs × AllShrink ys
left_shrinks [] ys all = (tt, all)
left_shrinks (x ∷ xs) ys (one, more) = let h = left_shrinks xs ys more in ((one, h.0), h.1)

pub arrays_few : (bs : List Brackets) (spans : List Span) (ts rest : List Terminal) → AllShrink spans → Arrays bs spans ts rest → length bs + length rest ≤ length ts
arrays_few [] spans ts rest all (none, same) = rw same (omega arith)
arrays_few (bd ∷ bs) spans ts rest all (own, others, parts, a, is, more) =
    let split = left_shrinks own others (rw parts at all) in
    let one = length_behind ts is.inside is.opens in
    let two = length_fits bd.has_length own is.inside is.last split.0 is.length in
    let three = length_behind is.last a is.closes in
    let tail = arrays_few bs others a rest split.1 more in
    omega arith
