-- A piece that is read has at least one byte, and no more than there are.
use Rattle.std.proofs.Common.{◌≡◌, ◌≤◌, ◌<◌, ◌+◌, ℕ, zero, suc, Bool, true, false, ◌&&◌, ◌||◌, ◌==◌, List, [], ◌∷◌, length, Option, Some, None, refl, subst, arith, if◌then◌else◌, drop, length-drop}
use Rattle.std.proofs.lemmas.Bool.{eqb-true}
use Rattle.std.proofs.lemmas.Bool.Decides.{nat_tests}
use Rattle.cc_base.specs.declared.lexemes.Kind.TheVariants.{Number, Char, Str, Punct}
use Rattle.c_lexer.specs.declared.byte_class.Class.{Class}
use Rattle.c_lexer.specs.declared.byte_class.Class.TheVariants.{Letter, Digit, Dot, Quote, Apostrophe, Slash, Less, LineEnd, Blank, Other}
use Rattle.c_lexer.specs.declared.pieces.Shape.{Shape}
use Rattle.c_lexer.specs.declared.pieces.Shape.TheVariants as shape
use Rattle.c_lexer.specs.declared.pieces.Piece.{Piece}
use Rattle.c_lexer.specs.declared.pieces.Context.{Context}
use Rattle.c_lexer.specs.declared.pieces.Context.TheVariants as context
use Rattle.c_lexer.specs.ByteClasses.{is_word, goes_on, begins, begins_digit, is_no_line_end, class_of}
use Rattle.c_lexer.specs.Punctuators.{is_single, is_doubled, is_assigned, shifted_length, punctuator_length}
use Rattle.c_lexer.specs.Reading.{prefix_length, number_length, close_at, header_end, comment_end, piece_of, rest_of, head_of, punctuator_piece, punctuator_at, longer_piece, slash_at, plain_at, or_else, header_at, piece_by, piece_at}

-- a fact of a choice, from each side
pub cond_both : {A : Type 0} (t : Bool) (x y : A) (P : A → Type 0) → (t ≡ true → P x) → (t ≡ false → P y) → P (if t then x else y)
cond_both true x y P f g = f refl
cond_both false x y P f g = g refl

pub both_true : (p q : Bool) → (p && q) ≡ true → (p ≡ true) × (q ≡ true)
both_true true true h = (refl, refl)
both_true true false h = absurd (cc)
both_true false q h = absurd (cc)

abbrev pub AtMost : ℕ → Option ℕ → Type 0
AtMost m None = Unit {0}
AtMost m (Some n) = n ≤ m

abbrev pub Fitting : ℕ → Option Piece → Type 0
Fitting m None = Unit {0}
Fitting m (Some p) = (1 ≤ p.size) × (p.size ≤ m)

at_most : (m n : ℕ) (o : Option ℕ) → m ≡ n → AtMost m o → AtMost n o
at_most m n o e h = subst (λ v. AtMost v o) e h

pub prefix_fits : (p : ℕ → Bool) (z : List ℕ) → prefix_length p z ≤ length z
prefix_fits p [] = omega arith
prefix_fits p (b ∷ z) = cond_both (p b) (suc (prefix_length p z)) 0 (λ v. v ≤ suc (length z)) (λ i. let h = prefix_fits p z in omega arith) (λ i. omega arith)

pub number_fits : (last : ℕ) (z : List ℕ) → number_length last z ≤ length z
number_fits last [] = omega arith
number_fits last (b ∷ z) = cond_both (goes_on last b) (suc (number_length b z)) 0 (λ v. v ≤ suc (length z)) (λ i. let h = number_fits b z in omega arith) (λ i. omega arith)

close_fits : (q : ℕ) (e x : Bool) (at : ℕ) (z : List ℕ) → AtMost (at + length z) (close_at q e x at z)
close_fits q e x at [] = tt
close_fits q e x at (b ∷ z) =
    let same : suc at + length z ≡ at + suc (length z) = omega arith in
    cond_both (b == 10) None _ (AtMost (at + suc (length z))) (λ i. tt)
    (λ i. cond_both x (close_at q e false (suc at) z) _ (AtMost (at + suc (length z))) (λ j. at_most _ _ (close_at q e false (suc at) z) same (close_fits q e false (suc at) z))
    (λ j. cond_both (b == q) (Some (suc at)) (close_at q e (e && b == 92) (suc at) z) (AtMost (at + suc (length z))) (λ k. omega arith)
    (λ k. at_most _ _ (close_at q e (e && b == 92) (suc at) z) same (close_fits q e (e && b == 92) (suc at) z))))

comment_fits : (x : Bool) (at : ℕ) (z : List ℕ) → AtMost (at + length z) (comment_end x at z)
comment_fits x at [] = tt
comment_fits x at (b ∷ z) =
    let same : suc at + length z ≡ at + suc (length z) = omega arith in
    cond_both (x && b == 47) (Some (suc at)) (comment_end (b == 42) (suc at) z) (AtMost (at + suc (length z))) (λ k. omega arith)
    (λ k. at_most _ _ (comment_end (b == 42) (suc at) z) same (comment_fits (b == 42) (suc at) z))

header_fits : (q : ℕ) (z : List ℕ) → AtMost (length z) (header_end q z)
header_fits q z = cond_both (begins q z) None (close_at q false false 0 z) (AtMost (length z)) (λ i. tt) (λ i. at_most _ _ (close_at q false false 0 z) (omega arith) (close_fits q false false 0 z))

longer_fits : (p : Shape) (more m n : ℕ) (o : Option ℕ) → 1 ≤ more → m + more ≤ n → AtMost m o → Fitting n (longer_piece p more o)
longer_fits p more m n None k e h = tt
longer_fits p more m n (Some v) k e h = (omega arith, omega arith)

-- a punctuator of two bytes has a second one, and one of three a third
record Bounded (n m v : ℕ) : Type 0 where
  at_three : v ≤ 3
  one : n ≡ 0 → v ≤ 1
  two : m ≡ 0 → v ≤ 2

small : (n m v : ℕ) → v ≤ 1 → Bounded n m v
small n m v h = record { at_three = omega arith; one = λ e. h; two = λ e. omega arith }

two_then : (n m v : ℕ) → (n ≡ 0 → ⊥) → v ≤ 2 → Bounded n m v
two_then n m v f h = record { at_three = omega arith; one = λ e. absurd (f e); two = λ e. h }

three_then : (n m v : ℕ) → (n ≡ 0 → ⊥) → (m ≡ 0 → ⊥) → v ≤ 3 → Bounded n m v
three_then n m v f g h = record { at_three = h; one = λ e. absurd (f e); two = λ e. absurd (g e) }

doubled_some : (b n : ℕ) → is_doubled b ≡ true → (n == b || n == 61) ≡ true → n ≡ 0 → ⊥
doubled_some b n h k e = grind (arith, nat_tests)

arrow_some : (n : ℕ) → (n == 62 || n == 45 || n == 61) ≡ true → n ≡ 0 → ⊥
arrow_some n k e = grind (arith, nat_tests)

less_some : (b n : ℕ) → (b == 60 || b == 62) ≡ true → (n == b) ≡ true → n ≡ 0 → ⊥
less_some b n h k e = grind (arith, nat_tests)

bounded : (b n m : ℕ) → Bounded n m (punctuator_length b n m)
unfolding punctuator_length
bounded b n m =
    let P : ℕ → Type 0 = Bounded n m in
    cond_both (is_single b) 1 _ P (λ i. small n m 1 (omega arith))
    (λ i. cond_both (b == 46) (if n == 46 && m == 46 then 3 else 1) _ P (λ j. cond_both (n == 46 && m == 46) 3 1 P
    (λ k. let w = both_true _ _ k in three_then n m 3 (λ e. let x = eqb-true n 46 w.0 in omega arith) (λ e. let x = eqb-true m 46 w.1 in omega arith) (omega arith)) (λ k. small n m 1 (omega arith)))
    (λ j. cond_both (b == 45) (if n == 62 || n == 45 || n == 61 then 2 else 1) _ P (λ k. cond_both (n == 62 || n == 45 || n == 61) 2 1 P (λ l. two_then n m 2 (arrow_some n l) (omega arith)) (λ l. small n m 1 (omega arith)))
    (λ k. cond_both (is_doubled b) (if n == b || n == 61 then 2 else 1) _ P (λ l. cond_both (n == b || n == 61) 2 1 P (λ o. two_then n m 2 (doubled_some b n l o) (omega arith)) (λ o. small n m 1 (omega arith)))
    (λ l. cond_both (is_assigned b) (if n == 61 then 2 else 1) _ P (λ o. cond_both (n == 61) 2 1 P (λ u. two_then n m 2 (λ e. let x = eqb-true n 61 u in omega arith) (omega arith)) (λ u. small n m 1 (omega arith)))
    (λ o. cond_both (b == 35) (if n == 35 then 2 else 1) _ P (λ u. cond_both (n == 35) 2 1 P (λ v. two_then n m 2 (λ e. let x = eqb-true n 35 v in omega arith) (omega arith)) (λ v. small n m 1 (omega arith)))
    (λ u. cond_both (b == 60 || b == 62) (shifted_length b n m) 0 P (λ v. cond_both (n == b) (if m == 61 then 3 else 2) (if n == 61 then 2 else 1) P
    (λ w. cond_both (m == 61) 3 2 P (λ x. three_then n m 3 (less_some b n v w) (λ e. let y = eqb-true m 61 x in omega arith) (omega arith)) (λ x. two_then n m 2 (less_some b n v w) (omega arith)))
    (λ w. cond_both (n == 61) 2 1 P (λ x. two_then n m 2 (λ e. let y = eqb-true n 61 x in omega arith) (omega arith)) (λ x. small n m 1 (omega arith))))
    (λ v. small n m 0 (omega arith))))))))

bounded_fits : (z : List ℕ) (v : ℕ) → Bounded (head_of z) (head_of (rest_of z)) v → v ≤ suc (length z)
bounded_fits [] v h = h.one refl
bounded_fits (x ∷ []) v h = h.two refl
bounded_fits (x ∷ (y ∷ z)) v h = let k = h.at_three in omega arith

punct_piece_fits : (m v : ℕ) → v ≤ m → Fitting m (punctuator_piece v)
punct_piece_fits m v h = cond_both (v == 0) None (Some (piece_of (shape.Token Punct) v)) (Fitting m) (λ i. tt) (λ i. (nonzero v i, h))
  where
    nonzero : (v : ℕ) → (v == 0) ≡ false → 1 ≤ v
    nonzero zero i = absurd (cc)
    nonzero (suc v) i = omega arith

pub punct_fits : (b : ℕ) (z : List ℕ) → Fitting (suc (length z)) (punctuator_at b z)
unfolding punctuator_at
punct_fits b z = punct_piece_fits (suc (length z)) (punctuator_length b (head_of z) (head_of (rest_of z))) (bounded_fits z _ (bounded b (head_of z) (head_of (rest_of z))))

rest_fits : (b : ℕ) (z : List ℕ) → begins b z ≡ true → suc (length (rest_of z)) ≤ length z
rest_fits b [] h = absurd (cc)
rest_fits b (x ∷ z) h = omega arith

slash_fits : (b : ℕ) (z : List ℕ) → Fitting (suc (length z)) (slash_at b z)
slash_fits b z = cond_both (begins 42 z) (longer_piece shape.Comment 2 (comment_end false 0 (rest_of z))) _ (Fitting (suc (length z)))
    (λ i. longer_fits shape.Comment 2 (length (rest_of z)) (suc (length z)) (comment_end false 0 (rest_of z)) (omega arith) (let h = rest_fits 42 z i in omega arith)
    (at_most _ _ (comment_end false 0 (rest_of z)) (omega arith) (comment_fits false 0 (rest_of z))))
    (λ i. cond_both (begins 47 z) (Some (piece_of shape.Comment (prefix_length is_no_line_end (rest_of z) + 2))) (punctuator_at b z) (Fitting (suc (length z)))
    (λ j. (omega arith, let h = rest_fits 47 z j in let k = prefix_fits is_no_line_end (rest_of z) in omega arith))
    (λ j. punct_fits b z))

literal_fits : (p : Shape) (b : ℕ) (z : List ℕ) → Fitting (suc (length z)) (longer_piece p 1 (close_at b true false 0 z))
literal_fits p b z = longer_fits p 1 (length z) (suc (length z)) (close_at b true false 0 z) (omega arith) (omega arith)
    (at_most _ _ (close_at b true false 0 z) (omega arith) (close_fits b true false 0 z))

number_piece_fits : (b : ℕ) (z : List ℕ) → Fitting (suc (length z)) (Some (piece_of (shape.Token Number) (number_length b z + 1)))
number_piece_fits b z = (omega arith, let h = number_fits b z in omega arith)

plain_fits : (k : Class) (b : ℕ) (z : List ℕ) → Fitting (suc (length z)) (plain_at k b z)
plain_fits Letter b z = (omega arith, let h = prefix_fits is_word z in omega arith)
plain_fits Digit b z = number_piece_fits b z
plain_fits Dot b z = cond_both (begins_digit z) (Some (piece_of (shape.Token Number) (number_length b z + 1))) (punctuator_at b z) (Fitting (suc (length z))) (λ i. number_piece_fits b z) (λ i. punct_fits b z)
plain_fits Quote b z = literal_fits (shape.Token Str) b z
plain_fits Apostrophe b z = literal_fits (shape.Token Char) b z
plain_fits Slash b z = slash_fits b z
plain_fits LineEnd b z = (omega arith, omega arith)
plain_fits Blank b z = (omega arith, omega arith)
plain_fits Less b z = punct_fits b z
plain_fits Other b z = punct_fits b z

header_piece_fits : (k : Class) (z : List ℕ) → Fitting (suc (length z)) (header_at k z)
header_piece_fits Quote z = longer_fits _ 1 (length z) (suc (length z)) (header_end 34 z) (omega arith) (omega arith) (header_fits 34 z)
header_piece_fits Less z = longer_fits _ 1 (length z) (suc (length z)) (header_end 62 z) (omega arith) (omega arith) (header_fits 62 z)
header_piece_fits Letter z = tt
header_piece_fits Digit z = tt
header_piece_fits Dot z = tt
header_piece_fits Apostrophe z = tt
header_piece_fits Slash z = tt
header_piece_fits LineEnd z = tt
header_piece_fits Blank z = tt
header_piece_fits Other z = tt

else_fits : (m : ℕ) (o u : Option Piece) → Fitting m o → Fitting m u → Fitting m (or_else o u)
else_fits m None u h k = k
else_fits m (Some p) u h k = h

by_fits : (c : Context) (k : Class) (b : ℕ) (z : List ℕ) → Fitting (suc (length z)) (piece_by c k b z)
by_fits context.AfterInclude k b z = else_fits _ (header_at k z) (plain_at k b z) (header_piece_fits k z) (plain_fits k b z)
by_fits context.LineStart k b z = plain_fits k b z
by_fits context.AfterHash k b z = plain_fits k b z
by_fits context.Plain k b z = plain_fits k b z

pub at_fits : (c : Context) (z : List ℕ) → Fitting (length z) (piece_at c z)
unfolding piece_at
at_fits c [] = tt
at_fits c (b ∷ z) = by_fits c (class_of b) b z

pub size_fits : (c : Context) (z : List ℕ) (p : Piece) → piece_at c z ≡ Some p → (1 ≤ p.size) × (p.size ≤ length z)
size_fits c z p e = subst (Fitting (length z)) e (at_fits c z)

-- behind a piece fewer bytes are left
pub fewer_left : (n : ℕ) (s t : List ℕ) → 1 ≤ n → n ≤ length s → t ≡ drop n s → length t < length s
fewer_left n s t h k e = let w = length-drop n s in rw e (omega arith)
