-- What is read is a piece.
use Rattle.std.proofs.Common.{◌≡◌, ◌≤◌, ◌+◌, ℕ, zero, suc, Bool, true, false, not, ◌&&◌, ◌||◌, ◌==◌, List, [], ◌∷◌, take, Option, Some, None, refl, sym, ◌∙◌, ap, subst, arith, if◌then◌else◌, inl, inr, ◌⊎◌}
use Rattle.std.specs.List.{list_all}
use Rattle.std.proofs.lemmas.Bool.{eqb-true, ne_eqb}
use Rattle.cc_base.specs.declared.lexemes.Kind.TheVariants.{Number, Char, Str, Punct, HeaderName}
use Rattle.c_lexer.specs.declared.byte_class.Class.{Class}
use Rattle.c_lexer.specs.declared.byte_class.Class.TheVariants.{Letter, Digit, Dot, Quote, Apostrophe, Slash, Less, LineEnd, Blank, Other}
use Rattle.c_lexer.specs.declared.pieces.Shape.{Shape}
use Rattle.c_lexer.specs.declared.pieces.Shape.TheVariants as shape
use Rattle.c_lexer.specs.declared.pieces.Piece.{Piece}
use Rattle.c_lexer.specs.ByteClasses.{is_word, is_digit, goes_on, begins, begins_digit, is_no_line_end}
use Rattle.c_lexer.specs.Pieces.{runs_on, closes, closes_header, ends_comment, is_piece_by}
use Rattle.c_lexer.specs.Reading.{prefix_length, number_length, close_at, header_end, comment_end, piece_of, rest_of, punctuator_piece, punctuator_at, longer_piece, slash_at, plain_at, header_at}
use Rattle.c_lexer.proofs.Sizes.{cond_both}
use Rattle.c_lexer.proofs.Puncts.{Spelled, spelled_is}

pub if_true : {A : Type 0} (t : Bool) (x y : A) → t ≡ true → (if t then x else y) ≡ x
if_true true x y h = refl
if_true false x y h = absurd (cc)

pub if_false : {A : Type 0} (t : Bool) (x y : A) → t ≡ false → (if t then x else y) ≡ y
if_false true x y h = absurd (cc)
if_false false x y h = refl

pub and_true : (p q : Bool) → p ≡ true → q ≡ true → (p && q) ≡ true
and_true true true h k = refl
and_true true false h k = cc
and_true false q h k = absurd (cc)

pub runs_is : (p : ℕ → Bool) (s : List ℕ) → list_all p (take (prefix_length p s) s) ≡ true
runs_is p [] = refl
runs_is p (b ∷ s) = cond_both (p b) (suc (prefix_length p s)) 0 (λ n. list_all p (take n (b ∷ s)) ≡ true)
    (λ i. and_true (p b) _ i (runs_is p s)) (λ i. refl)

number_is : (last : ℕ) (s : List ℕ) → runs_on last (take (number_length last s) s) ≡ true
number_is last [] = refl
number_is last (b ∷ s) = cond_both (goes_on last b) (suc (number_length b s)) 0 (λ n. runs_on last (take n (b ∷ s)) ≡ true)
    (λ i. and_true (goes_on last b) _ i (number_is b s)) (λ i. refl)

-- a literal is closed by what is read of it
abbrev ClosesIf : ℕ → Bool → Bool → ℕ → List ℕ → Option ℕ → Type 0
ClosesIf q e x at s None = Unit {0}
ClosesIf q e x at s (Some n) = (m : ℕ) × (n ≡ at + m) × (closes q e x (take m s) ≡ true)

closes_more : (q : ℕ) (e x y : Bool) (at b : ℕ) (s : List ℕ) (o : Option ℕ) → ((t : List ℕ) → closes q e x (b ∷ t) ≡ closes q e y t) → ClosesIf q e y (suc at) s o → ClosesIf q e x at (b ∷ s) o
closes_more q e x y at b s None f h = tt
closes_more q e x y at b s (Some n) f h = (suc h.0, omega (arith, h.1), f (take h.0 s) ∙ h.2)

close_is : (q : ℕ) (e x : Bool) (at : ℕ) (s : List ℕ) → ClosesIf q e x at s (close_at q e x at s)
close_is q e x at [] = tt
close_is q e x at (b ∷ s) =
    let P : Option ℕ → Type 0 = ClosesIf q e x at (b ∷ s) in
    cond_both (b == 10) None _ P (λ i. tt)
    (λ i. cond_both x (close_at q e false (suc at) s) _ P
    (λ j. closes_more q e x false at b s _ (λ t. if_false _ _ _ i ∙ if_true _ _ _ j) (close_is q e false (suc at) s))
    (λ j. cond_both (b == q) (Some (suc at)) (close_at q e (e && b == 92) (suc at) s) P
    (λ k. (1, omega arith, if_false _ _ _ i ∙ (if_false _ _ _ j ∙ if_true _ _ _ k)))
    (λ k. closes_more q e x (e && b == 92) at b s _ (λ t. if_false _ _ _ i ∙ (if_false _ _ _ j ∙ if_false _ _ _ k)) (close_is q e (e && b == 92) (suc at) s))))

abbrev EndsIf : Bool → ℕ → List ℕ → Option ℕ → Type 0
EndsIf x at s None = Unit {0}
EndsIf x at s (Some n) = (m : ℕ) × (n ≡ at + m) × (ends_comment x (take m s) ≡ true)

ends_more : (x y : Bool) (at b : ℕ) (s : List ℕ) (o : Option ℕ) → ((t : List ℕ) → ends_comment x (b ∷ t) ≡ ends_comment y t) → EndsIf y (suc at) s o → EndsIf x at (b ∷ s) o
ends_more x y at b s None f h = tt
ends_more x y at b s (Some n) f h = (suc h.0, omega (arith, h.1), f (take h.0 s) ∙ h.2)

comment_is : (x : Bool) (at : ℕ) (s : List ℕ) → EndsIf x at s (comment_end x at s)
comment_is x at [] = tt
comment_is x at (b ∷ s) = cond_both (x && b == 47) (Some (suc at)) (comment_end (b == 42) (suc at) s) (EndsIf x at (b ∷ s))
    (λ i. (1, omega arith, if_true _ _ _ i))
    (λ i. ends_more x (b == 42) at b s _ (λ t. if_false _ _ _ i) (comment_is (b == 42) (suc at) s))

-- the piece that is read of `b ∷ z` is one, where `b` has this class
abbrev pub IsSound : Class → ℕ → List ℕ → Option Piece → Type 0
IsSound k b z None = Unit {0}
IsSound k b z (Some p) = (m : ℕ) × (p.size ≡ suc m) × (is_piece_by p.shape k b (take m z) ≡ true)

literal_sound : (k : Class) (p : Shape) (b : ℕ) (z : List ℕ) (o : Option ℕ) → ((t : List ℕ) → closes b true false t ≡ true → is_piece_by p k b t ≡ true) → ClosesIf b true false 0 z o → IsSound k b z (longer_piece p 1 o)
literal_sound k p b z None f h = tt
literal_sound k p b z (Some n) f h = (h.0, omega (arith, h.1), f _ h.2)

same_head : (q b : ℕ) (z : List ℕ) (m : ℕ) → begins q z ≡ false → begins q (take m z) ≡ false
same_head q b [] zero h = refl
same_head q b [] (suc m) h = refl
same_head q b (x ∷ z) zero h = refl
same_head q b (x ∷ z) (suc m) h = h

not_false : (p : Bool) → p ≡ false → not p ≡ true
not_false true h = absurd (cc)
not_false false h = refl

header_sound_by : (k : Class) (q b : ℕ) (z : List ℕ) (o : Option ℕ) → begins q z ≡ false → ((t : List ℕ) → closes_header q t ≡ true → is_piece_by (shape.Token HeaderName) k b t ≡ true) → ClosesIf q false false 0 z o → IsSound k b z (longer_piece (shape.Token HeaderName) 1 o)
header_sound_by k q b z None e f h = tt
header_sound_by k q b z (Some n) e f h = (h.0, omega (arith, h.1), f _ (and_true _ _ (not_false _ (same_head q b z h.0 e)) h.2))

header_end_sound : (k : Class) (q b : ℕ) (z : List ℕ) → ((t : List ℕ) → closes_header q t ≡ true → is_piece_by (shape.Token HeaderName) k b t ≡ true) → IsSound k b z (longer_piece (shape.Token HeaderName) 1 (header_end q z))
header_end_sound k q b z f = cond_both (begins q z) None (close_at q false false 0 z) (λ o. IsSound k b z (longer_piece (shape.Token HeaderName) 1 o))
    (λ i. tt) (λ i. header_sound_by k q b z _ i f (close_is q false false 0 z))

pub header_sound : (k : Class) (b : ℕ) (z : List ℕ) → IsSound k b z (header_at k z)
header_sound Quote b z = header_end_sound Quote 34 b z (λ t h. h)
header_sound Less b z = header_end_sound Less 62 b z (λ t h. h)
header_sound Letter b z = tt
header_sound Digit b z = tt
header_sound Dot b z = tt
header_sound Apostrophe b z = tt
header_sound Slash b z = tt
header_sound LineEnd b z = tt
header_sound Blank b z = tt
header_sound Other b z = tt

-- the first bytes of a list of two, where they are there
begins_star : (c : ℕ) (z : List ℕ) → begins c z ≡ true → (m : ℕ) → take (suc m) z ≡ c ∷ take m (rest_of z)
begins_star c [] h m = absurd (cc)
begins_star c (x ∷ z) h m = ap (λ v. v ∷ take m z) (eqb-true x c h)

block_sound : (b : ℕ) (z : List ℕ) (o : Option ℕ) → begins 42 z ≡ true → EndsIf false 0 (rest_of z) o → IsSound Slash b z (longer_piece shape.Comment 2 o)
block_sound b z None i h = tt
block_sound b z (Some n) i h = (suc h.0, omega (arith, h.1), rw (begins_star 42 z i h.0) h.2)

line_sound : (b : ℕ) (z : List ℕ) → begins 47 z ≡ true → IsSound Slash b z (Some (piece_of shape.Comment (prefix_length is_no_line_end (rest_of z) + 2)))
line_sound b z i = (suc (prefix_length is_no_line_end (rest_of z)), omega arith, rw (begins_star 47 z i (prefix_length is_no_line_end (rest_of z))) (runs_is is_no_line_end (rest_of z)))

spelled_sound : (k : Class) (b : ℕ) (z : List ℕ) (v : ℕ) → Spelled b z v → IsSound k b z (punctuator_piece v)
spelled_sound k b z zero h = tt
spelled_sound k b z (suc m) h = subst (IsSound k b z) (sym (if_false (suc m == 0) None (Some (piece_of (shape.Token Punct) (suc m))) (ne_eqb (suc m) 0 (λ j. omega arith)))) (m, refl, h)

pub punct_sound : (k : Class) (b : ℕ) (z : List ℕ) → IsSound k b z (punctuator_at b z)
unfolding punctuator_at
punct_sound k b z = spelled_sound k b z _ (spelled_is b z)

slash_sound : (b : ℕ) (z : List ℕ) → IsSound Slash b z (slash_at b z)
slash_sound b z = cond_both (begins 42 z) (longer_piece shape.Comment 2 (comment_end false 0 (rest_of z))) _ (IsSound Slash b z)
    (λ i. block_sound b z _ i (comment_is false 0 (rest_of z)))
    (λ i. cond_both (begins 47 z) (Some (piece_of shape.Comment (prefix_length is_no_line_end (rest_of z) + 2))) (punctuator_at b z) (IsSound Slash b z)
    (λ j. line_sound b z j) (λ j. punct_sound Slash b z))

digit_taken : (z : List ℕ) (n : ℕ) → begins_digit z ≡ true → begins_digit (take n z) ≡ true ⊎ (n ≡ 0)
digit_taken [] n h = absurd (cc)
digit_taken (x ∷ z) zero h = inr refl
digit_taken (x ∷ z) (suc n) h = inl h

-- a digit goes on with every number
digit_goes_on : (last b : ℕ) → is_digit b ≡ true → goes_on last b ≡ true
digit_goes_on last b h = or_left _ _ (or_left _ _ (or_right _ _ h))
  where
    or_left : (p q : Bool) → p ≡ true → (p || q) ≡ true
    or_left true q h = refl
    or_left false q h = absurd (cc)

    or_right : (p q : Bool) → q ≡ true → (p || q) ≡ true
    or_right true q h = refl
    or_right false q h = h

pub number_some : (last : ℕ) (z : List ℕ) → begins_digit z ≡ true → 1 ≤ number_length last z
number_some last [] h = absurd (cc)
number_some last (x ∷ z) h = rw (digit_goes_on last x h) (omega arith)

dot_number : (b : ℕ) (z : List ℕ) → begins_digit z ≡ true → (begins_digit (take (number_length b z) z) && runs_on b (take (number_length b z) z)) ≡ true
dot_number b z h = and_true _ _
    (elim (digit_taken z (number_length b z) h) [ inl k ↦ k | inr k ↦ absurd (let some = number_some b z h in omega arith) ])
    (number_is b z)

dot_sound : (b : ℕ) (z : List ℕ) → IsSound Dot b z (plain_at Dot b z)
dot_sound b z = cond_both (begins_digit z) (Some (piece_of (shape.Token Number) (number_length b z + 1))) (punctuator_at b z) (IsSound Dot b z)
    (λ i. (number_length b z, omega arith, dot_number b z i)) (λ i. punct_sound Dot b z)

pub plain_sound : (k : Class) (b : ℕ) (z : List ℕ) → IsSound k b z (plain_at k b z)
plain_sound Letter b z = (prefix_length is_word z, omega arith, runs_is is_word z)
plain_sound Digit b z = (number_length b z, omega arith, number_is b z)
plain_sound Dot b z = dot_sound b z
plain_sound Quote b z = literal_sound Quote (shape.Token Str) b z _ (λ t h. h) (close_is b true false 0 z)
plain_sound Apostrophe b z = literal_sound Apostrophe (shape.Token Char) b z _ (λ t h. h) (close_is b true false 0 z)
plain_sound Slash b z = slash_sound b z
plain_sound LineEnd b z = (0, refl, refl)
plain_sound Blank b z = (0, refl, refl)
plain_sound Less b z = punct_sound Less b z
plain_sound Other b z = punct_sound Other b z
