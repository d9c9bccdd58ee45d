-- The newest values of a list whose newest value stands last.
use Rattle.std.proofs.Common.{◌≡◌, ℕ, zero, suc, ◌-◌, ◌<◌, ◌≤◌, ◌⊎◌, List, [], ◌∷◌, ◌++◌, length, reverse, take, drop, refl, sym, ap, ◌∙◌, arith, ⊎_elim}
use Rattle.std.proofs.lemmas.Bool.{cases_lt}
use Rattle.std.proofs.lemmas.List.{length-reverse, reverse-append, take-append-drop, length-drop, length-take}

-- the head and the rest of two lists behind each other
taken : {A : Type 0} (a b : List A) (n : ℕ) → length a ≡ n → take n (a ++ b) ≡ a
taken [] b zero e = refl
taken [] b (suc n) e = absurd (omega arith)
taken (x ∷ a) b zero e = absurd (omega arith)
taken (x ∷ a) b (suc n) e = ap (λ l. x ∷ l) (taken a b n (omega arith))

dropped : {A : Type 0} (a b : List A) (n : ℕ) → length a ≡ n → drop n (a ++ b) ≡ b
dropped [] b zero e = refl
dropped [] b (suc n) e = absurd (omega arith)
dropped (x ∷ a) b zero e = absurd (omega arith)
dropped (x ∷ a) b (suc n) e = dropped a b n (omega arith)

all_taken : {A : Type 0} (a : List A) (n : ℕ) → length a ≤ n → take n a ≡ a
all_taken [] zero h = refl
all_taken [] (suc n) h = refl
all_taken (x ∷ a) zero h = absurd (omega arith)
all_taken (x ∷ a) (suc n) h = ap (λ l. x ∷ l) (all_taken a n (omega arith))

none_left : {A : Type 0} (a : List A) (n : ℕ) → length a ≤ n → drop n a ≡ []
none_left [] zero h = refl
none_left [] (suc n) h = refl
none_left (x ∷ a) zero h = absurd (omega arith)
none_left (x ∷ a) (suc n) h = none_left a n (omega arith)

reverse_twice : {A : Type 0} (l : List A) → reverse (reverse l) ≡ l
reverse_twice [] = refl
reverse_twice (x ∷ l) = ap reverse (reverse-append (x ∷ []) l) ∙ reverse-append (reverse l) (x ∷ []) ∙ ap (λ z. x ∷ z) (reverse_twice l)

reversed_parts : {A : Type 0} (k : ℕ) (xs : List A) → reverse xs ≡ reverse (drop k xs) ++ reverse (take k xs)
reversed_parts k xs = ap reverse (sym (take-append-drop k xs)) ∙ reverse-append (take k xs) (drop k xs)

long : {A : Type 0} (xs : List A) (n : ℕ) → n ≤ length xs → length (reverse (drop (length xs - n) xs)) ≡ n
long xs n h =
    let e : length (reverse (drop (length xs - n) xs)) ≡ length (drop (length xs - n) xs) = length-reverse (drop (length xs - n) xs) in
    let f : length (drop (length xs - n) xs) ≡ length xs - (length xs - n) = length-drop (length xs - n) xs in
    omega arith

none_before : {A : Type 0} (xs : List A) (n : ℕ) → length xs ≤ n → length xs - n ≡ zero
none_before xs n h = omega arith

-- the newest so many, the oldest of them first
pub newest_is : {A : Type 0} (n : ℕ) (xs : List A) → drop (length xs - n) xs ≡ reverse (take n (reverse xs))
newest_is n xs =
    ⊎_elim
    (λ (lt : length xs < n).
    ap (λ k. drop k xs) (none_before xs n (omega arith))
    ∙ sym (reverse_twice xs)
    ∙ ap reverse (sym (all_taken (reverse xs) n (let e : length (reverse xs) ≡ length xs = length-reverse xs in omega arith))))
    (λ (ge : n ≤ length xs).
    sym (reverse_twice (drop (length xs - n) xs))
    ∙ ap reverse (sym (taken (reverse (drop (length xs - n) xs)) (reverse (take (length xs - n) xs)) n (long xs n ge)))
    ∙ ap (λ l. reverse (take n l)) (sym (reversed_parts (length xs - n) xs)))
    (cases_lt (length xs) n)

-- what is left without them
pub rest_is : {A : Type 0} (n : ℕ) (xs : List A) → reverse (take (length xs - n) xs) ≡ drop n (reverse xs)
rest_is n xs =
    ⊎_elim
    (λ (lt : length xs < n).
    ap (λ k. reverse (take k xs)) (none_before xs n (omega arith))
    ∙ sym (none_left (reverse xs) n (let e : length (reverse xs) ≡ length xs = length-reverse xs in omega arith)))
    (λ (ge : n ≤ length xs).
    sym (dropped (reverse (drop (length xs - n) xs)) (reverse (take (length xs - n) xs)) n (long xs n ge))
    ∙ ap (drop n) (sym (reversed_parts (length xs - n) xs)))
    (cases_lt (length xs) n)
