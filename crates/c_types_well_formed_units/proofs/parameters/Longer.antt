-- Lists that begin with another one, and names that keep their numbers in them.
use Rattle.std.proofs.Common.{◌≡◌, ◌<◌, ◌+◌, ℕ, suc, Bool, true, false, not, List, [], ◌∷◌, ◌++◌, length, Some, slice_get, arith, refl, ap, sym, ◌∙◌, append_assoc}
use Rattle.std.specs.Prelude.{cond, nat_eq, ◌||◌, if◌then◌else◌}
use Rattle.std.specs.List.{list_any, position_or_len}
use Rattle.std.specs.Cmp.Lexicographic.{pointwise}
use Rattle.std.proofs.lemmas.List.{append-nil}
use Rattle.std.proofs.lemmas.Slice.Eq.{bytes_eq-Decides}
use Rattle.c_types_scopes.specs.Names.{number_in, with_text}
use Rattle.c_types_theorems.proofs.units.Kept.{front_stays}

pub record Longer {A : Type 0} (xs ys : List A) : Type 0 where
  pub more : List A
  pub is : ys ≡ xs ++ more

pub longer_same : {A : Type 0} (xs : List A) → Longer xs xs
longer_same xs = record { more = []; is = sym (append-nil xs) }

pub longer_by : {A : Type 0} (xs more : List A) → Longer xs (xs ++ more)
longer_by xs more = record { more = more; is = refl }

pub longer_twice : {A : Type 0} (xs ys zs : List A) → Longer xs ys → Longer ys zs → Longer xs zs
longer_twice xs ys zs g h = record { more = g.more ++ h.more; is = h.is ∙ (ap (λ l. l ++ h.more) g.is ∙ append_assoc xs g.more h.more) }

pub longer_item : {A : Type 0} (xs ys : List A) (i : ℕ) (x : A) → Longer xs ys → slice_get xs i ≡ Some x → slice_get ys i ≡ Some x
longer_item xs ys i x g is = ap (λ l. slice_get l i) g.is ∙ front_stays xs g.more i x is

pub last_item : {A : Type 0} (xs : List A) (y : A) → slice_get (xs ++ y ∷ []) (length xs) ≡ Some y
last_item [] y = refl
last_item (x ∷ xs) y = last_item xs y

-- ---- numbers of names

all_stay : (p : Bool) (n m k : ℕ) → (n < k → m ≡ n) → cond (not p) (1 + n) 0 < suc k → cond (not p) (1 + m) 0 ≡ cond (not p) (1 + n) 0
all_stay true n m k h less = refl
all_stay false n m k h less = ap (λ j. 1 + j) (h (omega (arith, less)))

place_stays : (p : List ℕ → Bool) (xs more : List (List ℕ)) → position_or_len p xs < length xs → position_or_len p (xs ++ more) ≡ position_or_len p xs
place_stays p [] more less = absurd (omega (arith, less))
place_stays p (x ∷ xs) more less = all_stay (p x) (position_or_len p xs) (position_or_len p (xs ++ more)) (length xs) (place_stays p xs more) less

within_by : (q any : Bool) (n k : ℕ) → (any ≡ true → n < k) → (q || any) ≡ true → cond (not q) (1 + n) 0 < suc k
within_by true any n k h is = omega arith
within_by false any n k h is = let less = h is in omega (arith, less)

place_within : (p : List ℕ → Bool) (xs : List (List ℕ)) → list_any p xs ≡ true → position_or_len p xs < length xs
place_within p [] is = absurd (cc)
place_within p (x ∷ xs) is = within_by (p x) (list_any p xs) (position_or_len p xs) (length xs) (place_within p xs) is

new_by : (q any : Bool) (n m k : ℕ) → (any ≡ false → (m ≡ n) × (m < k)) → (q || any) ≡ false → (cond (not q) (1 + m) 0 ≡ cond (not q) (1 + n) 0) × (cond (not q) (1 + m) 0 < suc k)
new_by true any n m k h none = absurd (cc)
new_by false any n m k h none = let x = h none in let less = x.1 in (ap (λ j. 1 + j) x.0, omega (arith, less))

place_new : (p : List ℕ → Bool) (xs : List (List ℕ)) (x : List ℕ) → list_any p xs ≡ false → p x ≡ true → (position_or_len p (xs ++ x ∷ []) ≡ position_or_len p xs) × (position_or_len p (xs ++ x ∷ []) < length (xs ++ x ∷ []))
place_new p [] x none is = let first : position_or_len p (x ∷ []) ≡ 0 = ap (λ b. cond (not b) (1 + 0) 0) is in (first, omega (arith, first))
place_new p (y ∷ xs) x none is = new_by (p y) (list_any p xs) (position_or_len p xs) (position_or_len p (xs ++ x ∷ [])) (length (xs ++ x ∷ [])) (λ rest. place_new p xs x rest is) none

same_text : (text : List ℕ) → pointwise nat_eq text text ≡ true
same_text text = (bytes_eq-Decides text text).1 refl

pub text_more : (xs : List (List ℕ)) (text : List ℕ) → Longer xs (with_text xs text)
text_more xs text = by_known (list_any (pointwise nat_eq text) xs)
  where
    by_known : (b : Bool) → Longer xs (if b then xs else xs ++ text ∷ [])
    by_known true = longer_same xs
    by_known false = longer_by xs (text ∷ [])

-- a name that was met keeps its number
pub number_stays : (xs ys : List (List ℕ)) (text : List ℕ) → Longer (with_text xs text) ys → number_in ys text ≡ number_in xs text
number_stays xs ys text g = by_known (list_any (pointwise nat_eq text) xs) refl g
  where
    by_known : (b : Bool) → list_any (pointwise nat_eq text) xs ≡ b → Longer (if b then xs else xs ++ text ∷ []) ys → position_or_len (pointwise nat_eq text) ys ≡ position_or_len (pointwise nat_eq text) xs
    by_known true is h = ap (position_or_len (pointwise nat_eq text)) h.is ∙ place_stays (pointwise nat_eq text) xs h.more (place_within (pointwise nat_eq text) xs is)
    by_known false is h =
        let new = place_new (pointwise nat_eq text) xs text is (same_text text) in
        ap (position_or_len (pointwise nat_eq text)) h.is ∙ (place_stays (pointwise nat_eq text) (xs ++ text ∷ []) h.more new.1 ∙ new.0)
