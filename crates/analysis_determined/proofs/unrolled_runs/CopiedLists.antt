-- Lists that are copies of others, one after the other: places in them, and parts of them.
use Rattle.std.specs.Prelude.{◌≡◌, ℕ, zero, suc, ◌+◌, ◌-◌, ◌*◌, ◌<◌, ◌≤◌, Option, Some, None, List, [], ◌∷◌, ◌++◌, length, take, drop, slice_get, refl}
use Rattle.std.proofs.Common.{arith, sym, ap, ◌∙◌, inl, inr}
use Rattle.std.proofs.Math.Nat.{add-mul, mul-le-mul_left, mul_comm}
use Rattle.std.proofs.lemmas.Bool.{cases_lt}
use Rattle.std.proofs.lemmas.List.{length-append}
use Rattle.loop_unrolling.specs.Turns.{number_in, all_copies}

-- ---- places

one_more : (m g : ℕ) → suc m * g ≡ g + m * g
one_more m g =
    let e : suc m ≡ 1 + m = omega arith in
    let f : (1 + m) * g ≡ 1 * g + m * g = add-mul 1 m g in
    let h : suc m * g ≡ (1 + m) * g = ap (λ z. z * g) e in
    omega arith

more_copies : (size a c : ℕ) → a ≤ c → a * size ≤ c * size
more_copies size a c h =
    let k : size * a ≤ size * c = mul-le-mul_left size h in
    let e = mul_comm a size in
    let f = mul_comm c size in
    omega arith

pub number_below : (size n k j : ℕ) → k < n → j < size → number_in size k j < n * size
number_below size n k j h i =
    let m = more_copies size (suc k) n (omega arith) in
    let e = one_more k size in
    omega arith

-- each number is that of one place in one copy
pub record Placed (size n b : ℕ) : Type 0 where
  pub copy : ℕ
  pub place : ℕ
  pub in_copies : copy < n
  pub in_copy : place < size
  pub is : b ≡ number_in size copy place

pub placed : (size n b : ℕ) → b < n * size → Placed size n b
placed size zero b h = absurd (omega arith)
placed size (suc n) b h = elim (cases_lt b (n * size)) [
  | inl k ↦ (let p = placed size n b k in record { copy = p.copy; place = p.place; in_copies = omega arith; in_copy = p.in_copy; is = p.is })
  | inr k ↦ last k
]
  where
    last : n * size ≤ b → Placed size (suc n) b
    last k = let e = one_more n size in record { copy = n; place = b - n * size; in_copies = omega arith; in_copy = omega arith; is = omega arith }

get_left : {V : Type 0} (xs ys : List V) (i : ℕ) → i < length xs → slice_get (xs ++ ys) i ≡ slice_get xs i
get_left [] ys i h = absurd (omega arith)
get_left (x ∷ xs) ys zero h = refl
get_left (x ∷ xs) ys (suc i) h = get_left xs ys i (omega arith)

get_right : {V : Type 0} (xs ys : List V) (i j : ℕ) → i ≡ length xs + j → slice_get (xs ++ ys) i ≡ slice_get ys j
get_right [] ys i j h = let e : i ≡ j = omega arith in ap (slice_get ys) e
get_right (x ∷ xs) ys zero j h = absurd (omega arith)
get_right (x ∷ xs) ys (suc i) j h = get_right xs ys i j (omega arith)

module _ {V : Type 0} (of : ℕ → List V) (size : ℕ) (long : (k : ℕ) → length (of k) ≡ size) where
  pub copies_length : (n : ℕ) → length (all_copies of n) ≡ n * size
  copies_length zero = omega arith
  copies_length (suc n) =
      let r = copies_length n in
      let e = length-append (all_copies of n) (of n) in
      let f = long n in
      let g = one_more n size in
      omega arith

  pub copy_at : (n k j : ℕ) → k < n → j < size → slice_get (all_copies of n) (number_in size k j) ≡ slice_get (of k) j
  copy_at zero k j h i = absurd (omega arith)
  copy_at (suc n) k j h i = elim (cases_lt k n) [
    | inl p ↦ get_left (all_copies of n) (of n) (number_in size k j) (before p) ∙ copy_at n k j p i
    | inr p ↦ here p
  ]
    where
      before : k < n → number_in size k j < length (all_copies of n)
      before p =
          let r = copies_length n in
          let b = number_below size n k j p i in
          omega arith

      here : n ≤ k → slice_get (all_copies of n ++ of n) (number_in size k j) ≡ slice_get (of k) j
      here p =
          let r = copies_length n in
          let e : k ≡ n = omega arith in
          let f : number_in size k j ≡ number_in size n j = ap (λ z. number_in size z j) e in
          get_right (all_copies of n) (of n) (number_in size k j) j (omega arith) ∙ ap (λ z. slice_get (of z) j) (sym e)

-- ---- parts

-- what is left behind a place begins with what stands there
drop_at : {V : Type 0} (xs : List V) (p : ℕ) (x : V) → slice_get xs p ≡ Some x → drop p xs ≡ x ∷ drop (suc p) xs
drop_at [] p x e = absurd (cc)
drop_at (y ∷ xs) zero x e = ap (λ z. z ∷ xs) (same y x e)
  where
    same : {V : Type 0} (y x : V) → Some y ≡ Some x → y ≡ x
    same y x e = cc
drop_at (y ∷ xs) (suc p) x e = drop_at xs p x e

drop_past : {V : Type 0} (xs : List V) (p : ℕ) → slice_get xs p ≡ None → drop p xs ≡ []
drop_past [] zero e = refl
drop_past [] (suc p) e = refl
drop_past (y ∷ xs) zero e = absurd (cc)
drop_past (y ∷ xs) (suc p) e = drop_past xs p e

-- parts with the same elements are the same
pub same_part : {V : Type 0} (xs ys : List V) (m p q : ℕ) → ((i : ℕ) → i < m → slice_get xs (p + i) ≡ slice_get ys (q + i)) → take m (drop p xs) ≡ take m (drop q ys)
same_part xs ys zero p q h = refl
same_part xs ys (suc m) p q h = begun (slice_get xs p) refl (same_part xs ys m (suc p) (suc q) rest)
  where
    zero_more : (k : ℕ) → k + 0 ≡ k
    zero_more k = omega arith

    first : slice_get xs p ≡ slice_get ys q
    first = ap (slice_get xs) (sym (zero_more p)) ∙ (h 0 (omega arith) ∙ ap (slice_get ys) (zero_more q))

    rest : (i : ℕ) → i < m → slice_get xs (suc p + i) ≡ slice_get ys (suc q + i)
    rest i less =
        let a : suc p + i ≡ p + suc i = omega arith in
        let b : q + suc i ≡ suc q + i = omega arith in
        ap (slice_get xs) a ∙ (h (suc i) (omega arith) ∙ ap (slice_get ys) b)

    begun : (o : Option _) → slice_get xs p ≡ o → take m (drop (suc p) xs) ≡ take m (drop (suc q) ys) → take (suc m) (drop p xs) ≡ take (suc m) (drop q ys)
    begun None e r = ap (λ z. take (suc m) z) (drop_past xs p e ∙ sym (drop_past ys q (sym first ∙ e)))
    begun (Some x) e r =
        ap (λ z. take (suc m) z) (drop_at xs p x e)
        ∙ (ap (λ z. x ∷ z) r
        ∙ sym (ap (λ z. take (suc m) z) (drop_at ys q x (sym first ∙ e))))

-- what stands in a part stands in the list
pub in_part : {V : Type 0} (xs : List V) (m p i : ℕ) (x : V) → slice_get (take m (drop p xs)) i ≡ Some x → slice_get xs (p + i) ≡ Some x
in_part xs zero p i x e = absurd (cc)
in_part [] (suc m) zero i x e = absurd (cc)
in_part [] (suc m) (suc p) i x e = absurd (cc)
in_part (y ∷ xs) (suc m) zero zero x e = e
in_part (y ∷ xs) (suc m) zero (suc i) x e = ap (slice_get (y ∷ xs)) (let k : 0 + suc i ≡ suc (0 + i) = omega arith in k) ∙ in_part xs m zero i x e
in_part (y ∷ xs) (suc m) (suc p) i x e = ap (slice_get (y ∷ xs)) (let k : suc p + i ≡ suc (p + i) = omega arith in k) ∙ in_part xs (suc m) p i x e
