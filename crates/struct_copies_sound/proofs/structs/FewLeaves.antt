-- Leaves of which no two have a byte in common are no more than the bytes that they have.
use Rattle.std.proofs.Common.{◌≡◌, ℕ, zero, suc, ◌+◌, ◌<◌, ◌≤◌, Bool, true, cond, ◌||◌, List, [], ◌∷◌, length, Some, arith, subst, refl, ap, inl, inr}
use Rattle.std.specs.Prelude.{slice_get, nat_lt, ◌==◌, count_by}
use Rattle.std.proofs.lemmas.Bool.{cases_Bool, cases_lt, eqb-true, eq-eqb, ltb-true, lt-ltb, or_left, or_right}
use Rattle.std.proofs.lemmas.List.Sums.{sum_by-cons}
use Rattle.c_layout.specs.declared.data_model.Model.{Model}
use Rattle.c_layout.specs.declared.leaf_lists.Leaf.{Leaf}
use Rattle.store_sound.specs.Concretization.Places.{OwnedByLeaf}
use Rattle.store_sound.proofs.operations.Classes.{class_above, count_some, count_either}
use Rattle.struct_copies_sound.specs.Leaves.StructLeaves.{IsStruct}

module _ {X : Type 0} (p : X → Bool) where
  count_more : (x : X) (xs : List X) → count_by p (x ∷ xs) ≡ cond {A = ℕ} (p x) 1 0 + count_by p xs
  count_more x xs = sum_by-cons (λ y. cond {A = ℕ} (p y) 1 0) x xs

  -- what is true of one element at most is counted once at most
  one_at_most : (xs : List X) → ((a b : ℕ) (x y : X) → slice_get xs a ≡ Some x → slice_get xs b ≡ Some y → p x ≡ true → p y ≡ true → a ≡ b) → count_by p xs ≤ 1
  one_at_most [] h = omega arith
  one_at_most (x ∷ xs) h =
      let r = one_at_most xs (λ a b y z e f g k. let s = h (suc a) (suc b) y z e f g k in omega (arith, s)) in
      let m = count_more x xs in
      elim (cases_Bool (p x)) [
        | inr e ↦ (let z : cond {A = ℕ} (p x) 1 0 ≡ 0 = ap (λ b. cond {A = ℕ} b 1 0) e in omega (arith, m, r, z))
        | inl e ↦ (let z : cond {A = ℕ} (p x) 1 0 ≡ 1 = ap (λ b. cond {A = ℕ} b 1 0) e in
            let none = no_more xs (count_by p xs) refl (λ j y f g. let s = h 0 (suc j) x y refl f e g in omega (arith, s)) in
            omega (arith, m, none, z))
      ]
    where
      no_more : (ys : List X) (n : ℕ) → count_by p ys ≡ n → ((j : ℕ) (y : X) → slice_get ys j ≡ Some y → p y ≡ true → ⊥) → n ≡ 0
      no_more ys zero e k = refl
      no_more ys (suc n) e k = let s = count_some p ys n e in absurd (k s.0 s.1 s.2 s.3)

  -- what is true of all is counted as often as there are elements
  all_counted : (xs : List X) → ((j : ℕ) (x : X) → slice_get xs j ≡ Some x → p x ≡ true) → length xs ≤ count_by p xs
  all_counted [] h = omega arith
  all_counted (x ∷ xs) h =
      let r = all_counted xs (λ j y e. h (suc j) y e) in
      let m = count_more x xs in
      let z : cond {A = ℕ} (p x) 1 0 ≡ 1 = ap (λ b. cond {A = ℕ} b 1 0) (h 0 x refl) in
      omega (arith, r, m, z)

-- ---- leaves by their offsets

begins_below : (xs : List Leaf) → ((x : ℕ) → count_by (λ leaf. leaf.offset == x) xs ≤ 1) → (size : ℕ) → count_by (λ leaf. nat_lt leaf.offset size) xs ≤ size
begins_below xs few zero = none xs
  where
    none : (ys : List Leaf) → count_by (λ leaf. nat_lt leaf.offset 0) ys ≤ 0
    none ys = by_count (count_by (λ leaf. nat_lt leaf.offset 0) ys) refl
      where
        by_count : (n : ℕ) → count_by (λ leaf. nat_lt leaf.offset 0) ys ≡ n → n ≤ 0
        by_count zero e = omega arith
        by_count (suc n) e = let s = count_some (λ leaf. nat_lt leaf.offset 0) ys n e in let b = ltb-true (s.1).offset 0 s.3 in absurd (omega (arith, b))
begins_below xs few (suc size) =
    let r = begins_below xs few size in
    let f = few size in
    let e = count_either (λ leaf. nat_lt leaf.offset (suc size)) (λ leaf. nat_lt leaf.offset size) (λ leaf. leaf.offset == size) xs (λ j leaf g h. next leaf (ltb-true leaf.offset (suc size) h)) in
    omega (arith, r, f, e)
  where
    next : (leaf : Leaf) → leaf.offset < suc size → (nat_lt leaf.offset size || leaf.offset == size) ≡ true
    next leaf h = elim (cases_lt leaf.offset size) [
      | inl a ↦ or_left (nat_lt leaf.offset size) (leaf.offset == size) (lt-ltb leaf.offset size a)
      | inr a ↦ or_right (nat_lt leaf.offset size) (leaf.offset == size) (eq-eqb leaf.offset size (omega (arith, a, h)))
    ]

-- as many as the size at most
pub no_more_than_bytes : (m : Model) (leaves : List Leaf) (size : ℕ) → IsStruct m leaves size → length leaves ≤ size
no_more_than_bytes m leaves size h =
    let first : (number : ℕ) (leaf : Leaf) → slice_get leaves number ≡ Some leaf → OwnedByLeaf m leaf leaf.offset 0 =
    λ number leaf e. record { start = leaf.offset; place = record { turn = 0; few = (h.plain number leaf e).some; there = omega arith }; there = omega arith; small = class_above m leaf.class } in
    let all = all_counted (λ (leaf : Leaf). nat_lt leaf.offset size) leaves (λ number leaf e. lt-ltb leaf.offset size (h.inside number leaf.offset 0 leaf e (first number leaf e))) in
    let below = begins_below leaves
    (λ x. one_at_most (λ (leaf : Leaf). leaf.offset == x) leaves (λ a b y z e f g k.
    let u = eqb-true y.offset x g in
    let v = eqb-true z.offset x k in
    h.one a b x 0 0 y z e f (subst (λ t. OwnedByLeaf m y t 0) u (first a y e)) (subst (λ t. OwnedByLeaf m z t 0) v (first b z f)))) size in
    omega (arith, all, below)
