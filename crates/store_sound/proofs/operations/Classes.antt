-- Classes by their numbers, and counts of leaves.
use Rattle.std.proofs.Common.{◌≡◌, ℕ, zero, suc, ◌+◌, ◌<◌, ◌≤◌, Bool, true, false, cond, ◌||◌, Some, List, [], ◌∷◌, arith, subst, sym, refl, inl, inr, ap, ◌∙◌}
use Rattle.std.specs.Prelude.{slice_get, ◌==◌, count_by}
use Rattle.std.proofs.lemmas.Bool.{cases_Bool, eqb-true, eq-eqb}
use Rattle.std.proofs.lemmas.List.Sums.{sum_by-cons}
use Rattle.cc_base.specs.IntegerTypes.{is_size}
use Rattle.cc_base.specs.declared.int_types.IntType.{IntType}
use Rattle.c_layout.specs.declared.data_model.Model.{Model}
use Rattle.c_layout.specs.Leaves.{class_of}
use Rattle.c_layout.specs.declared.leaf_lists.Class.{Class}
use Rattle.c_layout.specs.declared.leaf_lists.Class.TheVariants.{Char, Short, Int, Long, LongLong, Pointer}
use Rattle.memory_model.specs.Memory.ScalarSizes.{class_bytes}
use Rattle.store_cells.specs.ClassNumbers.{class_number, class_at, same_class, is_pointer}

number_back : (c : Class) → class_at (class_number c) ≡ c
number_back Char = refl
number_back Short = refl
number_back Int = refl
number_back Long = refl
number_back LongLong = refl
number_back Pointer = refl

pub same_class_is : (c d : Class) → same_class c d ≡ true → c ≡ d
same_class_is c d h = sym (number_back c) ∙ ap class_at (eqb-true (class_number c) (class_number d) h) ∙ number_back d

pub is_same_class : (c d : Class) → c ≡ d → same_class c d ≡ true
is_same_class c d e = eq-eqb _ _ (ap class_number e)

pub class_small : (c : Class) → class_number c < 6
class_small Char = omega arith
class_small Short = omega arith
class_small Int = omega arith
class_small Long = omega arith
class_small LongLong = omega arith
class_small Pointer = omega arith

pub class_number_back : (c : Class) → class_at (class_number c) ≡ c
class_number_back c = number_back c

pub integer_class : (kind : IntType) → is_pointer (class_of kind) ≡ false
integer_class kind = elim (cases_Bool (kind.rank == 1)) [
  | inl e ↦ rw e
  | inr a ↦ elim (cases_Bool (kind.rank == 2)) [
    | inl e ↦ rw (a, e)
    | inr b ↦ elim (cases_Bool (kind.rank == 3)) [
      | inl e ↦ rw (a, b, e)
      | inr c ↦ elim (cases_Bool (kind.rank == 4)) [ inl e ↦ rw (a, b, c, e) | inr d ↦ rw (a, b, c, d) ]
    ]
  ]
]

one_of : (b : Bool) (x y : ℕ) → is_size x ≡ true → is_size y ≡ true → is_size (cond b x y) ≡ true
one_of true x y h k = h
one_of false x y h k = k

pub class_size : (m : Model) (c : Class) → is_size (class_bytes m c) ≡ true
class_size m Char = refl
class_size m Short = refl
class_size m Int = one_of (m.int == 2) 2 4 refl refl
class_size m Long = one_of (m.long == 4) 4 8 refl refl
class_size m LongLong = refl
class_size m Pointer = one_of (m.pointer == 4) 4 8 refl refl

pub size_above : (n : ℕ) → is_size n ≡ true → 0 < n
size_above zero h = cc
size_above (suc n) h = omega arith

pub class_above : (m : Model) (c : Class) → 0 < class_bytes m c
class_above m c = size_above _ (class_size m c)

-- ---- counts

one_more : (p q r : Bool) (a b c : ℕ) → (p ≡ true → (q || r) ≡ true) → a ≤ b + c → cond p 1 0 + a ≤ (cond q 1 0 + b) + (cond r 1 0 + c)
one_more p q r a b c h k = grind arith

module _ {X : Type 0} where
  count_more : (p : X → Bool) (x : X) (xs : List X) → count_by p (x ∷ xs) ≡ cond (p x) 1 0 + count_by p xs
  count_more p x xs = sum_by-cons (λ y. cond (p y) 1 0) x xs

  pub count_some : (p : X → Bool) (xs : List X) (n : ℕ) → count_by p xs ≡ suc n → (j : ℕ) × (x : X) × (slice_get xs j ≡ Some x) × (p x ≡ true)
  count_some p [] n h = cc
  count_some p (x ∷ xs) n h = elim (cases_Bool (p x)) [
    | inl e ↦ (0, x, refl, e)
    | inr e ↦ (let f : cond (p x) 1 0 + count_by p xs ≡ suc n = sym (count_more p x xs) ∙ h in
        let g : cond {A = ℕ} (p x) 1 0 ≡ 0 = rw e in
        let k : count_by p xs ≡ suc n = omega arith in
        let r = count_some p xs n k in
        (suc r.0, r.1, r.2, r.3))
  ]

  pub count_none : (p : X → Bool) (xs : List X) (j : ℕ) (x : X) → slice_get xs j ≡ Some x → p x ≡ true → count_by p xs ≡ 0 → ⊥
  count_none p [] j x e h c = cc
  count_none p (y ∷ xs) zero x e h c =
      let d : y ≡ x = cc in
      let f : p y ≡ true = subst (λ z. p z ≡ true) (sym d) h in
      let k : cond (p y) 1 0 + count_by p xs ≡ 0 = sym (count_more p y xs) ∙ c in
      let g : cond {A = ℕ} (p y) 1 0 ≡ 1 = rw f in
      absurd (omega arith)
  count_none p (y ∷ xs) (suc j) x e h c = let k : cond (p y) 1 0 + count_by p xs ≡ 0 = sym (count_more p y xs) ∙ c in count_none p xs j x e h (omega arith)

  pub count_either : (p q r : X → Bool) (xs : List X) → ((j : ℕ) (x : X) → slice_get xs j ≡ Some x → p x ≡ true → (q x || r x) ≡ true) → count_by p xs ≤ count_by q xs + count_by r xs
  count_either p q r [] h = omega arith
  count_either p q r (x ∷ xs) h =
      let i = count_either p q r xs (λ j y e. h (suc j) y e) in
      let k : p x ≡ true → (q x || r x) ≡ true = h 0 x refl in
      let m = one_more (p x) (q x) (r x) (count_by p xs) (count_by q xs) (count_by r xs) k i in
      let a = count_more p x xs in
      let b = count_more q x xs in
      let c = count_more r x xs in
      omega arith
