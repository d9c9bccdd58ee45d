-- The bases of a program as sets, and which sets are empty.
use Rattle.std.proofs.Common.{◌≡◌, ◌<◌, ◌^◌, ◌/◌, ◌%◌, ℕ, zero, suc, ℤ, Bool, true, false, ◌&&◌, ◌==◌, nat_lt, bit_or, cond, List, refl, sym, subst, arith}
use Rattle.std.proofs.lemmas.Bool.{and_from, cond_both, eqb-true, lt-ltb, ltb-true, false_from_ne_true}
use Rattle.std.proofs.lemmas.Nat.{or_lt, le_or_l}
use Rattle.std.proofs.Math.Pow.{pow-lt}
use Rattle.pointer_domain.specs.declared.base_sets.Bases.{Bases}
use Rattle.pointer_domain.specs.BaseSets.{no_base, word_of, with_word, word_within, bases_union, bases_within, bases_empty}
use Rattle.pointer_domain.specs.BaseLattice.{bases_lattice, bases_order}
use Rattle.transfer_system.specs.BoundedRows.OwnRows.{bases_below}

-- ---- empty sets

eight : (a b c d e f g h : Bool) → (a && (b && (c && (d && (e && (f && (g && h))))))) ≡ true → (a ≡ true) × (b ≡ true) × (c ≡ true) × (d ≡ true) × (e ≡ true) × (f ≡ true) × (g ≡ true) × (h ≡ true)
eight true true true true true true true true z = (refl, refl, refl, refl, refl, refl, refl, refl)
eight false b c d e f g h z = absurd (cc)
eight true false c d e f g h z = absurd (cc)
eight true true false d e f g h z = absurd (cc)
eight true true true false e f g h z = absurd (cc)
eight true true true true false f g h z = absurd (cc)
eight true true true true true false g h z = absurd (cc)
eight true true true true true true false h z = absurd (cc)
eight true true true true true true true false z = absurd (cc)

empty_is : (s : Bases) → bases_empty s ≡ true → s ≡ no_base
empty_is s h =
    let w = eight _ _ _ _ _ _ _ _ h in
    let a = eqb-true s.word0 0 w.0 in
    let b = eqb-true s.word1 0 w.1 in
    let c = eqb-true s.word2 0 w.2 in
    let d = eqb-true s.word3 0 w.3 in
    let e = eqb-true s.word4 0 w.4 in
    let f = eqb-true s.word5 0 w.5 in
    let g = eqb-true s.word6 0 w.6 in
    let k = eqb-true s.word7 0 w.7 in
    λ i. record { word0 = a i; word1 = b i; word2 = c i; word3 = d i; word4 = e i; word5 = f i; word6 = g i; word7 = k i }

none_is_empty : (s : Bases) → s ≡ no_base → bases_empty s ≡ true
none_is_empty s e = subst (λ z. bases_empty z ≡ true) (sym e) refl

pub both_empty : (s t : Bases) → bases_empty s ≡ true → bases_empty t ≡ true → bases_empty (bases_union s t) ≡ true
both_empty s t h k =
    let e = empty_is s h in
    let f = empty_is t k in
    subst (λ y. bases_empty (bases_union y t) ≡ true) (sym e) (subst (λ z. bases_empty (bases_union no_base z) ≡ true) (sym f) refl)

-- a set within an empty one is empty
pub empty_below : (s t : Bases) → bases_within s t ≡ true → bases_empty t ≡ true → bases_empty s ≡ true
empty_below s t h k =
    let e = empty_is t k in
    none_is_empty s (bases_order.antisymmetric s no_base (subst (λ z. bases_within s z ≡ true) e h) (bases_order.least_below s))

pub left_some : (s t : Bases) → bases_empty s ≡ false → bases_empty (bases_union s t) ≡ false
left_some s t h = false_from_ne_true _ (λ (e : bases_empty (bases_union s t) ≡ true). let k = empty_below s (bases_union s t) (bases_order.join_left s t) e in cc)

pub right_some : (s t : Bases) → bases_empty t ≡ false → bases_empty (bases_union s t) ≡ false
right_some s t h = false_from_ne_true _ (λ (e : bases_empty (bases_union s t) ≡ true). let k = empty_below t (bases_union s t) (bases_order.join_right s t) e in cc)

-- ---- the bases of a program

abbrev pub IsSmall : Bases → Type 0
IsSmall s = (s.word0 < 2 ^ 128) × (s.word1 < 2 ^ 128) × (s.word2 < 2 ^ 128) × (s.word3 < 2 ^ 128) × (s.word4 < 2 ^ 128) × (s.word5 < 2 ^ 128) × (s.word6 < 2 ^ 128) × (s.word7 < 2 ^ 128)

word_small : (s : Bases) (i : ℕ) → IsSmall s → word_of s i < 2 ^ 128
word_small s i h =
    cond_both (i == 0) s.word0 _ (λ w. w < 2 ^ 128) (λ _. h.0) (λ _.
    cond_both (i == 1) s.word1 _ (λ w. w < 2 ^ 128) (λ _. h.1) (λ _.
    cond_both (i == 2) s.word2 _ (λ w. w < 2 ^ 128) (λ _. h.2) (λ _.
    cond_both (i == 3) s.word3 _ (λ w. w < 2 ^ 128) (λ _. h.3) (λ _.
    cond_both (i == 4) s.word4 _ (λ w. w < 2 ^ 128) (λ _. h.4) (λ _.
    cond_both (i == 5) s.word5 _ (λ w. w < 2 ^ 128) (λ _. h.5) (λ _.
    cond_both (i == 6) s.word6 s.word7 (λ w. w < 2 ^ 128) (λ _. h.6) (λ _. h.7)))))))

small_at : (a b c d e f g : Bool) (s : Bases) (w : ℕ) → IsSmall s → w < 2 ^ 128 → IsSmall (cond a (record s { word0 = w }) (cond b (record s { word1 = w }) (cond c (record s { word2 = w }) (cond d (record s { word3 = w }) (cond e (record s { word4 = w }) (cond f (record s { word5 = w }) (cond g (record s { word6 = w }) (record s { word7 = w }))))))))
small_at true b c d e f g s w h k = (k, h.1, h.2, h.3, h.4, h.5, h.6, h.7)
small_at false true c d e f g s w h k = (h.0, k, h.2, h.3, h.4, h.5, h.6, h.7)
small_at false false true d e f g s w h k = (h.0, h.1, k, h.3, h.4, h.5, h.6, h.7)
small_at false false false true e f g s w h k = (h.0, h.1, h.2, k, h.4, h.5, h.6, h.7)
small_at false false false false true f g s w h k = (h.0, h.1, h.2, h.3, k, h.5, h.6, h.7)
small_at false false false false false true g s w h k = (h.0, h.1, h.2, h.3, h.4, k, h.6, h.7)
small_at false false false false false false true s w h k = (h.0, h.1, h.2, h.3, h.4, h.5, k, h.7)
small_at false false false false false false false s w h k = (h.0, h.1, h.2, h.3, h.4, h.5, h.6, k)

with_small : (s : Bases) (i w : ℕ) → IsSmall s → w < 2 ^ 128 → IsSmall (with_word s i w)
with_small s i w h k = small_at (i == 0) (i == 1) (i == 2) (i == 3) (i == 4) (i == 5) (i == 6) s w h k

bit_small : (n : ℕ) → 2 ^ (n % 128) < 2 ^ 128
bit_small n = pow-lt {i = n % 128} {j = 128} (omega arith)

below_small : (n : ℕ) → IsSmall (bases_below n)
unfolding bases_below
below_small zero = (omega arith, omega arith, omega arith, omega arith, omega arith, omega arith, omega arith, omega arith)
below_small (suc n) = with_small (bases_below n) (n / 128) _ (below_small n) (or_lt 128 _ _ (word_small (bases_below n) (n / 128) (below_small n)) (bit_small n))

pub below_within : (list : List ℤ) (n : ℕ) → bases_lattice.within list (bases_below n) ≡ true
below_within list n =
    let h = below_small n in
    and_from _ _ (lt-ltb _ _ h.0) (and_from _ _ (lt-ltb _ _ h.1) (and_from _ _ (lt-ltb _ _ h.2) (and_from _ _ (lt-ltb _ _ h.3) (and_from _ _ (lt-ltb _ _ h.4) (and_from _ _ (lt-ltb _ _ h.5) (and_from _ _ (lt-ltb _ _ h.6) (lt-ltb _ _ h.7)))))))

word_few : (a b : ℕ) → word_within a b ≡ true → nat_lt b (2 ^ 128) ≡ true → nat_lt a (2 ^ 128) ≡ true
word_few a b h k =
    let e = eqb-true (bit_or a b) b h in
    let m = le_or_l a b in
    let small = ltb-true b (2 ^ 128) k in
    lt-ltb a (2 ^ 128) (omega arith)

-- a set within a set of words is one of words
pub within_few : (list : List ℤ) (s t : Bases) → bases_within s t ≡ true → bases_lattice.within list t ≡ true → bases_lattice.within list s ≡ true
within_few list s t h k =
    let w = eight _ _ _ _ _ _ _ _ h in
    let v = eight _ _ _ _ _ _ _ _ k in
    and_from _ _ (word_few s.word0 t.word0 w.0 v.0) (and_from _ _ (word_few s.word1 t.word1 w.1 v.1) (and_from _ _ (word_few s.word2 t.word2 w.2 v.2) (and_from _ _ (word_few s.word3 t.word3 w.3 v.3)
    (and_from _ _ (word_few s.word4 t.word4 w.4 v.4) (and_from _ _ (word_few s.word5 t.word5 w.5 v.5) (and_from _ _ (word_few s.word6 t.word6 w.6 v.6) (word_few s.word7 t.word7 w.7 v.7)))))))
