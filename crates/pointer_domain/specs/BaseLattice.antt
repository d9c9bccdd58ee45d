-- The lattice of sets of bases, word by word.
use Rattle.std.specs.Prelude.{◌≡◌, ℕ, ◌+◌, ◌-◌, ◌^◌, ◌<◌, ◌≤◌, zero, suc, true, nat_lt, bit_or, refl}
use Rattle.std.specs.Int.{bit_at}
use Rattle.std.proofs.Common.{arith, ap, ◌∙◌, sym, subst, inl, inr}
use Rattle.std.proofs.lemmas.Nat.{or_comm, or_lt}
use Rattle.std.proofs.lemmas.Nat.Bits.{bit_at_or, bit_at-lt, same_from_bits, same_from_bits_below, bit_at-zero}
use Rattle.std.proofs.lemmas.Bool.{eqb-true, eq-eqb, ltb-true, lt-ltb, cases_order, false≢true}
use Rattle.cc_base.specs.Lattices.{LatticeOf, OrderLaws, RoundLaws, HeightLaws}
use Rattle.cc_base.specs.LatticeParts.{pair_lattice, pair_order, pair_rounding, pair_heights, image_lattice, image_order, image_rounding, image_heights}
use Rattle.pointer_domain.specs.declared.base_sets.Bases.{Bases}
use Rattle.pointer_domain.specs.BaseSets.{word_within}

-- how many of the lowest k bits are set
unfoldable pub bit_count : ℕ → ℕ → ℕ
bit_count zero n = 0
bit_count (suc k) n = bit_at n k + bit_count k n

abbrev pub word_lattice : LatticeOf ℕ
word_lattice = record {
  least = 0;
  join = bit_or;
  leq = word_within;
  round = λ list w. w;
  within = λ list w. nat_lt w (2 ^ 128);
  rank = λ list w. 128 - bit_count 128 w;
  height = λ t. 128;
}

or_self : (a : ℕ) → bit_or a a ≡ a
or_self a = same_from_bits (bit_or a a) a (λ i. bit_at_or a a i ∙ omega arith)

or_assoc : (a b c : ℕ) → bit_or (bit_or a b) c ≡ bit_or a (bit_or b c)
or_assoc a b c = same_from_bits _ _ (λ i. let e = bit_at_or (bit_or a b) c i in let f = bit_at_or a b i in let g = bit_at_or a (bit_or b c) i in let h = bit_at_or b c i in omega arith)

or_zero : (a : ℕ) → bit_or 0 a ≡ a
or_zero a = same_from_bits _ _ (λ i. let e = bit_at_or 0 a i in let f = bit_at-zero i in omega arith)

within_is : (a b : ℕ) → word_within a b ≡ true → bit_or a b ≡ b
within_is a b h = eqb-true (bit_or a b) b h

is_within : (a b : ℕ) → bit_or a b ≡ b → word_within a b ≡ true
is_within a b e = eq-eqb (bit_or a b) b e

-- more bits are set where one word is within the other
bit_within : (a b i : ℕ) → bit_or a b ≡ b → bit_at a i ≤ bit_at b i
bit_within a b i e = let f = bit_at_or a b i in let g : bit_at (bit_or a b) i ≡ bit_at b i = ap (λ z. bit_at z i) e in omega arith

count_within : (a b k : ℕ) → bit_or a b ≡ b → bit_count k a ≤ bit_count k b
unfolding bit_count
count_within a b zero e = omega arith
count_within a b (suc k) e = let r = count_within a b k e in let h = bit_within a b k e in omega arith

same_counts : (a b k : ℕ) → bit_or a b ≡ b → bit_count k a ≡ bit_count k b → (i : ℕ) → i < k → bit_at a i ≡ bit_at b i
unfolding bit_count
same_counts a b zero e f i h = absurd (omega arith)
same_counts a b (suc k) e f i h =
    let r = count_within a b k e in
    let g = bit_within a b k e in
    let p : bit_at a k ≡ bit_at b k = omega arith in
    let q : bit_count k a ≡ bit_count k b = omega arith in
    elim (cases_order i k) [ inl s ↦ subst (λ j. bit_at a j ≡ bit_at b j) (sym s) p | inr t ↦ elim t [ inl l ↦ same_counts a b k e q i l | inr m ↦ absurd (omega arith) ] ]

count_small : (a k : ℕ) → bit_count k a ≤ k
unfolding bit_count
count_small a zero = omega arith
count_small a (suc k) = let r = count_small a k in let h = bit_at-lt a k in omega arith

counts_fall : (a b : ℕ) → a < 2 ^ 128 → b < 2 ^ 128 → bit_or a b ≡ b → (a ≡ b → ⊥) → 128 - bit_count 128 b < 128 - bit_count 128 a
counts_fall a b h k e n =
    let r = count_within a b 128 e in
    let s = count_small b 128 in
    elim (cases_order (bit_count 128 a) (bit_count 128 b)) [
      | inl p ↦ absurd (n (same_from_bits_below 128 a b h k (same_counts a b 128 e p)))
      | inr t ↦ elim t [ inl l ↦ omega arith | inr m ↦ absurd (omega arith) ]
    ]

pub word_order : OrderLaws word_lattice
word_order = record {
  reflexive = λ a. is_within a a (or_self a);
  transitive = λ a b c h k.
      let e = within_is a b h in
      let f = within_is b c k in
      is_within a c (ap (bit_or a) (sym f) ∙ sym (or_assoc a b c) ∙ ap (λ z. bit_or z c) e ∙ f);
  antisymmetric = λ a b h k. sym (within_is b a k) ∙ or_comm b a ∙ within_is a b h;
  least_below = λ a. is_within 0 a (or_zero a);
  join_left = λ a b. is_within a (bit_or a b) (sym (or_assoc a a b) ∙ ap (λ z. bit_or z b) (or_self a));
  join_right = λ a b. is_within b (bit_or a b) (ap (bit_or b) (or_comm a b) ∙ sym (or_assoc b b a) ∙ ap (λ z. bit_or z a) (or_self b) ∙ or_comm b a);
  join_least = λ a b c h k. is_within (bit_or a b) c (or_assoc a b c ∙ ap (bit_or a) (within_is b c k) ∙ within_is a c h);
}

pub word_rounding : RoundLaws word_lattice
word_rounding = record {
  rises = λ list a. is_within a a (or_self a);
  monotone = λ list a b h. h;
  idempotent = λ list a. refl;
}

pub word_heights : HeightLaws word_lattice
word_heights = record {
  least_within = λ list. refl;
  join_within = λ list a b h k. lt-ltb _ _ (or_lt 128 a b (ltb-true _ _ h) (ltb-true _ _ k));
  round_within = λ list a h. h;
  falls = λ list a b s t u v h n. counts_fall a b (ltb-true _ _ s) (ltb-true _ _ t) (within_is a b h) (λ (e : a ≡ b). false≢true (sym n ∙ subst (λ z. word_within b z ≡ true) (sym e) (is_within b b (or_self b))));
  bounded = λ list a. omega arith;
}

-- ---- eight words

abbrev pub Words : Type 0
Words = ℕ × (ℕ × (ℕ × (ℕ × (ℕ × (ℕ × (ℕ × ℕ))))))

abbrev pub words_of : Bases → Words
words_of s = (s.word0, (s.word1, (s.word2, (s.word3, (s.word4, (s.word5, (s.word6, s.word7)))))))

abbrev pub from_words : Words → Bases
from_words w = record { word0 = w.0; word1 = w.1.0; word2 = w.1.1.0; word3 = w.1.1.1.0; word4 = w.1.1.1.1.0; word5 = w.1.1.1.1.1.0; word6 = w.1.1.1.1.1.1.0; word7 = w.1.1.1.1.1.1.1 }

abbrev pub words_lattice : LatticeOf Words
words_lattice = pair_lattice word_lattice (pair_lattice word_lattice (pair_lattice word_lattice (pair_lattice word_lattice (pair_lattice word_lattice (pair_lattice word_lattice (pair_lattice word_lattice word_lattice))))))

abbrev pub bases_lattice : LatticeOf Bases
bases_lattice = image_lattice words_of from_words words_lattice

order2 : OrderLaws (pair_lattice word_lattice word_lattice)
order2 = pair_order word_order word_order

heights2 : HeightLaws (pair_lattice word_lattice word_lattice)
heights2 = pair_heights word_order word_order word_heights word_heights

order3 : OrderLaws (pair_lattice word_lattice (pair_lattice word_lattice word_lattice))
order3 = pair_order word_order order2

heights3 : HeightLaws (pair_lattice word_lattice (pair_lattice word_lattice word_lattice))
heights3 = pair_heights word_order order2 word_heights heights2

order4 : OrderLaws (pair_lattice word_lattice (pair_lattice word_lattice (pair_lattice word_lattice word_lattice)))
order4 = pair_order word_order order3

heights4 : HeightLaws (pair_lattice word_lattice (pair_lattice word_lattice (pair_lattice word_lattice word_lattice)))
heights4 = pair_heights word_order order3 word_heights heights3

order5 : OrderLaws (pair_lattice word_lattice (pair_lattice word_lattice (pair_lattice word_lattice (pair_lattice word_lattice word_lattice))))
order5 = pair_order word_order order4

heights5 : HeightLaws (pair_lattice word_lattice (pair_lattice word_lattice (pair_lattice word_lattice (pair_lattice word_lattice word_lattice))))
heights5 = pair_heights word_order order4 word_heights heights4

order6 : OrderLaws (pair_lattice word_lattice (pair_lattice word_lattice (pair_lattice word_lattice (pair_lattice word_lattice (pair_lattice word_lattice word_lattice)))))
order6 = pair_order word_order order5

heights6 : HeightLaws (pair_lattice word_lattice (pair_lattice word_lattice (pair_lattice word_lattice (pair_lattice word_lattice (pair_lattice word_lattice word_lattice)))))
heights6 = pair_heights word_order order5 word_heights heights5

order7 : OrderLaws (pair_lattice word_lattice (pair_lattice word_lattice (pair_lattice word_lattice (pair_lattice word_lattice (pair_lattice word_lattice (pair_lattice word_lattice word_lattice))))))
order7 = pair_order word_order order6

heights7 : HeightLaws (pair_lattice word_lattice (pair_lattice word_lattice (pair_lattice word_lattice (pair_lattice word_lattice (pair_lattice word_lattice (pair_lattice word_lattice word_lattice))))))
heights7 = pair_heights word_order order6 word_heights heights6

order8 : OrderLaws (pair_lattice word_lattice (pair_lattice word_lattice (pair_lattice word_lattice (pair_lattice word_lattice (pair_lattice word_lattice (pair_lattice word_lattice (pair_lattice word_lattice word_lattice)))))))
order8 = pair_order word_order order7

heights8 : HeightLaws (pair_lattice word_lattice (pair_lattice word_lattice (pair_lattice word_lattice (pair_lattice word_lattice (pair_lattice word_lattice (pair_lattice word_lattice (pair_lattice word_lattice word_lattice)))))))
heights8 = pair_heights word_order order7 word_heights heights7

pub bases_order : OrderLaws bases_lattice
bases_order = image_order words_of from_words (λ x. refl) (λ y. refl) order8

pub bases_rounding : RoundLaws bases_lattice
bases_rounding = image_rounding words_of from_words (λ x. refl) (λ y. refl)
    (pair_rounding word_rounding (pair_rounding word_rounding (pair_rounding word_rounding (pair_rounding word_rounding (pair_rounding word_rounding (pair_rounding word_rounding (pair_rounding word_rounding word_rounding)))))))

pub bases_heights : HeightLaws bases_lattice
bases_heights = image_heights words_of from_words (λ x. refl) (λ y. refl) heights8
