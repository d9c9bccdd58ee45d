-- Sets of the bases below 1,016 are told by what they have.
use Rattle.std.proofs.Common.{◌≡◌, ◌≢◌, ◌∙◌, ◌+◌, ◌*◌, ◌/◌, ◌%◌, ◌^◌, ◌<◌, ◌≤◌, ℕ, zero, suc, max, true, ◌==◌, sym, ap, subst, arith, inl, inr}
use Rattle.std.specs.Prelude.{bit_or}
use Rattle.std.specs.Int.{bit_at}
use Rattle.std.proofs.lemmas.Bool.{cases_Bool, cases_lt, eqb-true}
use Rattle.std.proofs.lemmas.Nat.Bits.{same_from_bits, bit_at_or, bit_at-lt, bit_at-pow_other, bit_at-zero}
use Rattle.pointer_domain.specs.declared.base_sets.Bases.{Bases}
use Rattle.pointer_domain.specs.BaseSets.{no_base, word_of, bases_has, bases_with, bases_within}
use Rattle.pointer_domain.specs.BaseFacts.{word_of_union, word_of_same, word_of_other, union_within}
use Rattle.transfer_system.specs.BoundedRows.OwnRows.{bases_below}
use Rattle.certificate_theorems.specs.Lines.NearRanges.{IsOutside, AreFew}

none_word : (i : ℕ) → word_of no_base i ≡ 0
none_word i = grind arith

pub none_few : AreFew no_base
none_few i k h o = ap (λ w. bit_at w k) (none_word i) ∙ bit_at-zero k

inside : (b i k : ℕ) → b < 1016 → b / 128 ≡ i → IsOutside i k → k ≢ b % 128
inside b i k h e (inl o) f = omega arith
inside b i k h e (inr o) f = omega arith

both_zero : (x y : ℕ) → x ≡ 0 → y ≡ 0 → max x y ≡ 0
both_zero x y e f = grind arith

pub with_few : (s : Bases) (b : ℕ) → AreFew s → b < 1016 → AreFew (bases_with s b)
with_few s b few h i k l o = elim (cases_Bool (b / 128 == i)) [
  | inr g ↦ ap (λ w. bit_at w k) (word_of_other s (b / 128) i (bit_or (word_of s (b / 128)) (2 ^ (b % 128))) (omega arith) l g) ∙ few i k l o
  | inl g ↦ (let e : b / 128 ≡ i = eqb-true (b / 128) i g in
      let here = bit_or (word_of s (b / 128)) (2 ^ (b % 128)) in
      let same : bit_at (word_of (bases_with s b) i) k ≡ bit_at here k = subst (λ j. bit_at (word_of (bases_with s b) j) k ≡ bit_at here k) e (ap (λ w. bit_at w k) (word_of_same s (b / 128) here)) in
      same ∙ bit_at_or (word_of s (b / 128)) (2 ^ (b % 128)) k ∙ both_zero _ _ (few (b / 128) k (omega arith) (subst (λ j. IsOutside j k) (sym e) o)) (bit_at-pow_other (b % 128) k (inside b i k h e o)))
]

pub below_few : (n : ℕ) → n ≤ 1016 → AreFew (bases_below n)
unfolding bases_below
below_few zero h = none_few
below_few (suc n) h = with_few (bases_below n) n (below_few n (omega arith)) (omega arith)

max_zero : (x y : ℕ) → max x y ≡ y → y ≡ 0 → x ≡ 0
max_zero x y e f = grind arith

-- a set within a few is few
pub within_few : (s t : Bases) → bases_within s t ≡ true → AreFew t → AreFew s
within_few s t h few i k l o =
    let union : bit_or (word_of s i) (word_of t i) ≡ word_of t i = sym (word_of_union s t i) ∙ ap (λ u. word_of u i) (union_within s t h) in
    let bits : max (bit_at (word_of s i) k) (bit_at (word_of t i) k) ≡ bit_at (word_of t i) k = sym (bit_at_or (word_of s i) (word_of t i) k) ∙ ap (λ w. bit_at w k) union in
    max_zero _ _ bits (few i k l o)

bit_told : (a b : ℕ) → a < 2 → b < 2 → (a == 1) ≡ (b == 1) → a ≡ b
bit_told a b h k e = grind arith

module _ (s t : Bases) (p : AreFew s) (q : AreFew t) (same : (n : ℕ) → n < 1016 → bases_has s n ≡ bases_has t n) where
  here : (i k : ℕ) → i < 8 → k < 128 → i * 128 + k < 1016 → bit_at (word_of s i) k ≡ bit_at (word_of t i) k
  here i k l m h =
      let a : (i * 128 + k) / 128 ≡ i = omega arith in
      let b : (i * 128 + k) % 128 ≡ k = omega arith in
      let e : (bit_at (word_of s i) k == 1) ≡ (bit_at (word_of t i) k == 1) =
      subst (λ j. (bit_at (word_of s i) j == 1) ≡ (bit_at (word_of t i) j == 1)) b (subst (λ j. (bit_at (word_of s j) ((i * 128 + k) % 128) == 1) ≡ (bit_at (word_of t j) ((i * 128 + k) % 128) == 1)) a (same (i * 128 + k) h)) in
      bit_told _ _ (bit_at-lt (word_of s i) k) (bit_at-lt (word_of t i) k) e

  beyond : (i k : ℕ) → i < 8 → IsOutside i k → bit_at (word_of s i) k ≡ bit_at (word_of t i) k
  beyond i k l o = p i k l o ∙ sym (q i k l o)

  bits : (i : ℕ) → i < 8 → (k : ℕ) → bit_at (word_of s i) k ≡ bit_at (word_of t i) k
  bits i l k = elim (cases_lt k 128) [
    | inr m ↦ beyond i k l (inl m)
    | inl m ↦ elim (cases_lt (i * 128 + k) 1016) [ inl h ↦ here i k l m h | inr h ↦ beyond i k l (inr h) ]
  ]

  word : (i : ℕ) → i < 8 → word_of s i ≡ word_of t i
  word i l = same_from_bits (word_of s i) (word_of t i) (bits i l)

  -- such sets are the same
  pub same_sets : s ≡ t
  same_sets =
      let w0 : s.word0 ≡ t.word0 = word 0 (omega arith) in
      let w1 : s.word1 ≡ t.word1 = word 1 (omega arith) in
      let w2 : s.word2 ≡ t.word2 = word 2 (omega arith) in
      let w3 : s.word3 ≡ t.word3 = word 3 (omega arith) in
      let w4 : s.word4 ≡ t.word4 = word 4 (omega arith) in
      let w5 : s.word5 ≡ t.word5 = word 5 (omega arith) in
      let w6 : s.word6 ≡ t.word6 = word 6 (omega arith) in
      let w7 : s.word7 ≡ t.word7 = word 7 (omega arith) in
      λ i. record { word0 = w0 i; word1 = w1 i; word2 = w2 i; word3 = w3 i; word4 = w4 i; word5 = w5 i; word6 = w6 i; word7 = w7 i }
