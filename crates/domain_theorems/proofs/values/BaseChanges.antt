-- What a set without a base has, and that a set of one base has no other.
use Rattle.std.specs.Prelude.{◌≡◌, ℕ, ◌-◌, ◌/◌, ◌%◌, ◌^◌, ◌<◌, Bool, true, false, ◌==◌, bit_and, bit_or, ◌≢◌, refl}
use Rattle.std.specs.Int.{bit_at, bit_not, w128}
use Rattle.std.proofs.Common.{arith, ap, ◌∙◌, sym, subst, inl, inr}
use Rattle.std.proofs.lemmas.Nat.{pow_below}
use Rattle.std.proofs.lemmas.Nat.Bits.{bit_at_or, bit_at_and, bit_at_not, bit_at-lt, bit_at-pow_same, bit_at-pow_other, bit_at-zero}
use Rattle.std.proofs.lemmas.Bool.{cases_Bool, eqb-true, cases_order}
use Rattle.pointer_domain.specs.BaseSets.{no_base, word_of, word_within, bases_has, bases_with, bases_without, bases_within, bases_empty, bases_count}
use Rattle.pointer_domain.specs.BaseFacts.{word_of_same, word_of_other, with_has_same, with_has_other}
use Rattle.pointer_domain.specs.BaseLattice.{bases_order}
use Rattle.pointer_domain.specs.declared.base_sets.Bases.{Bases}
use Rattle.domain_theorems.specs.Values.BaseMeaning.{IsBase, WithoutMeaning}
use Rattle.domain_theorems.proofs.values.Bases.{one_base, no_count, empty_within}
use Rattle.domain_theorems.proofs.values.Renames.{word_in, with_within, own_word, within_from, bit_less}

-- ---- without a base

cleared_bit : (w k : ℕ) → k < 128 → bit_at (bit_and w (bit_not w128 (2 ^ k))) k ≡ 0
cleared_bit w k h =
    let e = bit_at_and w (bit_not w128 (2 ^ k)) k in
    let f : bit_at (bit_not w128 (2 ^ k)) k ≡ 1 - bit_at (2 ^ k) k = bit_at_not w128 (2 ^ k) k (pow_below k 128 h) h in
    let g = bit_at-pow_same k in
    omega arith

kept_bit : (w k i : ℕ) → k < 128 → i < 128 → i ≢ k → bit_at (bit_and w (bit_not w128 (2 ^ k))) i ≡ bit_at w i
kept_bit w k i h j d =
    let e = bit_at_and w (bit_not w128 (2 ^ k)) i in
    let f : bit_at (bit_not w128 (2 ^ k)) i ≡ 1 - bit_at (2 ^ k) i = bit_at_not w128 (2 ^ k) i (pow_below k 128 h) j in
    let g = bit_at-pow_other k i d in
    let m = bit_at-lt w i in
    omega arith

no_bit : (b : ℕ) → b ≡ 0 → (b == 1) ≡ false
no_bit b e = grind arith

pub without_gone : (s : Bases) (base : ℕ) → bases_has (bases_without s base) base ≡ false
without_gone s base = no_bit _ (ap (λ w. bit_at w (base % 128)) (word_of_same s (base / 128) (bit_and (word_of s (base / 128)) (bit_not w128 (2 ^ (base % 128))))) ∙ cleared_bit (word_of s (base / 128)) (base % 128) (omega arith))

same_base : (b n : ℕ) → b / 128 ≡ n / 128 → b % 128 ≡ n % 128 → b ≡ n
same_base b n h k = omega arith

pub without_others : (s : Bases) (base other : ℕ) → IsBase base → IsBase other → (base ≡ other → ⊥) → bases_has (bases_without s base) other ≡ bases_has s other
without_others s base other p q f = elim (cases_Bool (base / 128 == other / 128)) [
  | inr g ↦ ap (λ w. bit_at w (other % 128) == 1) (word_of_other s (base / 128) (other / 128) (bit_and (word_of s (base / 128)) (bit_not w128 (2 ^ (base % 128)))) (omega arith) (omega arith) g)
  | inl e ↦ (let h : base / 128 ≡ other / 128 = eqb-true (base / 128) (other / 128) e in
      let d : other % 128 ≢ base % 128 = λ (k : other % 128 ≡ base % 128). f (same_base base other h (sym k)) in
      subst (λ j. (bit_at (word_of (bases_without s base) j) (other % 128) == 1) ≡ (bit_at (word_of s j) (other % 128) == 1)) h
      (ap (λ w. bit_at w (other % 128) == 1) (word_of_same s (base / 128) (bit_and (word_of s (base / 128)) (bit_not w128 (2 ^ (base % 128)))))
      ∙ ap (λ b. b == 1) (kept_bit (word_of s (base / 128)) (base % 128) (other % 128) (omega arith) (omega arith) d)))
]

pub without_meaning : WithoutMeaning
without_meaning = record { gone = without_gone; others = without_others }

-- ---- a set of one base

pub bit_of : (s : Bases) (base : ℕ) → bases_has s base ≡ true → bit_at (word_of s (base / 128)) (base % 128) ≡ 1
bit_of s base h = eqb-true (bit_at (word_of s (base / 128)) (base % 128)) 1 h

-- a word that has a bit has that bit and all of a word below it
pub or_below : (x w k : ℕ) → word_within x w ≡ true → bit_at w k ≡ 1 → word_within (bit_or x (2 ^ k)) w ≡ true
or_below x w k h e = within_from (bit_or x (2 ^ k)) w (λ i.
    let f = bit_at_or x (2 ^ k) i in
    let g = bit_less x w i h in
    elim (cases_order i k) [
      | inl q ↦ (let r : bit_at w i ≡ 1 = subst (λ j. bit_at w j ≡ 1) (sym q) e in let u = bit_at-lt x i in let v = bit_at-lt (2 ^ k) i in omega arith)
      | inr q ↦ (let d : i ≢ k = λ (z : i ≡ k). elim q [ inl y ↦ omega arith | inr y ↦ omega arith ] in let u = bit_at-pow_other k i d in omega arith)
    ])

-- each word of the empty set is 0
no_word_in : (a b c d e f g : Bool) → word_in a b c d e f g no_base ≡ 0
no_word_in true b c d e f g = refl
no_word_in false true c d e f g = refl
no_word_in false false true d e f g = refl
no_word_in false false false true e f g = refl
no_word_in false false false false true f g = refl
no_word_in false false false false false true g = refl
no_word_in false false false false false false true = refl
no_word_in false false false false false false false = refl

pub no_word_is : (i : ℕ) → word_of no_base i ≡ 0
no_word_is i = no_word_in (i == 0) (i == 1) (i == 2) (i == 3) (i == 4) (i == 5) (i == 6)

no_word : (w i : ℕ) → word_within (word_of no_base i) w ≡ true
no_word w i = within_from (word_of no_base i) w (λ k. let e : bit_at (word_of no_base i) k ≡ bit_at 0 k = ap (λ z. bit_at z k) (no_word_is i) in let z = bit_at-zero k in omega arith)

nothing_has : (base : ℕ) → bases_has no_base base ≡ true → ⊥
nothing_has base h =
    let e : bit_at (word_of no_base (base / 128)) (base % 128) ≡ bit_at 0 (base % 128) = ap (λ z. bit_at z (base % 128)) (no_word_is (base / 128)) in
    let z = bit_at-zero (base % 128) in
    let f = bit_of no_base base h in
    omega arith

alone_within : (s : Bases) (base : ℕ) → bases_has s base ≡ true → bases_within (bases_with no_base base) s ≡ true
alone_within s base h =
    let below : bases_within no_base s ≡ true = bases_order.least_below s in
    subst (λ t. bases_within (bases_with no_base base) t ≡ true) (own_word s (base / 128))
    (with_within no_base s below (base / 128) (bit_or (word_of no_base (base / 128)) (2 ^ (base % 128))) (word_of s (base / 128))
    (or_below (word_of no_base (base / 128)) (word_of s (base / 128)) (base % 128) (no_word (word_of s (base / 128)) (base / 128)) (bit_of s base h)))

pub has_none : (s : Bases) (base : ℕ) → bases_empty s ≡ true → bases_has s base ≡ true → ⊥
has_none s base e h =
    let w = bases_order.antisymmetric s no_base (empty_within s no_base e) (bases_order.least_below s) in
    let f : bases_has no_base base ≡ true = subst (λ t. bases_has t base ≡ true) w h in
    nothing_has base f

alone_is : (s : Bases) (base : ℕ) → bases_count s ≡ 1 → bases_has s base ≡ true → bases_with no_base base ≡ s
alone_is s base c h = one_base (bases_with no_base base) s (alone_within s base h)
    (λ (z : bases_count (bases_with no_base base) ≡ 0). has_none (bases_with no_base base) base (no_count (bases_with no_base base) z) (with_has_same no_base base)) c

pub only_base : (s : Bases) (base other : ℕ) → IsBase base → IsBase other → bases_count s ≡ 1 → bases_has s base ≡ true → bases_has s other ≡ true → (base ≡ other → ⊥) → ⊥
only_base s base other p q c h k d =
    let e = alone_is s base c h in
    let f : bases_has (bases_with no_base base) other ≡ true = subst (λ t. bases_has t other ≡ true) (sym e) k in
    nothing_has other (sym (with_has_other no_base base other p q d) ∙ f)
