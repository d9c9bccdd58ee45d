-- Sets of bases as sets: what each operation has.
use Rattle.std.specs.Prelude.{◌≡◌, ℕ, ◌/◌, ◌%◌, ◌^◌, ◌<◌, Bool, true, false, ◌&&◌, ◌||◌, ◌==◌, bit_or, max, ◌≢◌}
use Rattle.std.specs.Int.{bit_at}
use Rattle.std.proofs.Common.{arith, ap, ◌∙◌, sym, subst, inl, inr}
use Rattle.std.proofs.lemmas.Bool.{cases_Bool, and_parts, eqb-true}
use Rattle.std.proofs.lemmas.Nat.Bits.{bit_at_or, bit_at-lt, bit_at-pow_same, bit_at-pow_other}
use Rattle.pointer_domain.specs.declared.base_sets.Bases.{Bases}
use Rattle.pointer_domain.specs.BaseSets.{word_of, with_word, bases_has, bases_union, bases_within, bases_with, word_within}

-- a word of a union is the union of the words
pub word_of_union : (s t : Bases) (i : ℕ) → word_of (bases_union s t) i ≡ bit_or (word_of s i) (word_of t i)
word_of_union s t i = elim (cases_Bool (i == 0)) [
  | inl e ↦ grind arith
  | inr a ↦ elim (cases_Bool (i == 1)) [
    | inl e ↦ grind arith
    | inr b ↦ elim (cases_Bool (i == 2)) [
      | inl e ↦ grind arith
      | inr c ↦ elim (cases_Bool (i == 3)) [
        | inl e ↦ grind arith
        | inr d ↦ elim (cases_Bool (i == 4)) [
          | inl e ↦ grind arith
          | inr f ↦ elim (cases_Bool (i == 5)) [
            | inl e ↦ grind arith
            | inr g ↦ elim (cases_Bool (i == 6)) [ inl e ↦ grind arith | inr h ↦ grind arith ]
          ]
        ]
      ]
    ]
  ]
]

bit_is : (a b : ℕ) → a < 2 → b < 2 → (max a b == 1) ≡ ((a == 1) || (b == 1))
bit_is a b h k = grind arith

-- a union has the bases of both
pub union_has : (s t : Bases) (n : ℕ) → bases_has (bases_union s t) n ≡ (bases_has s n || bases_has t n)
union_has s t n =
    let i = n / 128 in
    let k = n % 128 in
    let e : bit_at (word_of (bases_union s t) i) k ≡ max (bit_at (word_of s i) k) (bit_at (word_of t i) k) = ap (λ w. bit_at w k) (word_of_union s t i) ∙ bit_at_or (word_of s i) (word_of t i) k in
    ap (λ b. b == 1) e ∙ bit_is _ _ (bit_at-lt (word_of s i) k) (bit_at-lt (word_of t i) k)

within_is : (a b : ℕ) → word_within a b ≡ true → bit_or a b ≡ b
within_is a b h = eqb-true (bit_or a b) b h

-- a set within another adds nothing to it
pub union_within : (s t : Bases) → bases_within s t ≡ true → bases_union s t ≡ t
union_within s t h =
    let a = and_parts (word_within s.word0 t.word0) (word_within s.word1 t.word1 && (word_within s.word2 t.word2 && (word_within s.word3 t.word3 && (word_within s.word4 t.word4 && (word_within s.word5 t.word5 && (word_within s.word6 t.word6 && word_within s.word7 t.word7)))))) h in
    let b = and_parts (word_within s.word1 t.word1) (word_within s.word2 t.word2 && (word_within s.word3 t.word3 && (word_within s.word4 t.word4 && (word_within s.word5 t.word5 && (word_within s.word6 t.word6 && word_within s.word7 t.word7))))) a.1 in
    let c = and_parts (word_within s.word2 t.word2) (word_within s.word3 t.word3 && (word_within s.word4 t.word4 && (word_within s.word5 t.word5 && (word_within s.word6 t.word6 && word_within s.word7 t.word7)))) b.1 in
    let d = and_parts (word_within s.word3 t.word3) (word_within s.word4 t.word4 && (word_within s.word5 t.word5 && (word_within s.word6 t.word6 && word_within s.word7 t.word7))) c.1 in
    let e = and_parts (word_within s.word4 t.word4) (word_within s.word5 t.word5 && (word_within s.word6 t.word6 && word_within s.word7 t.word7)) d.1 in
    let f = and_parts (word_within s.word5 t.word5) (word_within s.word6 t.word6 && word_within s.word7 t.word7) e.1 in
    let g = and_parts (word_within s.word6 t.word6) (word_within s.word7 t.word7) f.1 in
    let p0 = within_is s.word0 t.word0 a.0 in
    let p1 = within_is s.word1 t.word1 b.0 in
    let p2 = within_is s.word2 t.word2 c.0 in
    let p3 = within_is s.word3 t.word3 d.0 in
    let p4 = within_is s.word4 t.word4 e.0 in
    let p5 = within_is s.word5 t.word5 f.0 in
    let p6 = within_is s.word6 t.word6 g.0 in
    let p7 = within_is s.word7 t.word7 g.1 in
    λ i. record { word0 = p0 i; word1 = p1 i; word2 = p2 i; word3 = p3 i; word4 = p4 i; word5 = p5 i; word6 = p6 i; word7 = p7 i }

or_true : (a b : Bool) → a ≡ true → (a || b) ≡ true
or_true a b h = grind arith

-- what is in a set is in each set that it is within
pub within_has : (s t : Bases) (n : ℕ) → bases_within s t ≡ true → bases_has s n ≡ true → bases_has t n ≡ true
within_has s t n h k = subst (λ u. bases_has u n ≡ true) (union_within s t h) (union_has s t n ∙ or_true (bases_has s n) (bases_has t n) k)

-- a word that was set is the word
pub word_of_same : (s : Bases) (i w : ℕ) → word_of (with_word s i w) i ≡ w
word_of_same s i w = elim (cases_Bool (i == 0)) [
  | inl e ↦ grind arith
  | inr a ↦ elim (cases_Bool (i == 1)) [
    | inl e ↦ grind arith
    | inr b ↦ elim (cases_Bool (i == 2)) [
      | inl e ↦ grind arith
      | inr c ↦ elim (cases_Bool (i == 3)) [
        | inl e ↦ grind arith
        | inr d ↦ elim (cases_Bool (i == 4)) [
          | inl e ↦ grind arith
          | inr f ↦ elim (cases_Bool (i == 5)) [
            | inl e ↦ grind arith
            | inr g ↦ elim (cases_Bool (i == 6)) [ inl e ↦ grind arith | inr h ↦ grind arith ]
          ]
        ]
      ]
    ]
  ]
]

differ : (i j k : ℕ) → (i == j) ≡ false → (i == k) ≡ true → (j == k) ≡ false
differ i j k h e = grind arith

-- the other words stay
pub word_of_other : (s : Bases) (i j w : ℕ) → i < 8 → j < 8 → (i == j) ≡ false → word_of (with_word s i w) j ≡ word_of s j
word_of_other s i j w p q n = elim (cases_Bool (i == 0)) [
  | inl e ↦ (let d = differ i j 0 n e in grind arith)
  | inr a ↦ elim (cases_Bool (i == 1)) [
    | inl e ↦ (let d = differ i j 1 n e in grind arith)
    | inr b ↦ elim (cases_Bool (i == 2)) [
      | inl e ↦ (let d = differ i j 2 n e in grind arith)
      | inr c ↦ elim (cases_Bool (i == 3)) [
        | inl e ↦ (let d = differ i j 3 n e in grind arith)
        | inr d ↦ elim (cases_Bool (i == 4)) [
          | inl e ↦ (let d = differ i j 4 n e in grind arith)
          | inr f ↦ elim (cases_Bool (i == 5)) [
            | inl e ↦ (let d = differ i j 5 n e in grind arith)
            | inr g ↦ elim (cases_Bool (i == 6)) [ inl e ↦ (let d = differ i j 6 n e in grind arith) | inr h ↦ (let u : i ≡ 7 = grind arith in let v : (j == 7) ≡ false = grind arith in grind arith) ]
          ]
        ]
      ]
    ]
  ]
]

bit_set : (w k i : ℕ) → bit_at (bit_or w (2 ^ k)) i ≡ max (bit_at w i) (bit_at (2 ^ k) i)
bit_set w k i = bit_at_or w (2 ^ k) i

same_base : (b n : ℕ) → b / 128 ≡ n / 128 → b % 128 ≡ n % 128 → b ≡ n
same_base b n h k = omega arith

one_is : (x y : ℕ) → x < 2 → y ≡ 1 → (max x y == 1) ≡ true
one_is x y h e = grind arith

zero_is : (x y : ℕ) → y ≡ 0 → (max x y == 1) ≡ (x == 1)
zero_is x y e = grind arith

-- the base that was added is there
pub with_has_same : (s : Bases) (n : ℕ) → bases_has (bases_with s n) n ≡ true
with_has_same s n =
    let w = word_of s (n / 128) in
    let e : bit_at (word_of (bases_with s n) (n / 128)) (n % 128) ≡ max (bit_at w (n % 128)) (bit_at (2 ^ (n % 128)) (n % 128)) = ap (λ v. bit_at v (n % 128)) (word_of_same s (n / 128) (bit_or w (2 ^ (n % 128)))) ∙ bit_set w (n % 128) (n % 128) in
    ap (λ v. v == 1) e ∙ one_is _ _ (bit_at-lt w (n % 128)) (bit_at-pow_same (n % 128))

-- the other bases are as before
pub with_has_other : (s : Bases) (b n : ℕ) → b < 1016 → n < 1016 → (b ≡ n → ⊥) → bases_has (bases_with s b) n ≡ bases_has s n
with_has_other s b n p q f = elim (cases_Bool (b / 128 == n / 128)) [
  | inr g ↦ ap (λ v. bit_at v (n % 128) == 1) (word_of_other s (b / 128) (n / 128) (bit_or (word_of s (b / 128)) (2 ^ (b % 128))) (omega arith) (omega arith) g)
  | inl e ↦ (let h : b / 128 ≡ n / 128 = eqb-true (b / 128) (n / 128) e in
      let w = word_of s (b / 128) in
      let d : n % 128 ≢ b % 128 = λ (k : n % 128 ≡ b % 128). f (same_base b n h (sym k)) in
      let r : bases_has (bases_with s b) n ≡ (bit_at (bit_or w (2 ^ (b % 128))) (n % 128) == 1) = subst (λ j. (bit_at (word_of (bases_with s b) j) (n % 128) == 1) ≡ (bit_at (bit_or w (2 ^ (b % 128))) (n % 128) == 1)) h (ap (λ v. bit_at v (n % 128) == 1) (word_of_same s (b / 128) (bit_or w (2 ^ (b % 128))))) in
      r ∙ (ap (λ v. v == 1) (bit_set w (b % 128) (n % 128)) ∙ (zero_is _ _ (bit_at-pow_other (b % 128) (n % 128) d) ∙ ap (λ j. bit_at (word_of s j) (n % 128) == 1) h)))
]
