-- How many bases sets of bases of a program lack at least, of the 1,024 that their words have room for.
use Rattle.std.specs.Prelude.{◌≡◌, ℕ, zero, suc, ◌+◌, ◌-◌, ◌/◌, ◌%◌, ◌^◌, ◌≤◌, min, true, ◌&&◌, ◌==◌, bit_or, max, ◌≢◌, ℤ, List}
use Rattle.std.specs.Int.{bit_at}
use Rattle.std.proofs.Common.{arith, ap, refl, inl, inr}
use Rattle.std.proofs.lemmas.Bool.{cases_Bool, cases_order, and_parts, eqb-true}
use Rattle.std.proofs.lemmas.Nat.Bits.{bit_at_or, bit_at-lt, bit_at-pow_other, bit_at-zero}
use Rattle.pointer_domain.specs.declared.base_sets.Bases.{Bases}
use Rattle.pointer_domain.specs.BaseSets.{word_of, with_word, bases_within, word_within}
use Rattle.pointer_domain.specs.BaseLattice.{bit_count, bases_lattice}
use Rattle.transfer_system.specs.BoundedRows.OwnRows.{bases_below, program_bases}

-- the bases that no set of a program with so many bases has
abbrev pub spare_bases : ℕ → ℕ
spare_bases count = 1024 - count

-- how many bases a set has, by its words
abbrev members : Bases → ℕ
members s = bit_count 128 s.word0 + (bit_count 128 s.word1 + (bit_count 128 s.word2 + (bit_count 128 s.word3 + (bit_count 128 s.word4 + (bit_count 128 s.word5 + (bit_count 128 s.word6 + bit_count 128 s.word7))))))

-- ---- one more base

bit_set : (w j k : ℕ) → bit_at (bit_or w (2 ^ j)) k ≡ max (bit_at w k) (bit_at (2 ^ j) k)
bit_set w j k = bit_at_or w (2 ^ j) k

bit_other : (w j k : ℕ) → k ≢ j → bit_at (bit_or w (2 ^ j)) k ≤ bit_at w k
bit_other w j k n = let a = bit_set w j k in let b = bit_at-pow_other j k n in omega arith

bit_more : (w j k : ℕ) → bit_at (bit_or w (2 ^ j)) k ≤ bit_at w k + 1
bit_more w j k = let a = bit_set w j k in let b = bit_at-lt (2 ^ j) k in omega arith

-- below the bit that is set nothing changes
count_below : (w j k : ℕ) → k ≤ j → bit_count k (bit_or w (2 ^ j)) ≤ bit_count k w
unfolding bit_count
count_below w j zero h = omega arith
count_below w j (suc k) h = let r = count_below w j k (omega arith) in let s = bit_other w j k (λ (e : k ≡ j). omega arith) in omega arith

count_more : (w j k : ℕ) → bit_count k (bit_or w (2 ^ j)) ≤ bit_count k w + 1
unfolding bit_count
count_more w j zero = omega arith
count_more w j (suc k) =
    elim (cases_order k j) [
      | inl e ↦ let r = count_below w j k (omega arith) in let s = bit_more w j k in omega arith
      | inr t ↦ let r = count_more w j k in elim t [ inl l ↦ let s = bit_other w j k (λ (e : k ≡ j). omega arith) in omega arith | inr g ↦ let s = bit_other w j k (λ (e : k ≡ j). omega arith) in omega arith ]
    ]

-- a word that has one more gives a set that has one more
members_with : (s : Bases) (i w : ℕ) → bit_count 128 w ≤ bit_count 128 (word_of s i) + 1 → members (with_word s i w) ≤ members s + 1
members_with s i w h = elim (cases_Bool (i == 0)) [
  | inl e ↦ grind arith
  | inr a ↦ elim (cases_Bool (i == 1)) [
    | inl e ↦ grind arith
    | inr b ↦ elim (cases_Bool (i == 2)) [
      | inl e ↦ grind arith
      | inr c ↦ elim (cases_Bool (i == 3)) [
        | inl e ↦ grind arith
        | inr d ↦ elim (cases_Bool (i == 4)) [
          | inl e ↦ grind arith
          | inr f ↦ elim (cases_Bool (i == 5)) [
            | inl e ↦ grind arith
            | inr g ↦ elim (cases_Bool (i == 6)) [ inl e ↦ grind arith | inr j ↦ grind arith ]
          ]
        ]
      ]
    ]
  ]
]

none_counted : (k : ℕ) → bit_count k 0 ≡ 0
unfolding bit_count
none_counted zero = refl
none_counted (suc k) = let r = none_counted k in let b = bit_at-zero k in omega arith

members_below : (n : ℕ) → members (bases_below n) ≤ n
unfolding bases_below
members_below zero = let e = none_counted 128 in omega arith
members_below (suc n) =
    let r = members_below n in
    let s = members_with (bases_below n) (n / 128) (bit_or (word_of (bases_below n) (n / 128)) (2 ^ (n % 128))) (count_more (word_of (bases_below n) (n / 128)) (n % 128) 128) in
    omega arith

-- ---- sets within others

bit_within : (a b i : ℕ) → bit_or a b ≡ b → bit_at a i ≤ bit_at b i
bit_within a b i e = let f = bit_at_or a b i in let g : bit_at (bit_or a b) i ≡ bit_at b i = ap (λ z. bit_at z i) e in omega arith

count_within : (a b k : ℕ) → bit_or a b ≡ b → bit_count k a ≤ bit_count k b
unfolding bit_count
count_within a b zero e = omega arith
count_within a b (suc k) e = let r = count_within a b k e in let h = bit_within a b k e in omega arith

word_members : (a b : ℕ) → word_within a b ≡ true → bit_count 128 a ≤ bit_count 128 b
word_members a b h = count_within a b 128 (eqb-true (bit_or a b) b h)

members_within : (s t : Bases) → bases_within s t ≡ true → members s ≤ members t
members_within s t h =
    let a = and_parts (word_within s.word0 t.word0) (word_within s.word1 t.word1 && (word_within s.word2 t.word2 && (word_within s.word3 t.word3 && (word_within s.word4 t.word4 && (word_within s.word5 t.word5 && (word_within s.word6 t.word6 && word_within s.word7 t.word7)))))) h in
    let b = and_parts (word_within s.word1 t.word1) (word_within s.word2 t.word2 && (word_within s.word3 t.word3 && (word_within s.word4 t.word4 && (word_within s.word5 t.word5 && (word_within s.word6 t.word6 && word_within s.word7 t.word7))))) a.1 in
    let c = and_parts (word_within s.word2 t.word2) (word_within s.word3 t.word3 && (word_within s.word4 t.word4 && (word_within s.word5 t.word5 && (word_within s.word6 t.word6 && word_within s.word7 t.word7)))) b.1 in
    let d = and_parts (word_within s.word3 t.word3) (word_within s.word4 t.word4 && (word_within s.word5 t.word5 && (word_within s.word6 t.word6 && word_within s.word7 t.word7))) c.1 in
    let e = and_parts (word_within s.word4 t.word4) (word_within s.word5 t.word5 && (word_within s.word6 t.word6 && word_within s.word7 t.word7)) d.1 in
    let f = and_parts (word_within s.word5 t.word5) (word_within s.word6 t.word6 && word_within s.word7 t.word7) e.1 in
    let g = and_parts (word_within s.word6 t.word6) (word_within s.word7 t.word7) f.1 in
    let p0 = word_members s.word0 t.word0 a.0 in
    let p1 = word_members s.word1 t.word1 b.0 in
    let p2 = word_members s.word2 t.word2 c.0 in
    let p3 = word_members s.word3 t.word3 d.0 in
    let p4 = word_members s.word4 t.word4 e.0 in
    let p5 = word_members s.word5 t.word5 f.0 in
    let p6 = word_members s.word6 t.word6 g.0 in
    let p7 = word_members s.word7 t.word7 g.1 in
    omega arith

at_most : (a b c : ℕ) → a ≤ b → b ≤ c → a ≤ c
at_most a b c h k = omega arith

both_sides : (a b c : ℕ) → b ≤ c → a + b ≤ a + c
both_sides a b c h = omega arith

-- what two parts lack is at least what the whole lacks
lacking : (m n a b : ℕ) → (m + n) - (a + b) ≤ (m - a) + (n - b)
lacking m n a b = omega arith

all_lacking : (c0 c1 c2 c3 c4 c5 c6 c7 : ℕ) → 1024 - (c0 + (c1 + (c2 + (c3 + (c4 + (c5 + (c6 + c7))))))) ≤ (128 - c0) + ((128 - c1) + ((128 - c2) + ((128 - c3) + ((128 - c4) + ((128 - c5) + ((128 - c6) + (128 - c7)))))))
all_lacking c0 c1 c2 c3 c4 c5 c6 c7 =
    let a = lacking 128 896 c0 (c1 + (c2 + (c3 + (c4 + (c5 + (c6 + c7)))))) in
    let b = lacking 128 768 c1 (c2 + (c3 + (c4 + (c5 + (c6 + c7))))) in
    let c = lacking 128 640 c2 (c3 + (c4 + (c5 + (c6 + c7)))) in
    let d = lacking 128 512 c3 (c4 + (c5 + (c6 + c7))) in
    let e = lacking 128 384 c4 (c5 + (c6 + c7)) in
    let f = lacking 128 256 c5 (c6 + c7) in
    let g = lacking 128 128 c6 c7 in
    at_most _ _ _ a (both_sides _ _ _ (at_most _ _ _ b (both_sides _ _ _ (at_most _ _ _ c (both_sides _ _ _ (at_most _ _ _ d (both_sides _ _ _ (at_most _ _ _ e (both_sides _ _ _ (at_most _ _ _ f (both_sides _ _ _ g)))))))))))

few_spare : (count m : ℕ) → m ≤ min count 1016 → spare_bases count ≤ 1024 - m
few_spare count m h = omega arith

-- a set of a program's bases can still get each base that the program does not have
pub ranks_spare : (count : ℕ) (list : List ℤ) (s : Bases) → bases_within s (program_bases count) ≡ true → spare_bases count ≤ bases_lattice.rank list s
ranks_spare count list s h =
    let a = members_within s (program_bases count) h in
    let b = members_below (min count 1016) in
    let c = few_spare count (members s) (at_most _ _ _ a b) in
    at_most _ _ _ c (all_lacking (bit_count 128 s.word0) (bit_count 128 s.word1) (bit_count 128 s.word2) (bit_count 128 s.word3) (bit_count 128 s.word4) (bit_count 128 s.word5) (bit_count 128 s.word6) (bit_count 128 s.word7))
