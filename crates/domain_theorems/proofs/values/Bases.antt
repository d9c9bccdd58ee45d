-- Sets of bases in order, and a set of one base.
use Rattle.std.specs.Prelude.{◌≡◌, ℕ, zero, suc, ◌+◌, ◌≤◌, ◌/◌, true, ◌&&◌, ◌==◌, bit_and, bit_or, count_ones}
use Rattle.std.specs.Int.{bit_at}
use Rattle.std.proofs.Common.{arith, ap, ◌∙◌, sym, subst}
use Rattle.std.proofs.lemmas.Nat.{zero_from_ones}
use Rattle.std.proofs.lemmas.Nat.Bits.{bit_at_or, bit_at_and, bit_at_lowest, bit_at-suc, bit_at-zero, same_from_bits}
use Rattle.std.proofs.lemmas.Bool.{and_parts, and_from, eqb-true, eq-eqb}
use lib.Count.{ones_step}
use Rattle.pointer_domain.specs.BaseSets.{no_base, bases_within, bases_meet, bases_empty, bases_count, word_within, word_meets}
use Rattle.pointer_domain.specs.BaseLattice.{bases_order}
use Rattle.pointer_domain.specs.declared.base_sets.Bases.{Bases}
use Rattle.domain_theorems.proofs.values.Flags.{Sets, or_sets, and_sets, not_sets}

bit_less : (a b i : ℕ) → bit_or a b ≡ b → bit_at a i ≤ bit_at b i
bit_less a b i e = let f = bit_at_or a b i in let g : bit_at (bit_or a b) i ≡ bit_at b i = ap (λ z. bit_at z i) e in omega arith

halves : (a b : ℕ) → ((i : ℕ) → bit_at a i ≤ bit_at b i) → (i : ℕ) → bit_at (a / 2) i ≤ bit_at (b / 2) i
halves a b h i = let k = h (suc i) in let e = bit_at-suc a i in let f = bit_at-suc b i in omega arith

-- a word within another has no more bits, and with as many it is the other
counts : (d a b : ℕ) → a ≤ d → b ≤ d → ((i : ℕ) → bit_at a i ≤ bit_at b i) → (count_ones a ≤ count_ones b) × (count_ones a ≡ count_ones b → a ≡ b)
counts zero a b p q h = let e : a ≡ 0 = omega arith in let f : b ≡ 0 = omega arith in let g : a ≡ b = e ∙ sym f in let c : count_ones a ≡ count_ones b = ap count_ones g in (omega arith, λ k. g)
counts (suc d) a b p q h =
    let s = ones_step a in
    let t = ones_step b in
    let r = counts d (a / 2) (b / 2) (omega arith) (omega arith) (halves a b h) in
    let u = h 0 in
    let v = bit_at_lowest a in
    let w = bit_at_lowest b in
    let c = r.0 in
    (omega arith, λ k. let x : count_ones (a / 2) ≡ count_ones (b / 2) = omega arith in let y : a / 2 ≡ b / 2 = r.1 x in omega arith)

word_counts : (a b : ℕ) → word_within a b ≡ true → (count_ones a ≤ count_ones b) × (count_ones a ≡ count_ones b → a ≡ b)
word_counts a b h = counts (a + b) a b (omega arith) (omega arith) (λ i. bit_less a b i (eqb-true (bit_or a b) b h))

pub record WordsWithin (s t : Bases) : Type 0 where
  pub at0 : word_within s.word0 t.word0 ≡ true
  pub at1 : word_within s.word1 t.word1 ≡ true
  pub at2 : word_within s.word2 t.word2 ≡ true
  pub at3 : word_within s.word3 t.word3 ≡ true
  pub at4 : word_within s.word4 t.word4 ≡ true
  pub at5 : word_within s.word5 t.word5 ≡ true
  pub at6 : word_within s.word6 t.word6 ≡ true
  pub at7 : word_within s.word7 t.word7 ≡ true

pub words_within : (s t : Bases) → bases_within s t ≡ true → WordsWithin s t
words_within s t h =
    let a = and_parts (word_within s.word0 t.word0) (word_within s.word1 t.word1 && (word_within s.word2 t.word2 && (word_within s.word3 t.word3 && (word_within s.word4 t.word4 && (word_within s.word5 t.word5 && (word_within s.word6 t.word6 && word_within s.word7 t.word7)))))) h in
    let b = and_parts (word_within s.word1 t.word1) (word_within s.word2 t.word2 && (word_within s.word3 t.word3 && (word_within s.word4 t.word4 && (word_within s.word5 t.word5 && (word_within s.word6 t.word6 && word_within s.word7 t.word7))))) a.1 in
    let c = and_parts (word_within s.word2 t.word2) (word_within s.word3 t.word3 && (word_within s.word4 t.word4 && (word_within s.word5 t.word5 && (word_within s.word6 t.word6 && word_within s.word7 t.word7)))) b.1 in
    let d = and_parts (word_within s.word3 t.word3) (word_within s.word4 t.word4 && (word_within s.word5 t.word5 && (word_within s.word6 t.word6 && word_within s.word7 t.word7))) c.1 in
    let e = and_parts (word_within s.word4 t.word4) (word_within s.word5 t.word5 && (word_within s.word6 t.word6 && word_within s.word7 t.word7)) d.1 in
    let f = and_parts (word_within s.word5 t.word5) (word_within s.word6 t.word6 && word_within s.word7 t.word7) e.1 in
    let g = and_parts (word_within s.word6 t.word6) (word_within s.word7 t.word7) f.1 in
    record { at0 = a.0; at1 = b.0; at2 = c.0; at3 = d.0; at4 = e.0; at5 = f.0; at6 = g.0; at7 = g.1 }

-- a set that is not empty and lies within a set of one base is that set
pub one_base : (s t : Bases) → bases_within s t ≡ true → (bases_count s ≡ 0 → ⊥) → bases_count t ≡ 1 → s ≡ t
one_base s t h z e =
    let w = words_within s t h in
    let a = word_counts s.word0 t.word0 w.at0 in
    let b = word_counts s.word1 t.word1 w.at1 in
    let c = word_counts s.word2 t.word2 w.at2 in
    let d = word_counts s.word3 t.word3 w.at3 in
    let f = word_counts s.word4 t.word4 w.at4 in
    let g = word_counts s.word5 t.word5 w.at5 in
    let p = word_counts s.word6 t.word6 w.at6 in
    let q = word_counts s.word7 t.word7 w.at7 in
    let a0 = a.0 in let b0 = b.0 in let c0 = c.0 in let d0 = d.0 in let f0 = f.0 in let g0 = g.0 in let p0 = p.0 in let q0 = q.0 in
    let r0 = a.1 (omega arith) in
    let r1 = b.1 (omega arith) in
    let r2 = c.1 (omega arith) in
    let r3 = d.1 (omega arith) in
    let r4 = f.1 (omega arith) in
    let r5 = g.1 (omega arith) in
    let r6 = p.1 (omega arith) in
    let r7 = q.1 (omega arith) in
    λ i. record { word0 = r0 i; word1 = r1 i; word2 = r2 i; word3 = r3 i; word4 = r4 i; word5 = r5 i; word6 = r6 i; word7 = r7 i }

-- a set without bases is empty
pub no_count : (s : Bases) → bases_count s ≡ 0 → bases_empty s ≡ true
no_count s e =
    let z0 = zero_from_ones s.word0 (omega arith) in let z1 = zero_from_ones s.word1 (omega arith) in let z2 = zero_from_ones s.word2 (omega arith) in let z3 = zero_from_ones s.word3 (omega arith) in
    let z4 = zero_from_ones s.word4 (omega arith) in let z5 = zero_from_ones s.word5 (omega arith) in let z6 = zero_from_ones s.word6 (omega arith) in let z7 = zero_from_ones s.word7 (omega arith) in
    and_from _ _ (eq-eqb s.word0 0 z0) (and_from _ _ (eq-eqb s.word1 0 z1) (and_from _ _ (eq-eqb s.word2 0 z2) (and_from _ _ (eq-eqb s.word3 0 z3) (and_from _ _ (eq-eqb s.word4 0 z4) (and_from _ _ (eq-eqb s.word5 0 z5) (and_from _ _ (eq-eqb s.word6 0 z6) (eq-eqb s.word7 0 z7)))))))

word_zero : (a b : ℕ) → word_within a b ≡ true → Sets (b == 0) (a == 0)
word_zero a b h e =
    let f : b ≡ 0 = eqb-true b 0 e in
    eq-eqb a 0 (same_from_bits a 0 (λ i. let g = bit_less a b i (eqb-true (bit_or a b) b h) in let k : bit_at b i ≡ bit_at 0 i = ap (λ z. bit_at z i) f in let z = bit_at-zero i in omega arith))

pub empty_below : (s t : Bases) → bases_within s t ≡ true → Sets (bases_empty t) (bases_empty s)
empty_below s t h =
    let w = words_within s t h in
    and_sets _ _ _ _ (word_zero s.word0 t.word0 w.at0) (and_sets _ _ _ _ (word_zero s.word1 t.word1 w.at1) (and_sets _ _ _ _ (word_zero s.word2 t.word2 w.at2) (and_sets _ _ _ _ (word_zero s.word3 t.word3 w.at3)
    (and_sets _ _ _ _ (word_zero s.word4 t.word4 w.at4) (and_sets _ _ _ _ (word_zero s.word5 t.word5 w.at5) (and_sets _ _ _ _ (word_zero s.word6 t.word6 w.at6) (word_zero s.word7 t.word7 w.at7)))))))

-- an empty set lies within each
pub empty_within : (s t : Bases) → bases_empty s ≡ true → bases_within s t ≡ true
empty_within s t e =
    let a = and_parts (s.word0 == 0) _ e in
    let c = and_parts (s.word1 == 0) _ a.1 in
    let d = and_parts (s.word2 == 0) _ c.1 in
    let f = and_parts (s.word3 == 0) _ d.1 in
    let g = and_parts (s.word4 == 0) _ f.1 in
    let h = and_parts (s.word5 == 0) _ g.1 in
    let i = and_parts (s.word6 == 0) (s.word7 == 0) h.1 in
    let z : s ≡ no_base = λ j. record { word0 = eqb-true s.word0 0 a.0 j; word1 = eqb-true s.word1 0 c.0 j; word2 = eqb-true s.word2 0 d.0 j; word3 = eqb-true s.word3 0 f.0 j; word4 = eqb-true s.word4 0 g.0 j; word5 = eqb-true s.word5 0 h.0 j; word6 = eqb-true s.word6 0 i.0 j; word7 = eqb-true s.word7 0 i.1 j } in
    subst (λ r. bases_within r t ≡ true) (sym z) (bases_order.least_below t)

-- ---- a common base

and_bits : (a b c d : ℕ) → word_within a c ≡ true → word_within b d ≡ true → bit_and c d ≡ 0 → bit_and a b ≡ 0
and_bits a b c d h k e = same_from_bits (bit_and a b) 0 (λ i.
    let h0 = ap (λ z. bit_at z i) (eqb-true (bit_or a c) c h) in
    let k0 = ap (λ z. bit_at z i) (eqb-true (bit_or b d) d k) in
    let e0 = ap (λ z. bit_at z i) e in
    let f = bit_at_or a c i in
    let g = bit_at_or b d i in
    let p = bit_at_and a b i in
    let q = bit_at_and c d i in
    let z = bit_at-zero i in
    omega arith)

words_meet : (a b c d : ℕ) → word_within a c ≡ true → word_within b d ≡ true → Sets (word_meets a b) (word_meets c d)
words_meet a b c d h k = not_sets (bit_and a b == 0) (bit_and c d == 0) (λ e. eq-eqb (bit_and a b) 0 (and_bits a b c d h k (eqb-true (bit_and c d) 0 e)))

pub sets_meet : (s t u v : Bases) → bases_within s u ≡ true → bases_within t v ≡ true → Sets (bases_meet s t) (bases_meet u v)
sets_meet s t u v h k =
    let a = words_within s u h in
    let b = words_within t v k in
    or_sets _ _ _ _ (words_meet s.word0 t.word0 u.word0 v.word0 a.at0 b.at0) (or_sets _ _ _ _ (words_meet s.word1 t.word1 u.word1 v.word1 a.at1 b.at1) (or_sets _ _ _ _ (words_meet s.word2 t.word2 u.word2 v.word2 a.at2 b.at2) (or_sets _ _ _ _ (words_meet s.word3 t.word3 u.word3 v.word3 a.at3 b.at3)
    (or_sets _ _ _ _ (words_meet s.word4 t.word4 u.word4 v.word4 a.at4 b.at4) (or_sets _ _ _ _ (words_meet s.word5 t.word5 u.word5 v.word5 a.at5 b.at5) (or_sets _ _ _ _ (words_meet s.word6 t.word6 u.word6 v.word6 a.at6 b.at6) (words_meet s.word7 t.word7 u.word7 v.word7 a.at7 b.at7)))))))
