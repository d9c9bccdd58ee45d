-- Pointer parts whose bases are renamed or have ended.
use Rattle.std.specs.Prelude.{◌≡◌, ℕ, ◌-◌, ◌/◌, ◌%◌, ◌^◌, ◌<◌, ◌≤◌, ℤ, Bool, true, false, cond, not, ◌&&◌, ◌==◌, bit_and, bit_or, is_none, Some, None, ◌≢◌, refl}
use Rattle.std.specs.Int.{bit_at, bit_not, w128}
use Rattle.std.proofs.Common.{arith, ap, ◌∙◌, sym, subst, inl, inr}
use Rattle.std.proofs.lemmas.Nat.{or_lt, and_le_r, pow_below}
use Rattle.std.proofs.lemmas.Nat.Bits.{bit_at_or, bit_at_and, bit_at_not, bit_at-lt, bit_at-pow_other, same_from_bits, same_from_bits_below}
use Rattle.std.proofs.lemmas.Bool.{and_parts, and_from, eqb-true, eq-eqb, cases_order}
use Rattle.cc_base.specs.Lattices.{LatticeOf, OrderLaws}
use Rattle.cc_base.specs.LatticeParts.{flag_leq}
use Rattle.cc_base.specs.IntegerDomains.{IntegersOf, BoundLaws}
use Rattle.cc_base.specs.NumberRanges.{Range}
use Rattle.pointer_domain.specs.BaseSets.{no_base, word_of, with_word, word_within, bases_has, bases_with, bases_without, bases_within, bases_empty}
use Rattle.pointer_domain.specs.BaseFacts.{within_has}
use Rattle.pointer_domain.specs.BaseLattice.{bases_order}
use Rattle.pointer_domain.specs.PointerLattice.{pointers_leq}
use Rattle.pointer_domain.specs.PointerTables.{renamed, without_bases, if_any_base, ended_at}
use Rattle.pointer_domain.specs.declared.base_sets.Bases.{Bases}
use Rattle.pointer_domain.specs.declared.pointer_sets.Pointers.{Pointers}
use Rattle.domain_theorems.specs.Values.Consistency.{is_nowhere, is_somewhere, is_consistent, AreWords}
use Rattle.domain_theorems.proofs.values.Flags.{Sets}
use Rattle.domain_theorems.proofs.values.Parts.{PointersBelow, pointer_parts, pointers_below}
use Rattle.domain_theorems.proofs.values.Bases.{words_within, empty_below, empty_within}

-- ---- words

pub bit_less : (a b i : ℕ) → word_within a b ≡ true → bit_at a i ≤ bit_at b i
bit_less a b i h = let f = bit_at_or a b i in let g : bit_at (bit_or a b) i ≡ bit_at b i = ap (λ z. bit_at z i) (eqb-true (bit_or a b) b h) in omega arith

pub within_from : (a b : ℕ) → ((i : ℕ) → bit_at a i ≤ bit_at b i) → word_within a b ≡ true
within_from a b f = eq-eqb (bit_or a b) b (same_from_bits (bit_or a b) b (λ i. let g = bit_at_or a b i in let h = f i in omega arith))

pub and_within : (a b m : ℕ) → word_within a b ≡ true → word_within (bit_and a m) (bit_and b m) ≡ true
and_within a b m h = within_from (bit_and a m) (bit_and b m) (λ i. let f = bit_less a b i h in let g = bit_at_and a m i in let k = bit_at_and b m i in omega arith)

or_within : (a b m : ℕ) → word_within a b ≡ true → word_within (bit_or a m) (bit_or b m) ≡ true
or_within a b m h = within_from (bit_or a m) (bit_or b m) (λ i. let f = bit_less a b i h in let g = bit_at_or a m i in let k = bit_at_or b m i in omega arith)

under_or : (a m : ℕ) → word_within a (bit_or a m) ≡ true
under_or a m = within_from a (bit_or a m) (λ i. let g = bit_at_or a m i in omega arith)

-- a bit that a word does not have can be cleared above it
under_cleared : (a b k : ℕ) → a < 2 ^ 128 → k < 128 → bit_at a k ≡ 0 → word_within a b ≡ true → word_within a (bit_and b (bit_not w128 (2 ^ k))) ≡ true
under_cleared a b k s t z h =
    let c : ℕ = bit_and b (bit_not w128 (2 ^ k)) in
    let p : 2 ^ k < 2 ^ 128 = pow_below k 128 t in
    let small : c < 2 ^ 128 = (let l = and_le_r b (bit_not w128 (2 ^ k)) in omega arith) in
    eq-eqb (bit_or a c) c (same_from_bits_below 128 (bit_or a c) c (or_lt 128 a c s small) small (λ i l. both i l))
  where
    both : (i : ℕ) → i < 128 → bit_at (bit_or a (bit_and b (bit_not w128 (2 ^ k)))) i ≡ bit_at (bit_and b (bit_not w128 (2 ^ k))) i
    both i l =
        let e = bit_at_or a (bit_and b (bit_not w128 (2 ^ k))) i in
        let f = bit_at_and b (bit_not w128 (2 ^ k)) i in
        let g : bit_at (bit_not w128 (2 ^ k)) i ≡ 1 - bit_at (2 ^ k) i = bit_at_not w128 (2 ^ k) i (pow_below k 128 t) l in
        let m = bit_less a b i h in
        let n = bit_at-lt b i in
        elim (cases_order i k) [
          | inl q ↦ (let r : bit_at a i ≡ 0 = subst (λ j. bit_at a j ≡ 0) (sym q) z in omega arith)
          | inr q ↦ (let d : i ≢ k = λ (x : i ≡ k). elim q [ inl y ↦ omega arith | inr y ↦ omega arith ] in let o = bit_at-pow_other k i d in omega arith)
        ]

-- ---- sets

pair_at : (b : Bool) (x y u v : Bases) → bases_within x u ≡ true → bases_within y v ≡ true → bases_within (cond b x y) (cond b u v) ≡ true
pair_at true x y u v h k = h
pair_at false x y u v h k = k

word_at : (b : Bool) (x y u v : ℕ) → word_within x u ≡ true → word_within y v ≡ true → word_within (cond b x y) (cond b u v) ≡ true
word_at true x y u v h k = h
word_at false x y u v h k = k

module _ (s t : Bases) (h : bases_within s t ≡ true) where
  pub word_of_within : (i : ℕ) → word_within (word_of s i) (word_of t i) ≡ true
  word_of_within i =
      let w = words_within s t h in
      word_at (i == 0) _ _ _ _ w.at0 (word_at (i == 1) _ _ _ _ w.at1 (word_at (i == 2) _ _ _ _ w.at2 (word_at (i == 3) _ _ _ _ w.at3
      (word_at (i == 4) _ _ _ _ w.at4 (word_at (i == 5) _ _ _ _ w.at5 (word_at (i == 6) _ _ _ _ w.at6 w.at7))))))

  pub with_within : (i v w : ℕ) → word_within v w ≡ true → bases_within (with_word s i v) (with_word t i w) ≡ true
  with_within i v w k =
      let a = words_within s t h in
      pair_at (i == 0) _ _ _ _ (and_from _ _ k (and_from _ _ a.at1 (and_from _ _ a.at2 (and_from _ _ a.at3 (and_from _ _ a.at4 (and_from _ _ a.at5 (and_from _ _ a.at6 a.at7)))))))
      (pair_at (i == 1) _ _ _ _ (and_from _ _ a.at0 (and_from _ _ k (and_from _ _ a.at2 (and_from _ _ a.at3 (and_from _ _ a.at4 (and_from _ _ a.at5 (and_from _ _ a.at6 a.at7)))))))
      (pair_at (i == 2) _ _ _ _ (and_from _ _ a.at0 (and_from _ _ a.at1 (and_from _ _ k (and_from _ _ a.at3 (and_from _ _ a.at4 (and_from _ _ a.at5 (and_from _ _ a.at6 a.at7)))))))
      (pair_at (i == 3) _ _ _ _ (and_from _ _ a.at0 (and_from _ _ a.at1 (and_from _ _ a.at2 (and_from _ _ k (and_from _ _ a.at4 (and_from _ _ a.at5 (and_from _ _ a.at6 a.at7)))))))
      (pair_at (i == 4) _ _ _ _ (and_from _ _ a.at0 (and_from _ _ a.at1 (and_from _ _ a.at2 (and_from _ _ a.at3 (and_from _ _ k (and_from _ _ a.at5 (and_from _ _ a.at6 a.at7)))))))
      (pair_at (i == 5) _ _ _ _ (and_from _ _ a.at0 (and_from _ _ a.at1 (and_from _ _ a.at2 (and_from _ _ a.at3 (and_from _ _ a.at4 (and_from _ _ k (and_from _ _ a.at6 a.at7)))))))
      (pair_at (i == 6) _ _ _ _ (and_from _ _ a.at0 (and_from _ _ a.at1 (and_from _ _ a.at2 (and_from _ _ a.at3 (and_from _ _ a.at4 (and_from _ _ a.at5 (and_from _ _ k a.at7)))))))
      (and_from _ _ a.at0 (and_from _ _ a.at1 (and_from _ _ a.at2 (and_from _ _ a.at3 (and_from _ _ a.at4 (and_from _ _ a.at5 (and_from _ _ a.at6 k)))))))))))))

  pub with_rises : (n : ℕ) → bases_within (bases_with s n) (bases_with t n) ≡ true
  with_rises n = with_within (n / 128) _ _ (or_within (word_of s (n / 128)) (word_of t (n / 128)) (2 ^ (n % 128)) (word_of_within (n / 128)))

  pub without_rises : (n : ℕ) → bases_within (bases_without s n) (bases_without t n) ≡ true
  without_rises n = with_within (n / 128) _ _ (and_within (word_of s (n / 128)) (word_of t (n / 128)) (bit_not w128 (2 ^ (n % 128))) (word_of_within (n / 128)))

-- the words by the tests of their number
abbrev pub word_in : Bool → Bool → Bool → Bool → Bool → Bool → Bool → Bases → ℕ
word_in a b c d e f g s = cond a s.word0 (cond b s.word1 (cond c s.word2 (cond d s.word3 (cond e s.word4 (cond f s.word5 (cond g s.word6 s.word7))))))

abbrev set_in : Bool → Bool → Bool → Bool → Bool → Bool → Bool → Bases → ℕ → Bases
set_in a b c d e f g s w = cond a (record s { word0 = w }) (cond b (record s { word1 = w }) (cond c (record s { word2 = w }) (cond d (record s { word3 = w }) (cond e (record s { word4 = w }) (cond f (record s { word5 = w }) (cond g (record s { word6 = w }) (record s { word7 = w })))))))

own_in : (a b c d e f g : Bool) (s : Bases) → set_in a b c d e f g s (word_in a b c d e f g s) ≡ s
own_in true b c d e f g s = refl
own_in false true c d e f g s = refl
own_in false false true d e f g s = refl
own_in false false false true e f g s = refl
own_in false false false false true f g s = refl
own_in false false false false false true g s = refl
own_in false false false false false false true s = refl
own_in false false false false false false false s = refl

-- a word that is the set's own changes nothing
pub own_word : (s : Bases) (i : ℕ) → with_word s i (word_of s i) ≡ s
own_word s i = own_in (i == 0) (i == 1) (i == 2) (i == 3) (i == 4) (i == 5) (i == 6) s

under_word : (s t : Bases) (i w : ℕ) → bases_within s t ≡ true → word_within (word_of s i) w ≡ true → bases_within s (with_word t i w) ≡ true
under_word s t i w h k = subst (λ r. bases_within r (with_word t i w) ≡ true) (own_word s i) (with_within s t h i (word_of s i) w k)

under_with : (s : Bases) (n : ℕ) → bases_within s (bases_with s n) ≡ true
under_with s n = under_word s s (n / 128) _ (bases_order.reflexive s) (under_or (word_of s (n / 128)) (2 ^ (n % 128)))

one_bit : (b : ℕ) → b < 2 → (b == 1) ≡ false → b ≡ 0
one_bit b h e = grind arith

-- a set without a base lies within the others' sets without it
under_without : (s t : Bases) (n : ℕ) → AreWords s → bases_within s t ≡ true → bases_has s n ≡ false → bases_within s (bases_without t n) ≡ true
under_without s t n small h e = under_word s t (n / 128) _ h
    (under_cleared (word_of s (n / 128)) (word_of t (n / 128)) (n % 128) (small (n / 128)) (omega arith)
    (one_bit (bit_at (word_of s (n / 128)) (n % 128)) (bit_at-lt (word_of s (n / 128)) (n % 128)) e) (word_of_within s t h (n / 128)))

-- ---- renamed

module _ {I : Type 0} {l : LatticeOf I} {n : IntegersOf I} {stands : I → ℤ → Type 0} (o : OrderLaws l) (b : BoundLaws l n stands) where
  over_bases : (p q : Pointers I) (s t : Bases) → PointersBelow l p q → bases_within s t ≡ true → pointers_leq l (record p { bases = s }) (record q { bases = t }) ≡ true
  over_bases p q s t h k = pointers_below l (record p { bases = s }) (record q { bases = t }) (record { bases = k; lo = h.lo; rel = h.rel; len = h.len; part = h.part; null = h.null; ended = h.ended })

  rename_at : (p q : Pointers I) (from to : ℕ) → AreWords p.bases → PointersBelow l p q → (c d : Bool) → bases_has p.bases from ≡ c → bases_has q.bases from ≡ d
      → pointers_leq l (cond c (record p { bases = bases_with (bases_without p.bases from) to }) p) (cond d (record q { bases = bases_with (bases_without q.bases from) to }) q) ≡ true
  rename_at p q from to small h true true e f = over_bases p q (bases_with (bases_without p.bases from) to) (bases_with (bases_without q.bases from) to) h (with_rises (bases_without p.bases from) (bases_without q.bases from) (without_rises p.bases q.bases h.bases from) to)
  rename_at p q from to small h true false e f = absurd (let g = within_has p.bases q.bases from h.bases e in let k : true ≡ false = sym g ∙ f in cc)
  rename_at p q from to small h false true e f = over_bases p q p.bases (bases_with (bases_without q.bases from) to) h
      (bases_order.transitive p.bases (bases_without q.bases from) (bases_with (bases_without q.bases from) to) (under_without p.bases q.bases from small h.bases e) (under_with (bases_without q.bases from) to))
  rename_at p q from to small h false false e f = pointers_below l p q h

  pub rename_monotone : (p q : Pointers I) (from to : ℕ) → AreWords p.bases → pointers_leq l p q ≡ true → pointers_leq l (renamed p from to) (renamed q from to) ≡ true
  rename_monotone p q from to small h = rename_at p q from to small (pointer_parts l p q h) (bases_has p.bases from) (bases_has q.bases from) refl refl

  -- ---- ended

  none_below : (x y : I) (r : Range) → n.bounds x ≡ r → is_none r ≡ true → l.leq x y ≡ true
  none_below x y None e h = subst (λ z. l.leq z y ≡ true) (sym (b.only_least x e)) (o.least_below y)
  none_below x y (Some r) e h = cc

  no_flag : (a c : Bool) → not a ≡ true → flag_leq a c ≡ true
  no_flag true c h = cc
  no_flag false c h = refl

  -- without a base nothing but null and ended is there
  bare_below : (p q : Pointers I) → flag_leq p.null q.null ≡ true → flag_leq p.ended q.ended ≡ true → pointers_leq l (without_bases l p) q ≡ true
  bare_below p q h k = pointers_below l (without_bases l p) q (record {
    bases = bases_order.least_below q.bases;
    lo = o.least_below q.lo;
    rel = o.least_below q.rel;
    len = o.least_below q.len;
    part = refl;
    null = h;
    ended = k;
  })

  -- a consistent pointer without a base is below another's null and ended
  nowhere_below : (p q : Pointers I) → bases_empty p.bases ≡ true → is_consistent n p ≡ true → flag_leq p.null q.null ≡ true → flag_leq p.ended q.ended ≡ true → pointers_leq l p (without_bases l q) ≡ true
  nowhere_below p q e c h k =
      let f : is_nowhere n p ≡ true = subst (λ t. cond t (is_nowhere n p) (is_somewhere n p) ≡ true) e c in
      let x = and_parts (is_none (n.bounds p.lo)) (is_none (n.bounds p.rel) && (is_none (n.bounds p.len) && not p.part)) f in
      let y = and_parts (is_none (n.bounds p.rel)) (is_none (n.bounds p.len) && not p.part) x.1 in
      let z = and_parts (is_none (n.bounds p.len)) (not p.part) y.1 in
      pointers_below l p (without_bases l q) (record {
        bases = empty_within p.bases no_base e;
        lo = none_below p.lo l.least (n.bounds p.lo) refl x.0;
        rel = none_below p.rel l.least (n.bounds p.rel) refl y.0;
        len = none_below p.len l.least (n.bounds p.len) refl z.0;
        part = no_flag p.part false z.1;
        null = h;
        ended = k;
      })

  if_any_at : (p q : Pointers I) → PointersBelow l p q → (c d : Bool) → Sets d c → pointers_leq l (cond c (without_bases l p) p) (cond d (without_bases l q) q) ≡ true
  if_any_at p q h true true f = bare_below p (without_bases l q) h.null h.ended
  if_any_at p q h true false f = bare_below p q h.null h.ended
  if_any_at p q h false true f = absurd (let e : false ≡ true = f refl in cc)
  if_any_at p q h false false f = pointers_below l p q h

  own_below : (p q : Pointers I) → is_consistent n p ≡ true → PointersBelow l p q → (d : Bool) → bases_empty q.bases ≡ d → pointers_leq l p (cond d (without_bases l q) q) ≡ true
  own_below p q c h true e = nowhere_below p q (empty_below p.bases q.bases h.bases e) c h.null h.ended
  own_below p q c h false e = pointers_below l p q h

  any_ended : (a : Bool) → flag_leq a true ≡ true
  any_ended true = refl
  any_ended false = refl

  end_at : (p q : Pointers I) (base : ℕ) → AreWords p.bases → is_consistent n p ≡ true → PointersBelow l p q → (c d : Bool) → bases_has p.bases base ≡ c → bases_has q.bases base ≡ d
      → pointers_leq l (cond c (if_any_base l (record p { bases = bases_without p.bases base; ended = true })) p) (cond d (if_any_base l (record q { bases = bases_without q.bases base; ended = true })) q) ≡ true
  end_at p q base small k h true true e f =
      let r : bases_within (bases_without p.bases base) (bases_without q.bases base) ≡ true = without_rises p.bases q.bases h.bases base in
      if_any_at (record p { bases = bases_without p.bases base; ended = true }) (record q { bases = bases_without q.bases base; ended = true })
      (record { bases = r; lo = h.lo; rel = h.rel; len = h.len; part = h.part; null = h.null; ended = refl })
      (bases_empty (bases_without p.bases base)) (bases_empty (bases_without q.bases base)) (empty_below (bases_without p.bases base) (bases_without q.bases base) r)
  end_at p q base small k h true false e f = absurd (let g = within_has p.bases q.bases base h.bases e in let m : true ≡ false = sym g ∙ f in cc)
  end_at p q base small k h false true e f = own_below p (record q { bases = bases_without q.bases base; ended = true }) k
      (record { bases = under_without p.bases q.bases base small h.bases e; lo = h.lo; rel = h.rel; len = h.len; part = h.part; null = h.null; ended = any_ended p.ended })
      (bases_empty (bases_without q.bases base)) refl
  end_at p q base small k h false false e f = pointers_below l p q h

  pub end_monotone : (p q : Pointers I) (base : ℕ) → AreWords p.bases → is_consistent n p ≡ true → pointers_leq l p q ≡ true → pointers_leq l (ended_at l p base) (ended_at l q base) ≡ true
  end_monotone p q base small k h = end_at p q base small k (pointer_parts l p q h) (bases_has p.bases base) (bases_has q.bases base) refl refl
