-- Sets of one base: how many bases they have, and which they share.
use Rattle.std.proofs.Common.{◌≡◌, ℕ, zero, suc, ◌*◌, ◌/◌, ◌%◌, ◌^◌, ◌<◌, Bool, true, false, cond, not, ◌||◌, Some, List, arith, subst, sym, refl, ap, ◌∙◌}
use Rattle.std.specs.Prelude.{slice_get, ◌==◌, nat_lt, bit_or, count_ones}
use Rattle.std.specs.Int.{bit_at}
use Rattle.std.proofs.lemmas.Bool.{and_parts, and_from, eq-eqb, lt-ltb}
use Rattle.std.proofs.lemmas.Nat.Bits.{and_pow, bit_at-lt}
use Rattle.std.proofs.lemmas.Nat.{and_comm, ones_le_self, pow_pos}
use Rattle.std.proofs.Math.Nat.{pow-suc}
use lib.Count.{ones_step}
use Rattle.c_layout.specs.declared.shapes.BaseInfo.{BaseInfo}
use Rattle.pointer_domain.specs.declared.base_sets.Bases.{Bases}
use Rattle.pointer_domain.specs.BaseSets.{no_base, word_of, with_word, bases_has, bases_within, bases_meet, bases_count, word_meets, word_within}
use Rattle.store_sound.proofs.operations.Sets.{if_keeps, if_adds, none_has, only_is}
use Rattle.store_sound.proofs.operations.Walks.{walk_meets}
use Rattle.store_objects.specs.LiveBases.{most_bases, is_single_kind, only_base, has_base, add_single, single_bases}
use Rattle.domain_theorems.proofs.values.BaseChanges.{no_word_is, bit_of, or_below}

-- ---- powers of two

no_ones : count_ones 0 ≡ 0
no_ones = let h = ones_le_self 0 in omega arith

doubled : (x : ℕ) → count_ones (2 * x) ≡ count_ones x
doubled x =
    let e : (2 * x) / 2 ≡ x = omega arith in
    let s = ones_step (2 * x) in
    let k = ap count_ones e in
    omega arith

count_step : (k : ℕ) → count_ones (2 ^ k) ≡ 1
count_step zero = let s = ones_step 1 in let z = no_ones in omega arith
count_step (suc k) = let e : 2 ^ (suc k) ≡ 2 * 2 ^ k = (let f = pow-suc 2 k in omega arith) in ap count_ones e ∙ (doubled (2 ^ k) ∙ count_step k)

-- ---- words

abbrev put_word : (a b c d e f g : Bool) → ℕ → Bases
put_word a b c d e f g w = cond a (record no_base { word0 = w }) (cond b (record no_base { word1 = w }) (cond c (record no_base { word2 = w }) (cond d (record no_base { word3 = w }) (cond e (record no_base { word4 = w }) (cond f (record no_base { word5 = w }) (cond g (record no_base { word6 = w }) (record no_base { word7 = w })))))))

abbrev get_word : (a b c d e f g : Bool) → Bases → ℕ
get_word a b c d e f g s = cond a s.word0 (cond b s.word1 (cond c s.word2 (cond d s.word3 (cond e s.word4 (cond f s.word5 (cond g s.word6 s.word7))))))

count_put : (a b c d e f g : Bool) (w : ℕ) → bases_count (put_word a b c d e f g w) ≡ count_ones w
count_put true b c d e f g w = let z = no_ones in omega arith
count_put false true c d e f g w = let z = no_ones in omega arith
count_put false false true d e f g w = let z = no_ones in omega arith
count_put false false false true e f g w = let z = no_ones in omega arith
count_put false false false false true f g w = let z = no_ones in omega arith
count_put false false false false false true g w = let z = no_ones in omega arith
count_put false false false false false false true w = let z = no_ones in omega arith
count_put false false false false false false false w = let z = no_ones in omega arith

or_none : (b : Bool) → (b || false) ≡ b
or_none true = refl
or_none false = refl

meet_put : (a b c d e f g : Bool) (w : ℕ) (s : Bases) → bases_meet (put_word a b c d e f g w) s ≡ word_meets w (get_word a b c d e f g s)
meet_put true b c d e f g w s = or_none (word_meets w s.word0)
meet_put false true c d e f g w s = or_none (word_meets w s.word1)
meet_put false false true d e f g w s = or_none (word_meets w s.word2)
meet_put false false false true e f g w s = or_none (word_meets w s.word3)
meet_put false false false false true f g w s = or_none (word_meets w s.word4)
meet_put false false false false false true g w s = or_none (word_meets w s.word5)
meet_put false false false false false false true w s = or_none (word_meets w s.word6)
meet_put false false false false false false false w s = refl

-- ---- a set of one base

own_bits : (b : ℕ) → bit_or (word_of no_base (b / 128)) (2 ^ (b % 128)) ≡ 2 ^ (b % 128)
own_bits b = ap (λ w. bit_or w (2 ^ (b % 128))) (no_word_is (b / 128))

sole_is : (b : ℕ) → b < most_bases → only_base b ≡ with_word no_base (b / 128) (2 ^ (b % 128))
sole_is b h = rw (lt-ltb b most_bases h) (ap (with_word no_base (b / 128)) (own_bits b))

pub sole_count : (b : ℕ) → b < most_bases → bases_count (only_base b) ≡ 1
sole_count b h = ap bases_count (sole_is b h) ∙ (count_put (b / 128 == 0) (b / 128 == 1) (b / 128 == 2) (b / 128 == 3) (b / 128 == 4) (b / 128 == 5) (b / 128 == 6) (2 ^ (b % 128)) ∙ count_step (b % 128))

not_none : (p : ℕ) → 0 < p → not (p == 0) ≡ true
not_none p h = grind arith

one_bit : (b p : ℕ) → b < 2 → 0 < p → not (b * p == 0) ≡ (b == 1)
one_bit zero p h k = let e : 0 * p ≡ 0 = omega arith in ap (λ y. not (y == 0)) e
one_bit (suc zero) p h k = let e : 1 * p ≡ p = omega arith in ap (λ y. not (y == 0)) e ∙ not_none p k
one_bit (suc (suc b)) p h k = absurd (omega arith)

-- what meets a set of one base has it
pub sole_meets : (b : ℕ) → b < most_bases → (s : Bases) → bases_meet (only_base b) s ≡ bases_has s b
sole_meets b h s =
    ap (λ z. bases_meet z s) (sole_is b h)
    ∙ (meet_put (b / 128 == 0) (b / 128 == 1) (b / 128 == 2) (b / 128 == 3) (b / 128 == 4) (b / 128 == 5) (b / 128 == 6) (2 ^ (b % 128)) s
    ∙ by_bit (word_of s (b / 128)) (b % 128))
  where
    by_bit : (w k : ℕ) → word_meets (2 ^ k) w ≡ (bit_at w k == 1)
    by_bit w k = ap (λ y. not (y == 0)) (and_comm (2 ^ k) w ∙ and_pow w k) ∙ one_bit (bit_at w k) (2 ^ k) (bit_at-lt w k) (pow_pos k)

within_none : (x : ℕ) → word_within 0 x ≡ true
within_none x = eq-eqb x x refl

within_put : (a b c d e f g : Bool) (w : ℕ) (s : Bases) → word_within w (get_word a b c d e f g s) ≡ true → bases_within (put_word a b c d e f g w) s ≡ true
within_put true b c d e f g w s h = and_from _ _ h (and_from _ _ (within_none s.word1) (and_from _ _ (within_none s.word2) (and_from _ _ (within_none s.word3) (and_from _ _ (within_none s.word4) (and_from _ _ (within_none s.word5) (and_from _ _ (within_none s.word6) (within_none s.word7)))))))
within_put false true c d e f g w s h = and_from _ _ (within_none s.word0) (and_from _ _ h (and_from _ _ (within_none s.word2) (and_from _ _ (within_none s.word3) (and_from _ _ (within_none s.word4) (and_from _ _ (within_none s.word5) (and_from _ _ (within_none s.word6) (within_none s.word7)))))))
within_put false false true d e f g w s h = and_from _ _ (within_none s.word0) (and_from _ _ (within_none s.word1) (and_from _ _ h (and_from _ _ (within_none s.word3) (and_from _ _ (within_none s.word4) (and_from _ _ (within_none s.word5) (and_from _ _ (within_none s.word6) (within_none s.word7)))))))
within_put false false false true e f g w s h = and_from _ _ (within_none s.word0) (and_from _ _ (within_none s.word1) (and_from _ _ (within_none s.word2) (and_from _ _ h (and_from _ _ (within_none s.word4) (and_from _ _ (within_none s.word5) (and_from _ _ (within_none s.word6) (within_none s.word7)))))))
within_put false false false false true f g w s h = and_from _ _ (within_none s.word0) (and_from _ _ (within_none s.word1) (and_from _ _ (within_none s.word2) (and_from _ _ (within_none s.word3) (and_from _ _ h (and_from _ _ (within_none s.word5) (and_from _ _ (within_none s.word6) (within_none s.word7)))))))
within_put false false false false false true g w s h = and_from _ _ (within_none s.word0) (and_from _ _ (within_none s.word1) (and_from _ _ (within_none s.word2) (and_from _ _ (within_none s.word3) (and_from _ _ (within_none s.word4) (and_from _ _ h (and_from _ _ (within_none s.word6) (within_none s.word7)))))))
within_put false false false false false false true w s h = and_from _ _ (within_none s.word0) (and_from _ _ (within_none s.word1) (and_from _ _ (within_none s.word2) (and_from _ _ (within_none s.word3) (and_from _ _ (within_none s.word4) (and_from _ _ (within_none s.word5) (and_from _ _ h (within_none s.word7)))))))
within_put false false false false false false false w s h = and_from _ _ (within_none s.word0) (and_from _ _ (within_none s.word1) (and_from _ _ (within_none s.word2) (and_from _ _ (within_none s.word3) (and_from _ _ (within_none s.word4) (and_from _ _ (within_none s.word5) (and_from _ _ (within_none s.word6) h))))))

-- and lies within each set that has it
pub sole_within : (b : ℕ) → b < most_bases → (s : Bases) → bases_has s b ≡ true → bases_within (only_base b) s ≡ true
sole_within b h s e =
    subst (λ z. bases_within z s ≡ true) (sym (sole_is b h))
    (within_put (b / 128 == 0) (b / 128 == 1) (b / 128 == 2) (b / 128 == 3) (b / 128 == 4) (b / 128 == 5) (b / 128 == 6) (2 ^ (b % 128)) s
    (or_below 0 (word_of s (b / 128)) (b % 128) (within_none (word_of s (b / 128))) (bit_of s b e)))

-- the base of an object is one of those that stand for one instance
pub single_has : (bases : List BaseInfo) (b : ℕ) (base : BaseInfo) → slice_get bases b ≡ Some base → is_single_kind base.kind ≡ true → b < most_bases → bases_has (single_bases bases) b ≡ true
single_has bases b base at kind small =
    (and_parts (nat_lt b most_bases) (bases_has (single_bases bases) b)
    (walk_meets (λ s. has_base s b ≡ true) add_single (λ k at s g. if_keeps (is_single_kind k.kind) at s b g) 0 bases no_base b b base at (omega arith) (λ s. if_adds (is_single_kind base.kind) s b kind small))).1

-- two bases share none
pub sole_apart : (b c : ℕ) → b < most_bases → (b ≡ c → ⊥) → bases_meet (only_base b) (only_base c) ≡ false
sole_apart b c small ne = sole_meets b small (only_base c) ∙ by_has (bases_has (only_base c) b) refl
  where
    by_has : (x : Bool) → bases_has (only_base c) b ≡ x → x ≡ false
    by_has true e = absurd (ne (only_is c b small e))
    by_has false e = refl

pub sole_none : (b : ℕ) → b < most_bases → bases_meet (only_base b) no_base ≡ false
sole_none b small = sole_meets b small no_base ∙ none_has b
