-- A set of one base is empty without it, and has it alone.
use Rattle.std.proofs.Common.{◌≡◌, ℕ, ◌-◌, ◌*◌, ◌/◌, ◌%◌, ◌^◌, ◌<◌, Bool, true, false, cond, arith, subst, sym, refl, ap, ◌∙◌, inl, inr}
use Rattle.std.specs.Prelude.{◌==◌, nat_lt, bit_and, bit_or}
use Rattle.std.specs.Int.{bit_at, bit_not, w128}
use Rattle.std.proofs.lemmas.Bool.{cases_Bool, and_parts, lt-ltb}
use Rattle.std.proofs.lemmas.Nat.Bits.{and_pow, bit_at_not, bit_at-pow_same}
use Rattle.std.proofs.lemmas.Nat.{and_comm, pow_below}
use Rattle.pointer_domain.specs.declared.base_sets.Bases.{Bases}
use Rattle.pointer_domain.specs.BaseSets.{no_base, word_of, with_word, bases_has, bases_with, bases_without, bases_empty}
use Rattle.pointer_domain.specs.BaseFacts.{word_of_same}
use Rattle.store_objects.specs.LiveBases.{most_bases, only_base}
use Rattle.store_sound.proofs.operations.Sets.{only_is}
use Rattle.domain_theorems.proofs.values.BaseChanges.{no_word_is}
use Rattle.transfer_exact.proofs.places.OneBase.{has_own}

cleared : (k : ℕ) → k < 128 → bit_and (2 ^ k) (bit_not w128 (2 ^ k)) ≡ 0
cleared k h =
    let f : bit_at (bit_not w128 (2 ^ k)) k ≡ 1 - bit_at (2 ^ k) k = bit_at_not w128 (2 ^ k) k (pow_below k 128 h) h in
    let g = bit_at-pow_same k in
    let z : bit_at (bit_not w128 (2 ^ k)) k ≡ 0 = omega (arith, f, g) in
    let none : 0 * 2 ^ k ≡ 0 = omega arith in
    and_comm (2 ^ k) (bit_not w128 (2 ^ k)) ∙ (and_pow (bit_not w128 (2 ^ k)) k ∙ (ap (λ y. y * 2 ^ k) z ∙ none))

abbrev set_in : (a b c d e f g : Bool) → Bases → ℕ → Bases
set_in a b c d e f g s w = cond a (record s { word0 = w }) (cond b (record s { word1 = w }) (cond c (record s { word2 = w }) (cond d (record s { word3 = w }) (cond e (record s { word4 = w }) (cond f (record s { word5 = w }) (cond g (record s { word6 = w }) (record s { word7 = w })))))))

empty_put : (a b c d e f g : Bool) (w : ℕ) → bases_empty (set_in a b c d e f g (set_in a b c d e f g no_base w) 0) ≡ true
empty_put true b c d e f g w = refl
empty_put false true c d e f g w = refl
empty_put false false true d e f g w = refl
empty_put false false false true e f g w = refl
empty_put false false false false true f g w = refl
empty_put false false false false false true g w = refl
empty_put false false false false false false true w = refl
empty_put false false false false false false false w = refl

only_with : (b : ℕ) → b < most_bases → only_base b ≡ bases_with no_base b
only_with b h = ap (λ c. cond c (bases_with no_base b) no_base) (lt-ltb b most_bases h)

pub sole_without : (b : ℕ) → b < most_bases → bases_empty (bases_without (only_base b) b) ≡ true
sole_without b h =
    let own : ℕ = bit_or (word_of no_base (b / 128)) (2 ^ (b % 128)) in
    let is : word_of (bases_with no_base b) (b / 128) ≡ 2 ^ (b % 128) = word_of_same no_base (b / 128) own ∙ ap (λ w. bit_or w (2 ^ (b % 128))) (no_word_is (b / 128)) in
    let none : bit_and (word_of (bases_with no_base b) (b / 128)) (bit_not w128 (2 ^ (b % 128))) ≡ 0 = ap (λ w. bit_and w (bit_not w128 (2 ^ (b % 128)))) is ∙ cleared (b % 128) (omega arith) in
    ap (λ s. bases_empty (bases_without s b)) (only_with b h)
    ∙ subst (λ v. bases_empty (with_word (bases_with no_base b) (b / 128) v) ≡ true) (sym none) (empty_put (b / 128 == 0) (b / 128 == 1) (b / 128 == 2) (b / 128 == 3) (b / 128 == 4) (b / 128 == 5) (b / 128 == 6) own)

pub sole_has : (b : ℕ) → b < most_bases → bases_has (only_base b) b ≡ true
sole_has b h = (and_parts (nat_lt b most_bases) (bases_has (only_base b) b) (has_own b h)).1

pub sole_lacks : (c b : ℕ) → b < most_bases → (b ≡ c → ⊥) → bases_has (only_base c) b ≡ false
sole_lacks c b h ne = elim (cases_Bool (bases_has (only_base c) b)) [
  | inl e ↦ absurd (ne (only_is c b h e))
  | inr e ↦ e
]
