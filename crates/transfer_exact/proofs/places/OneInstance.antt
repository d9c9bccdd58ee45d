-- A set of one base of an object stands for one instance.
use Rattle.std.proofs.Common.{◌≡◌, ℕ, zero, suc, ◌+◌, ◌*◌, ◌/◌, ◌%◌, ◌^◌, ◌<◌, true, false, Some, List, arith, subst, sym, refl, ap, ◌∙◌}
use Rattle.std.specs.Prelude.{slice_get, count_ones, bit_or, nat_lt, ◌==◌}
use Rattle.std.specs.Int.Bits.{or_zero_l}
use lib.Count.{ones}
use Rattle.std.proofs.lemmas.Nat.{ones_cat}
use Rattle.std.proofs.lemmas.Bool.{and_from, and_parts, lt-ltb, eq-eqb}
use Rattle.c_layout.specs.declared.shapes.BaseInfo.{BaseInfo}
use Rattle.c_layout.specs.declared.shapes.BaseKind.{BaseKind}
use Rattle.c_layout.specs.declared.shapes.BaseKind.TheVariants.{Static, Automatic, Literal, Newest, Older}
use Rattle.pointer_domain.specs.declared.base_sets.Bases.{Bases}
use Rattle.pointer_domain.specs.BaseSets.{no_base, word_of, with_word, bases_has, bases_with, bases_count, word_within, bases_within}
use Rattle.domain_theorems.proofs.values.BaseChanges.{no_word_is, bit_of, or_below}
use Rattle.domain_theorems.proofs.values.Bases.{empty_within}
use Rattle.domain_theorems.proofs.values.Renames.{with_within, own_word}
use Rattle.store_objects.specs.LiveBases.{most_bases, is_single_kind, only_base, has_base, add_single, single_bases, is_one_instance}
use Rattle.memory_model.specs.Effects.Touches.{is_allocated}
use Rattle.store_sound.specs.Concretization.SoundMemory.{storage_for}
use Rattle.store_sound.proofs.operations.Sets.{if_keeps, if_adds}
use Rattle.store_sound.proofs.operations.Walks.{walk_meets}

no_ones : count_ones 0 ≡ 0
unfolding ones
no_ones = refl

one_one : count_ones 1 ≡ 1
unfolding ones
one_one = refl

power_ones : (k : ℕ) → count_ones (2 ^ k) ≡ 1
power_ones k =
    let above : 0 < 2 ^ k = power_above k in
    let e : 2 ^ k ≡ 1 * 2 ^ k + 0 = omega arith in
    let c = ones_cat k 1 0 above in
    let z = no_ones in
    let o = one_one in
    ap count_ones e ∙ (c ∙ omega (arith, z, o))
  where
    power_above : (k : ℕ) → 0 < 2 ^ k
    power_above zero = omega arith
    power_above (suc k) = let h = power_above k in omega (arith, h)

word_count : (i : ℕ) (w : ℕ) → i < 8 → bases_count (with_word no_base i w) ≡ count_ones w
word_count zero w h = let z = no_ones in omega (arith, z)
word_count (suc zero) w h = let z = no_ones in omega (arith, z)
word_count (suc (suc zero)) w h = let z = no_ones in omega (arith, z)
word_count (suc (suc (suc zero))) w h = let z = no_ones in omega (arith, z)
word_count (suc (suc (suc (suc zero)))) w h = let z = no_ones in omega (arith, z)
word_count (suc (suc (suc (suc (suc zero))))) w h = let z = no_ones in omega (arith, z)
word_count (suc (suc (suc (suc (suc (suc zero)))))) w h = let z = no_ones in omega (arith, z)
word_count (suc (suc (suc (suc (suc (suc (suc zero))))))) w h = let z = no_ones in omega (arith, z)
word_count (suc (suc (suc (suc (suc (suc (suc (suc i)))))))) w h = absurd (omega (arith, h))

pub only_count : (b : ℕ) → b < most_bases → bases_count (only_base b) ≡ 1
only_count b small =
    let e : only_base b ≡ bases_with no_base b = rw (lt-ltb b most_bases small) refl in
    let w : bit_or (word_of no_base (b / 128)) (2 ^ (b % 128)) ≡ 2 ^ (b % 128) = ap (λ z. bit_or z (2 ^ (b % 128))) (no_word_is (b / 128)) ∙ or_zero_l (2 ^ (b % 128)) in
    ap bases_count e ∙ (word_count (b / 128) (bit_or (word_of no_base (b / 128)) (2 ^ (b % 128))) (omega (arith, small)) ∙ (ap count_ones w ∙ power_ones (b % 128)))

single_kind : (kind : BaseKind) → is_allocated (storage_for kind) ≡ false → is_single_kind kind ≡ true
single_kind Static h = refl
single_kind Automatic h = refl
single_kind Literal h = refl
single_kind Newest h = refl
single_kind Older h = cc

no_word : (w i : ℕ) → word_within (word_of no_base i) w ≡ true
no_word w i = ap (λ z. word_within z w) (no_word_is i) ∙ (ap (λ z. z == w) (or_zero_l w) ∙ eq-eqb w w refl)

only_within : (s : Bases) (b : ℕ) → b < most_bases → bases_has s b ≡ true → bases_within (only_base b) s ≡ true
only_within s b small h =
    let e : only_base b ≡ bases_with no_base b = rw (lt-ltb b most_bases small) refl in
    subst (λ t. bases_within t s ≡ true) (sym e)
    (subst (λ t. bases_within (bases_with no_base b) t ≡ true) (own_word s (b / 128))
    (with_within no_base s (empty_within no_base s refl) (b / 128) (bit_or (word_of no_base (b / 128)) (2 ^ (b % 128))) (word_of s (b / 128))
    (or_below (word_of no_base (b / 128)) (word_of s (b / 128)) (b % 128) (no_word (word_of s (b / 128)) (b / 128)) (bit_of s b h))))

module _ (bases : List BaseInfo) (b : ℕ) (base : BaseInfo) (at : slice_get bases b ≡ Some base) (small : b < most_bases) (kind : is_allocated (storage_for base.kind) ≡ false) where
  among_single : bases_has (single_bases bases) b ≡ true
  among_single =
      (and_parts (nat_lt b most_bases) (bases_has (single_bases bases) b)
      (walk_meets (λ s. has_base s b ≡ true) add_single (λ k at s g. if_keeps (is_single_kind k.kind) at s b g) 0 bases no_base b b base at (omega arith)
      (λ s. if_adds (is_single_kind base.kind) s b (single_kind base.kind kind) small))).1

  pub one_instance : is_one_instance bases (only_base b) ≡ true
  one_instance = and_from _ _ (eq-eqb (bases_count (only_base b)) 1 (only_count b small)) (only_within (single_bases bases) b small among_single)
