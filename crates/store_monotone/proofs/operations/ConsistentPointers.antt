-- Pointer parts whose bases are renamed or have ended stay consistent.
use Rattle.std.specs.Prelude.{◌≡◌, ℕ, ◌/◌, ◌%◌, ◌^◌, ◌<◌, ◌==◌, ℤ, Bool, true, false, cond, nat_lt, bit_and, bit_or, refl}
use Rattle.std.specs.Int.{bit_not, w128}
use Rattle.std.proofs.Common.{arith}
use Rattle.std.proofs.lemmas.Nat.{or_lt, and_le_r, pow_below}
use Rattle.std.proofs.lemmas.Bool.{false_from_ne_true}
use Rattle.cc_base.specs.Lattices.{LatticeOf, OrderLaws}
use Rattle.cc_base.specs.IntegerDomains.{IntegersOf, BoundLaws}
use Rattle.pointer_domain.specs.BaseSets.{word_of, with_word, bases_has, bases_with, bases_without, bases_empty}
use Rattle.pointer_domain.specs.BaseFacts.{with_has_same}
use Rattle.pointer_domain.specs.PointerTables as pointers
use Rattle.pointer_domain.specs.declared.base_sets.Bases.{Bases}
use Rattle.pointer_domain.specs.declared.pointer_sets.Pointers.{Pointers}
use Rattle.store_objects.specs.LiveBases.{most_bases}
use Rattle.store_objects.specs.ObjectLives.{ended_pointer}
use Rattle.store_objects.specs.Allocations.{is_named, site_of, renamed}
use Rattle.domain_theorems.specs.Values.Consistency.{AreWords}
use Rattle.domain_theorems.proofs.values.BaseChanges.{has_none}
use Rattle.store_monotone.proofs.operations.Consistent.{IsEven, even_bare, some_parts, from_some}

-- ---- sets of words

small_at : (c : Bool) (x y : ℕ) → x < 2 ^ 128 → y < 2 ^ 128 → cond c x y < 2 ^ 128
small_at true x y h k = h
small_at false x y h k = k

words_at : (c : Bool) (s t : Bases) → AreWords s → AreWords t → AreWords (cond c s t)
words_at true s t h k = h
words_at false s t h k = k

each_word : (s : Bases) → s.word0 < 2 ^ 128 → s.word1 < 2 ^ 128 → s.word2 < 2 ^ 128 → s.word3 < 2 ^ 128 → s.word4 < 2 ^ 128 → s.word5 < 2 ^ 128 → s.word6 < 2 ^ 128 → s.word7 < 2 ^ 128 → AreWords s
each_word s a b c d e f g h i = small_at (i == 0) _ _ a (small_at (i == 1) _ _ b (small_at (i == 2) _ _ c (small_at (i == 3) _ _ d (small_at (i == 4) _ _ e (small_at (i == 5) _ _ f (small_at (i == 6) _ _ g h))))))

with_words : (s : Bases) (i w : ℕ) → AreWords s → w < 2 ^ 128 → AreWords (with_word s i w)
with_words s i w h k =
    words_at (i == 0) _ _ (each_word (record s { word0 = w }) k (h 1) (h 2) (h 3) (h 4) (h 5) (h 6) (h 7))
    (words_at (i == 1) _ _ (each_word (record s { word1 = w }) (h 0) k (h 2) (h 3) (h 4) (h 5) (h 6) (h 7))
    (words_at (i == 2) _ _ (each_word (record s { word2 = w }) (h 0) (h 1) k (h 3) (h 4) (h 5) (h 6) (h 7))
    (words_at (i == 3) _ _ (each_word (record s { word3 = w }) (h 0) (h 1) (h 2) k (h 4) (h 5) (h 6) (h 7))
    (words_at (i == 4) _ _ (each_word (record s { word4 = w }) (h 0) (h 1) (h 2) (h 3) k (h 5) (h 6) (h 7))
    (words_at (i == 5) _ _ (each_word (record s { word5 = w }) (h 0) (h 1) (h 2) (h 3) (h 4) k (h 6) (h 7))
    (words_at (i == 6) _ _ (each_word (record s { word6 = w }) (h 0) (h 1) (h 2) (h 3) (h 4) (h 5) k (h 7))
    (each_word (record s { word7 = w }) (h 0) (h 1) (h 2) (h 3) (h 4) (h 5) (h 6) k)))))))

words_with : (s : Bases) (base : ℕ) → AreWords s → AreWords (bases_with s base)
words_with s base h = with_words s (base / 128) (bit_or (word_of s (base / 128)) (2 ^ (base % 128))) h (or_lt 128 (word_of s (base / 128)) (2 ^ (base % 128)) (h (base / 128)) (pow_below (base % 128) 128 (omega arith)))

cleared_small : (a k : ℕ) → k < 128 → bit_and a (bit_not w128 (2 ^ k)) < 2 ^ 128
cleared_small a k h =
    let p : 2 ^ k < 2 ^ 128 = pow_below k 128 h in
    let l = and_le_r a (bit_not w128 (2 ^ k)) in
    omega arith

words_without : (s : Bases) (base : ℕ) → AreWords s → AreWords (bases_without s base)
words_without s base h = with_words s (base / 128) (bit_and (word_of s (base / 128)) (bit_not w128 (2 ^ (base % 128)))) h (cleared_small (word_of s (base / 128)) (base % 128) (omega arith))

has_some : (s : Bases) (base : ℕ) → bases_has s base ≡ true → bases_empty s ≡ false
has_some s base h = false_from_ne_true (bases_empty s) (λ (e : bases_empty s ≡ true). has_none s base e h)

-- ---- pointers

module _ {I : Type 0} {l : LatticeOf I} {n : IntegersOf I} {stands : I → ℤ → Type 0} (o : OrderLaws l) (b : BoundLaws l n stands) where
  -- other bases, of which there is one, where there was one before
  over_some : (p : Pointers I) (s : Bases) (ended : Bool) → bases_empty p.bases ≡ false → bases_empty s ≡ false → AreWords s → IsEven n p → IsEven n (record p { bases = s; ended = ended })
  over_some p s ended e f w h = let c = some_parts o b p e h.1 in (w, from_some o b (record p { bases = s; ended = ended }) f (record { lo = c.lo; rel = c.rel; len = c.len }))

  even_if : (t : Bool) (p q : Pointers I) → (t ≡ true → IsEven n p) → (t ≡ false → IsEven n q) → IsEven n (cond t p q)
  even_if true p q h k = h refl
  even_if false p q h k = k refl

  ended_even : (p : Pointers I) (base : ℕ) → IsEven n p → IsEven n (pointers.ended_at l p base)
  ended_even p base h =
      let s = bases_without p.bases base in
      even_if (bases_has p.bases base) _ p
      (λ e. even_if (bases_empty s) _ _
      (λ f. even_bare o b p.null true)
      (λ f. over_some p s true (has_some p.bases base e) f (words_without p.bases base h.0) h))
      (λ e. h)

  pub ended_pointer_even : (number : ℕ) (p : Pointers I) → IsEven n p → IsEven n (ended_pointer l number p)
  ended_pointer_even number p h = even_if (nat_lt number most_bases) _ p (λ e. ended_even p number h) (λ e. h)

  renamed_even : (p : Pointers I) (from to : ℕ) → IsEven n p → IsEven n (pointers.renamed p from to)
  renamed_even p from to h =
      let s = bases_without p.bases from in
      even_if (bases_has p.bases from) _ p
      (λ e. over_some p (bases_with s to) p.ended (has_some p.bases from e) (has_some (bases_with s to) to (with_has_same s to)) (words_with s to (words_without p.bases from h.0)) h)
      (λ e. h)

  pub renamed_pointer_even : (newest older : ℕ) (p : Pointers I) → IsEven n p → IsEven n (renamed (site_of newest older) p)
  renamed_pointer_even newest older p h = even_if (is_named (site_of newest older)) _ p (λ e. renamed_even p newest older h) (λ e. h)
