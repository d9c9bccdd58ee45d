-- What a text that is spelled puts into bytes, and the numbers and first zeros that these are.
use Rattle.std.proofs.Common.{◌≡◌, ℕ, zero, suc, ◌+◌, ◌-◌, ◌*◌, ◌^◌, ◌<◌, ◌≤◌, Bool, true, false, cond, ◌&&◌, ◌==◌, Some, None, List, [], ◌∷◌, ◌++◌, length, take, arith, subst, sym, refl, ap, ◌∙◌, inl, inr}
use Rattle.std.specs.Prelude.{slice_get, ℤ, pos, ◌-ℤ◌, nat_lt, nat_le}
use Rattle.std.proofs.lemmas.Int.{ints}
use Rattle.std.proofs.lemmas.Bool.Decides.{nat_tests}
use Rattle.std.proofs.lemmas.Bool.{cases_eq, cond_both, leb-true, leb-false, ltb-true, ltb-false}
use Rattle.std.proofs.lemmas.List.{length-take, length-map, length-append}
use Rattle.std.proofs.lemmas.Option.{same_Some}
use Rattle.cc_base.specs.Lattices.{LatticeOf, OrderLaws}
use Rattle.cc_base.specs.IntegerDomains.{IntegersOf, BoundLaws}
use Rattle.c_layout.specs.declared.leaf_lists.Leaf.{Leaf}
use Rattle.value_domain.specs.Strings.FirstZeros.{the_end, zero_of}
use Rattle.value_domain.specs.Values.LabelSets as sets
use Rattle.value_domain.specs.Values.ValueTables.{number_value}
use Rattle.store_cells.specs.FirstZeroWrites.{no_zero}
use Rattle.store_cells.specs.NearValues.{near_number}
use Rattle.store_cells.specs.RowPositions.{capped}
use Rattle.store.specs.Spelling.{written_count, character, character_number, begins_at, text_length, hull_more, hull, one_character, characters, first_zero_of}
use Rattle.store.specs.Spelling as spelling
use Rattle.transfer_sound.specs.StoreLaws.{AreBytes}
use Rattle.memory_model.specs.Memory.Labels.{no_labels}
use Rattle.memory_model.specs.Memory.Bytes.{Content, number, Byte}
use Rattle.memory_model.specs.Memory.Numbers.{Labelled, number_of}
use Rattle.memory_model.specs.Effects.ObjectEffects as effects
use Rattle.store_sound.specs.Concretization.FirstZeroBytes.{seen_as, one_more, zero_by, first_zero, zero_offset}
use Rattle.store_sound.proofs.operations.Near.{IsNearValue, join_near, near_number_from, near_number_none}
use Rattle.store_sound.proofs.operations.Slices.{get_take}

-- ---- contents

abbrev pub contents : ℕ → List ℕ → List Content
contents room text = take room (effects.characters text ++ number 0 no_labels ∷ [])

pub contents_long : (room : ℕ) (text : List ℕ) → length (contents room text) ≡ written_count room text
contents_long room text =
    let a = length-take room (effects.characters text ++ number 0 no_labels ∷ []) in
    let b = length-append (effects.characters text) (number 0 no_labels ∷ []) in
    let c = length-map text (λ x. number x no_labels) in
    omega (arith, a, b, c)

all_at : (text : List ℕ) (k : ℕ) (c : Content) → slice_get (effects.characters text ++ number 0 no_labels ∷ []) k ≡ Some c → c ≡ number (character text k) no_labels
all_at [] zero c e = sym (same_Some (number 0 no_labels) c e)
all_at [] (suc k) c e = cc
all_at (x ∷ xs) zero c e = sym (same_Some (number x no_labels) c e)
all_at (x ∷ xs) (suc k) c e = all_at xs k c e

pub content_is : (room : ℕ) (text : List ℕ) (k : ℕ) (c : Content) → slice_get (contents room text) k ≡ Some c → c ≡ number (character text k) no_labels
content_is room text k c e = all_at text k c (get_take room (effects.characters text ++ number 0 no_labels ∷ []) k c e).1

pub byte_small : (text : List ℕ) (k : ℕ) → AreBytes text → character text k < 256
byte_small [] k h = omega arith
byte_small (x ∷ xs) zero h = h.0
byte_small (x ∷ xs) (suc k) h = byte_small xs k h.1

-- ---- numbers

signed_number : (y : Labelled) → number_of true (y ∷ []) ≡ character_number y.number true
signed_number y = by_size (nat_lt (2 * (y.number + 256 * 0)) (2 ^ (8 * 1))) (nat_le 128 y.number) refl refl
  where
    only : y.number + 256 * 0 ≡ y.number
    only = omega arith

    by_size : (low high : Bool) → nat_lt (2 * (y.number + 256 * 0)) (2 ^ (8 * 1)) ≡ low → nat_le 128 y.number ≡ high → cond low (pos (y.number + 256 * 0)) (pos (y.number + 256 * 0) -ℤ pos (2 ^ (8 * 1))) ≡ cond high (pos y.number -ℤ pos 256) (pos y.number)
    by_size true true e f = let a = ltb-true _ _ e in let b = leb-true 128 y.number f in absurd (omega (arith, a, b))
    by_size true false e f = ap pos only
    by_size false true e f = ap (λ k. pos k -ℤ pos 256) only
    by_size false false e f = let a = ltb-false _ _ e in let b = leb-false 128 y.number f in absurd (omega (arith, a, b))

-- a character is a number of its type
pub one_number : (signed : Bool) (byte : ℕ) (ns : List Labelled) → length ns ≡ 1 → ((y : Labelled) → slice_get ns 0 ≡ Some y → y.number ≡ byte) → number_of signed ns ≡ character_number byte signed
one_number signed byte [] long each = absurd (omega (arith, long))
one_number true byte (y ∷ []) long each = signed_number y ∙ ap (λ k. character_number k true) (each y refl)
one_number false byte (y ∷ []) long each = let e = each y refl in ap pos (omega (arith, e))
one_number signed byte (y ∷ (z ∷ ns)) long each = absurd (omega (arith, long))

module _ {I : Type 0} {l : LatticeOf I} {n : IntegersOf I} {gamma : I → ℤ → Type 0} (o : OrderLaws l) (q : BoundLaws l n gamma) where
  -- ---- values

  pub near_character : (text : List ℕ) (at : ℕ) (signed : Bool) → AreBytes text → near_number l n (spelling.number_of n (character text at) signed) ≡ spelling.number_of n (character text at) signed
  near_character text at signed h =
      let small = byte_small text at h in
      cond_both (signed && nat_le 128 (character text at)) (pos (character text at) -ℤ pos 256) (pos (character text at)) (λ z. near_number l n (n.one z) ≡ n.one z)
      (λ e. near_number_from o q (n.one (pos (character text at) -ℤ pos 256)) (pos (character text at) -ℤ pos 256) (pos (character text at) -ℤ pos 256) (q.one_bounds (pos (character text at) -ℤ pos 256)) (omega (arith, ints)) (omega (arith, ints, small)))
      (λ e. near_number_from o q (n.one (pos (character text at))) (pos (character text at)) (pos (character text at)) (q.one_bounds (pos (character text at))) (omega (arith, ints)) (omega (arith, ints, small)))

  near_of : (x : I) → near_number l n x ≡ x → IsNearValue l n (number_value l x sets.no_labels)
  near_of x e = let none = near_number_none o q l.least q.least_bounds in record { num = e; lo = none; rel = none; len = none }

  near_joined : (x y : I) → near_number l n x ≡ x → near_number l n y ≡ y → near_number l n (l.join x y) ≡ l.join x y
  near_joined x y e f = (join_near o q (number_value l x sets.no_labels) (number_value l y sets.no_labels) (near_of x e) (near_of y f)).num

  module _ (leaf : Leaf) (offset : ℕ) (text : List ℕ) (small : AreBytes text) where
    near_hull : (count : ℕ) → near_number l n (hull l n leaf offset count text) ≡ hull l n leaf offset count text
    unfolding hull
    near_hull zero = near_number_none o q l.least q.least_bounds
    near_hull (suc count) = cond_both (begins_at leaf (capped (offset + count))) (l.join (hull l n leaf offset count text) (spelling.number_of n (character text count) leaf.signed)) (hull l n leaf offset count text) (λ x. near_number l n x ≡ x)
        (λ e. near_joined _ _ (near_hull count) (near_character text count leaf.signed small))
        (λ e. near_hull count)

    -- the hull has each character at a place of the leaf
    pub hull_stands : (count at : ℕ) → at < count → begins_at leaf (capped (offset + at)) ≡ true → gamma (hull l n leaf offset count text) (character_number (character text at) leaf.signed)
    unfolding hull
    hull_stands zero at h e = absurd (omega (arith, h))
    hull_stands (suc count) at h e = elim (cases_eq at count) [
      | inl d ↦ (let f : begins_at leaf (capped (offset + count)) ≡ true = subst (λ z. begins_at leaf (capped (offset + z)) ≡ true) d e in
          let x : I = spelling.number_of n (character text count) leaf.signed in
          subst (λ z. gamma z (character_number (character text at) leaf.signed)) (sym (cond_hit (begins_at leaf (capped (offset + count))) (l.join (hull l n leaf offset count text) x) (hull l n leaf offset count text) f))
          (subst (λ z. gamma (l.join (hull l n leaf offset count text) x) (character_number (character text z) leaf.signed)) (sym d)
          (q.larger x (l.join (hull l n leaf offset count text) x) _ (o.join_right (hull l n leaf offset count text) x) (q.one_stands (character_number (character text count) leaf.signed)))))
      | inr d ↦ (let k = hull_stands count at (omega (arith, h, d)) e in
          cond_both (begins_at leaf (capped (offset + count))) (l.join (hull l n leaf offset count text) (spelling.number_of n (character text count) leaf.signed)) (hull l n leaf offset count text) (λ z. gamma z (character_number (character text at) leaf.signed))
          (λ f. q.larger (hull l n leaf offset count text) _ _ (o.join_left (hull l n leaf offset count text) (spelling.number_of n (character text count) leaf.signed)) k)
          (λ f. k))
    ]
      where
        cond_hit : {A : Type 0} (b : Bool) (x y : A) → b ≡ true → cond b x y ≡ x
        cond_hit true x y e = refl
        cond_hit false x y e = cc

    pub near_characters : (count : ℕ) → IsNearValue l n (characters l n leaf offset count text)
    unfolding characters
    near_characters count = near_of (hull l n leaf offset count text) (near_hull count)

    pub near_one : IsNearValue l n (one_character l n leaf offset text)
    unfolding one_character
    near_one = near_of _ (near_character text (leaf.offset - offset) leaf.signed small)

-- ---- first zeros

-- bytes of the text, and of the zero behind it
abbrev pub AreOf : List ℕ → List Byte → Type 0
AreOf text bytes = (k : ℕ) (b : Byte) → slice_get bytes k ≡ Some b → k ≤ length text → b.content ≡ number (character text k) no_labels

-- the first zero is at the end of the text, where that is within the bytes
pub record EndsAt (end : ℕ) (bytes : List Byte) : Type 0 where
  pub inside : end < length bytes → first_zero bytes ≡ Some end
  pub outside : length bytes ≤ end → first_zero bytes ≡ None

text_goes_on : (x : ℕ) (xs : List ℕ) → text_length (suc x ∷ xs) ≡ suc (text_length xs)
text_goes_on x xs = let e : (suc x == 0) ≡ false = grind (arith, nat_tests) in rw e refl

pub text_ends : (text : List ℕ) (bytes : List Byte) → AreOf text bytes → EndsAt (text_length text) bytes
text_ends text [] h = record { inside = λ k. absurd (omega (arith, k)); outside = λ k. refl }
text_ends [] (b ∷ bs) h =
    let e = h 0 b refl (omega arith) in
    record { inside = λ k. ap (λ x. zero_by (seen_as x) (first_zero bs)) e; outside = λ k. absurd (omega (arith, k)) }
text_ends (zero ∷ xs) (b ∷ bs) h =
    let e = h 0 b refl (omega arith) in
    record { inside = λ k. ap (λ x. zero_by (seen_as x) (first_zero bs)) e; outside = λ k. absurd (omega (arith, k)) }
text_ends (suc x ∷ xs) (b ∷ bs) h =
    let e = h 0 b refl (omega arith) in
    let r = text_ends xs bs (λ k c f small. h (suc k) c f (omega (arith, small))) in
    subst (λ z. EndsAt z (b ∷ bs)) (sym (text_goes_on x xs)) (record {
      inside = λ k. ap (λ y. zero_by (seen_as y) (first_zero bs)) e ∙ ap one_more (r.inside (omega (arith, k)));
      outside = λ k. ap (λ y. zero_by (seen_as y) (first_zero bs)) e ∙ ap one_more (r.outside (omega (arith, k)));
    })

module _ {I : Type 0} {l : LatticeOf I} {n : IntegersOf I} {gamma : I → ℤ → Type 0} (q : BoundLaws l n gamma) where
  pub first_zero_stands : (room : ℕ) (text : List ℕ) (bytes : List Byte) → length bytes ≡ room → AreOf text bytes → gamma (first_zero_of n room text).at (zero_offset (first_zero bytes))
  first_zero_stands room text bytes long h = by_room (nat_lt (text_length text) room) refl
    where
      ends : EndsAt (text_length text) bytes
      ends = text_ends text bytes h

      by_room : (fits : Bool) → nat_lt (text_length text) room ≡ fits → gamma (cond fits (zero_of (n.one (pos (text_length text)))) (no_zero n)).at (zero_offset (first_zero bytes))
      by_room true e = let f = ltb-true (text_length text) room e in subst (λ z. gamma (n.one (pos (text_length text))) (zero_offset z)) (sym (ends.inside (omega (arith, long, f)))) (q.one_stands (pos (text_length text)))
      by_room false e = let f = ltb-false (text_length text) room e in subst (λ z. gamma (n.one the_end) (zero_offset z)) (sym (ends.outside (omega (arith, long, f)))) (q.one_stands the_end)
