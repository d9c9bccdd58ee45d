-- The tests of spans see the offsets that they are to see.
use Rattle.std.proofs.Common.{add-mul, ◌≡◌, ℕ, zero, suc, ◌+◌, ◌-◌, ◌*◌, ◌<◌, ◌≤◌, ◌^◌, Bool, true, false, cond, arith, subst, sym, refl, ap, ◌∙◌, inl, inr}
use Rattle.std.specs.Prelude.{◌==◌, not}
use Rattle.std.proofs.lemmas.Nat.{mul-le}
use Rattle.std.proofs.lemmas.Bool.{cases_lt, and_from, eqb-true, or_left, or_right}
use Rattle.c_layout.specs.declared.data_model.Model.{Model}
use Rattle.c_layout.specs.declared.leaf_lists.Class.{Class}
use Rattle.c_layout.specs.declared.leaf_lists.Class.TheVariants.{Char, Short, Int, Long, LongLong, Pointer}
use Rattle.c_layout.specs.declared.leaf_lists.Leaf.{Leaf}
use Rattle.store_cells.specs.AccessWindows.{window_between}
use Rattle.store_cells.specs.ClassNumbers.{same_class}
use Rattle.store.specs.LeafSelection.{has_place_in}
use Rattle.store_cells.specs.RowPositions.{capped}
use Rattle.store_cells.specs.ScalarTypes.{class_bytes}
use Rattle.store_sound.specs.Concretization.Places.{IsPlaceOf, OwnedByLeaf}
use Rattle.store_sound.proofs.operations.Selected.{place_selected}
use Rattle.store_struct_leaves.specs.CopyPlaces.{any_below, shifted, span_width, is_apart, all_in_one, span_joined, span_window, span_raised, leaf_raised, one_place_meets, alike_meets, window_meets, each_meets, several_meet, joined_meet, meets, is_reached, is_touched}
use Rattle.store_struct_leaves.specs.declared.copy_places.Span.{Span}
use Rattle.struct_copies_sound.specs.Spans.SpanBytes.{IsInSpan, IsShortSpan, SpansSee}

any_at : (p : ℕ → Bool) (k count : ℕ) → k < count → p k ≡ true → any_below p count ≡ true
any_at p k zero h e = absurd (omega (arith, h))
any_at p k (suc count) h e = elim (cases_lt k count) [
  | inl a ↦ or_left (any_below p count) (p count) (any_at p k count a e)
  | inr a ↦ or_right (any_below p count) (p count) (let f : k ≡ count = omega (arith, a, h) in subst (λ j. p j ≡ true) f e)
]

first_turn : (turn count : ℕ) → turn < count → count ≡ 1 → turn ≡ 0
first_turn turn count h e = omega (arith, h, e)

-- ---- a leaf with a place in a span

module _ (leaf : Leaf) (s : Span) (x : ℕ) (apart : 0 < leaf.stride) (few : leaf.count ≤ 2 ^ 61) (h : IsShortSpan s) (i : IsInSpan s x) (near : x ≤ 2 ^ 63) (p : IsPlaceOf leaf x) where
  swapped : s.stride * i.turn ≡ i.turn * s.stride
  swapped = omega arith

  one_met : leaf.count ≡ 1 → one_place_meets leaf s ≡ true
  one_met e =
      let a = first_turn p.turn leaf.count p.few e in
      let b = p.there in
      let c : leaf.stride * p.turn ≡ 0 = ap (λ z. leaf.stride * z) a ∙ omega arith in
      let d = i.from in
      let f = i.to in
      let g = swapped in
      place_selected (record leaf { offset = s.first.lo; stride = s.stride; count = s.count }) (window_between (leaf.offset - span_width s) leaf.offset) (s.first.lo + s.stride * i.turn)
      (record { turn = i.turn; few = i.few; there = refl }) h.apart (omega (arith, b, c, d, f, g)) (omega (arith, b, c, d, f, g))

  each_met : each_meets leaf s ≡ true
  unfolding each_meets
  each_met =
      let d = i.from in
      let f = i.to in
      any_at (window_meets leaf s) i.turn s.count i.few (place_selected leaf (span_window s i.turn) x p apart (omega (arith, d)) (omega (arith, f, near)))

  alike_met : leaf.stride ≡ s.stride → alike_meets leaf s ≡ true
  alike_met e =
      let few_turns = i.few in
      let back : ℕ = (s.count - 1) - i.turn in
      let t : ℕ = s.stride in
      let sum : (s.count - 1) * t ≡ i.turn * t + back * t = ap (λ z. z * t) (omega arith) ∙ add-mul i.turn back t in
      let all : (p.turn + back) * t ≡ p.turn * t + back * t = add-mul p.turn back t in
      let spare : (s.count - 1) * t ≤ s.count * t = mul-le (s.count - 1) t s.count t (omega arith) (omega arith) in
      let there : x ≡ leaf.offset + p.turn * t = p.there ∙ (ap (λ z. leaf.offset + z * p.turn) e ∙ omega arith) in
      let d = i.from in
      let f = i.to in
      let few_places = p.few in
      let most = h.few in
      let short = h.short in
      place_selected (record leaf { count = capped (leaf.count + (s.count - 1)) }) (shifted s.first (capped ((s.count - 1) * s.stride))) (x + back * t)
      (record { turn = p.turn + back; few = omega (arith, few_places, few_turns, few, most); there = ap (λ z. z + back * t) there ∙ (omega (arith, all) ∙ ap (λ z. leaf.offset + z * (p.turn + back)) (sym e)) }) apart
      (omega (arith, d, sum, short)) (omega (arith, f, sum, spare, short, near))

  several_met : several_meet leaf s ≡ true
  unfolding several_meet
  several_met = by_tests (leaf.count == 1) refl (leaf.stride == s.stride) refl
    where
      by_tests : (a : Bool) → (leaf.count == 1) ≡ a → (c : Bool) → (leaf.stride == s.stride) ≡ c → cond a (one_place_meets leaf s) (cond c (alike_meets leaf s) (each_meets leaf s)) ≡ true
      by_tests true e c f = one_met (eqb-true leaf.count 1 e)
      by_tests false e true f = alike_met (eqb-true leaf.stride s.stride f)
      by_tests false e false f = each_met

  pub joined_met : joined_meet leaf s ≡ true
  unfolding joined_meet
  joined_met = by_test (s.count == 1) refl
    where
      by_test : (c : Bool) → (s.count == 1) ≡ c → cond c (has_place_in leaf s.first) (several_meet leaf s) ≡ true
      by_test true e =
          let a = first_turn i.turn s.count i.few (eqb-true s.count 1 e) in
          let b : i.turn * s.stride ≡ 0 = ap (λ z. z * s.stride) a ∙ omega arith in
          let d = i.from in
          let f = i.to in
          place_selected leaf s.first x p apart (omega (arith, b, d)) (omega (arith, b, f))
      by_test false e = several_met

-- ---- joined

one_short : (s : Span) → IsShortSpan (all_in_one s)
one_short s = record { apart = omega arith; few = omega arith; short = omega arith }

pub joined_short : (s : Span) → IsShortSpan s → IsShortSpan (span_joined s)
joined_short s h = by_test (is_apart s)
  where
    by_test : (c : Bool) → IsShortSpan (cond c s (all_in_one s))
    by_test true = h
    by_test false = one_short s

pub joined_has : (s : Span) (x : ℕ) → IsShortSpan s → IsInSpan s x → x ≤ 2 ^ 63 → IsInSpan (span_joined s) x
joined_has s x h i near = by_test (is_apart s)
  where
    by_test : (c : Bool) → IsInSpan (cond c s (all_in_one s)) x
    by_test true = i
    by_test false =
        let a = i.few in
        let k = mul-le i.turn s.stride (s.count - 1) s.stride (omega (arith, a)) (omega arith) in
        let spare = mul-le (s.count - 1) s.stride s.count s.stride (omega arith) (omega arith) in
        let short = h.short in
        let d = i.from in
        let f = i.to in
        record { turn = 0; few = omega arith; from = omega (arith, d); to = omega (arith, f, k, spare, short, near) }

module _ (leaf : Leaf) (s : Span) (x : ℕ) (apart : 0 < leaf.stride) (few : leaf.count ≤ 2 ^ 61) (h : IsShortSpan s) (i : IsInSpan s x) (near : x ≤ 2 ^ 63) where
  pub span_met : IsPlaceOf leaf x → meets leaf s ≡ true
  unfolding meets
  span_met p = joined_met leaf (span_joined s) x apart few (joined_short s h) (joined_has s x h i near) near p

-- ---- bytes behind a place

either_most : (b : Bool) (x y : ℕ) → x ≤ 8 → y ≤ 8 → cond b x y ≤ 8
either_most true x y h k = h
either_most false x y h k = k

bytes_most : (m : Model) (c : Class) → class_bytes m c ≤ 8
bytes_most m Char = omega arith
bytes_most m Short = omega arith
bytes_most m Int = either_most (m.int == 2) 2 4 (omega arith) (omega arith)
bytes_most m Long = either_most (m.long == 4) 4 8 (omega arith) (omega arith)
bytes_most m LongLong = omega arith
bytes_most m Pointer = either_most (m.pointer == 4) 4 8 (omega arith) (omega arith)

small_bytes : (m : Model) (leaf : Leaf) → class_bytes m leaf.class ≤ 8
small_bytes m leaf = bytes_most m leaf.class

module _ (m : Model) (leaf : Leaf) (s : Span) (x k : ℕ) (apart : 0 < leaf.stride) (few : leaf.count ≤ 2 ^ 61) (h : IsShortSpan s) (i : IsInSpan s x) (near : x ≤ 2 ^ 62) (own : OwnedByLeaf m leaf x k) where
  abbrev more : ℕ
  more = class_bytes m leaf.class - 1

  raised_has : IsInSpan (span_raised s more) (own.start + more)
  raised_has =
      let a = own.there in
      let b = own.small in
      let d = i.from in
      let f = i.to in
      let eight = small_bytes m leaf in
      record { turn = i.turn; few = i.few; from = omega (arith, a, b, d); to = omega (arith, a, f, near, eight) }

  raised_short : IsShortSpan (span_raised s more)
  raised_short = record { apart = h.apart; few = h.few; short = h.short }

  raised_place : IsPlaceOf (leaf_raised leaf more) (own.start + more)
  raised_place =
      let p = own.place in
      let e = p.there in
      let a = own.there in
      let eight = small_bytes m leaf in
      record { turn = p.turn; few = p.few; there = omega (arith, e, a, near, eight) }

  pub raised_met : meets (leaf_raised leaf more) (span_raised s more) ≡ true
  raised_met =
      let a = own.there in
      let eight = small_bytes m leaf in
      span_met (leaf_raised leaf more) (span_raised s more) (own.start + more) apart few raised_short raised_has (omega (arith, a, near, eight)) raised_place

-- ---- the tests

pub spans_see : (m : Model) → SpansSee m
unfolding is_reached is_touched
spans_see m leaf s x apart few h i near =
    let near3 : x ≤ 2 ^ 63 = omega (arith, near) in
    let joined = joined_has s x h i near3 in
    let short = joined_short s h in
    record {
      place = λ class p e. and_from (same_class leaf.class class) (meets leaf s) e (span_met leaf s x apart few h i near3 p);
      byte = λ k own wide. and_from (not (same_class leaf.class Char)) _ (ap not wide) (raised_met m leaf (span_joined s) x k apart few short joined near own);
    }
