-- Larger spans reach each leaf that smaller ones reach.
use Rattle.std.specs.Prelude.{◌≡◌, ℕ, ◌+◌, ◌-◌, ◌*◌, ◌^◌, ◌≤◌, ◌<◌, ◌==◌, Bool, true, false, cond, not, refl}
use Rattle.std.proofs.Common.{add-mul, arith, ap, ◌∙◌, subst, sym, inl, inr}
use Rattle.std.proofs.lemmas.Bool.{and_parts, and_from, eqb-true, cases_lt}
use Rattle.c_layout.specs.declared.data_model.Model.{Model}
use Rattle.c_layout.specs.declared.leaf_lists.Class.{Class}
use Rattle.c_layout.specs.declared.leaf_lists.Class.TheVariants.{Char, Short, Int, Long, LongLong, Pointer}
use Rattle.c_layout.specs.declared.leaf_lists.Leaf.{Leaf}
use Rattle.store_cells.specs.ScalarTypes.{class_bytes}
use Rattle.store_cells.specs.ClassNumbers.{same_class}
use Rattle.store_cells.specs.RowPositions.{capped}
use Rattle.store_cells.specs.AccessWindows.{window_between}
use Rattle.store.specs.LeafSelection.{has_place_in}
use Rattle.store_monotone.proofs.operations.PlacesOfLeaves.{place_of_test}
use Rattle.store_struct_leaves.specs.declared.copy_places.Span.{Span}
use Rattle.store_struct_leaves.specs.CopyPlaces.{any_below, shifted, span_width, span_joined, span_window, span_raised, one_place_meets, alike_meets, window_meets, each_meets, several_meet, joined_meet, meets, leaf_raised, is_reached, is_touched}
use Rattle.store_monotone.specs.Structs.LargerSpans.{SpanWithin, IsMetToo}
use Rattle.store_monotone.proofs.structs.Places.{test_of_place, window_more, any_more, any_found}
use Rattle.store_monotone.proofs.structs.JoinedSpans.{SpanBelow, same, one, IsSpan, span_end, less_times, below_of, small_span, large_span, joined_span, joined_below, raised_below, raised_span}

-- a leaf whose places lie within 2^61 bytes
pub record IsShort (leaf : Leaf) : Type 0 where
  pub some : 0 < leaf.count
  pub apart : 0 < leaf.stride
  pub near : leaf.offset + leaf.count * leaf.stride ≤ 2 ^ 61

-- so that they do where each place is a scalar's size further on
pub record IsNear (leaf : Leaf) : Type 0 where
  pub some : 0 < leaf.count
  pub apart : 0 < leaf.stride
  pub near : leaf.offset + leaf.count * leaf.stride ≤ 2 ^ 61 + 8

-- ---- the same windows, with more offsets each

module _ (leaf : Leaf) (s u : Span) (lo : u.first.lo ≤ s.first.lo) (some : s.first.lo ≤ s.first.hi) (hi : s.first.hi ≤ u.first.hi) (stride : s.stride ≡ u.stride) (count : s.count ≡ u.count) where
  one_more : one_place_meets leaf s ≡ true → one_place_meets leaf u ≡ true
  one_more e =
      let p = place_of_test (record leaf { offset = s.first.lo; stride = s.stride; count = s.count }) (window_between (leaf.offset - span_width s) leaf.offset) e in
      let a = p.from in let b = p.to in let d = p.below in let f = p.apart in
      let t : p.turn * s.stride ≡ p.turn * u.stride = ap (λ z. p.turn * z) stride in
      test_of_place (record leaf { offset = u.first.lo; stride = u.stride; count = u.count }) (window_between (leaf.offset - span_width u) leaf.offset)
      (record { turn = p.turn; below = omega arith; from = omega arith; to = omega arith; apart = omega arith })

  last : (s.count - 1) * s.stride ≡ (u.count - 1) * u.stride
  last = λ j. (count j - 1) * stride j

  alike_more : alike_meets leaf s ≡ true → alike_meets leaf u ≡ true
  alike_more e =
      let t : (record leaf { count = capped (leaf.count + (s.count - 1)) }) ≡ (record leaf { count = capped (leaf.count + (u.count - 1)) }) = ap (λ z. record leaf { count = capped (leaf.count + (z - 1)) }) count in
      let m = last in
      window_more (record leaf { count = capped (leaf.count + (u.count - 1)) }) (shifted s.first (capped ((s.count - 1) * s.stride))) (shifted u.first (capped ((u.count - 1) * u.stride))) (omega arith) (omega arith)
      (subst (λ z. has_place_in z (shifted s.first (capped ((s.count - 1) * s.stride))) ≡ true) t e)

  each_more : each_meets leaf s ≡ true → each_meets leaf u ≡ true
  unfolding each_meets
  each_more e = any_more (window_meets leaf s) (window_meets leaf u) u.count
      (λ k l. let t : k * s.stride ≡ k * u.stride = ap (λ z. k * z) stride in window_more leaf (span_window s k) (span_window u k) (omega arith) (omega arith))
      (subst (λ c. any_below (window_meets leaf s) c ≡ true) count e)

  several_more : several_meet leaf s ≡ true → several_meet leaf u ≡ true
  unfolding several_meet
  several_more = by_tests (leaf.count == 1) (leaf.stride == s.stride) (leaf.stride == u.stride) (ap (λ z. leaf.stride == z) stride)
    where
      by_tests : (a c d : Bool) → c ≡ d → cond a (one_place_meets leaf s) (cond c (alike_meets leaf s) (each_meets leaf s)) ≡ true → cond a (one_place_meets leaf u) (cond d (alike_meets leaf u) (each_meets leaf u)) ≡ true
      by_tests true c d f e = one_more e
      by_tests false true true f e = alike_more e
      by_tests false false false f e = each_more e
      by_tests false true false f e = absurd (cc)
      by_tests false false true f e = absurd (cc)

  same_more : joined_meet leaf s ≡ true → joined_meet leaf u ≡ true
  unfolding joined_meet
  same_more = by_test (s.count == 1) (u.count == 1) (ap (λ z. z == 1) count)
    where
      by_test : (c d : Bool) → c ≡ d → cond c (has_place_in leaf s.first) (several_meet leaf s) ≡ true → cond d (has_place_in leaf u.first) (several_meet leaf u) ≡ true
      by_test true true f e = window_more leaf s.first u.first lo hi e
      by_test false false f e = several_more e
      by_test true false f e = absurd (cc)
      by_test false true f e = absurd (cc)

-- ---- all windows in one

-- a place between the first offset and the last one
pub record LiesIn (leaf : Leaf) (s : Span) : Type 0 where
  pub turn : ℕ
  pub below : turn < leaf.count
  pub from : s.first.lo ≤ leaf.offset + turn * leaf.stride
  pub to : leaf.offset + turn * leaf.stride ≤ span_end s

module _ (leaf : Leaf) (s : Span) (f : IsNear leaf) (h : IsSpan s) where
  one_lies : one_place_meets leaf s ≡ true → LiesIn leaf s
  one_lies e =
      let p = place_of_test (record leaf { offset = s.first.lo; stride = s.stride; count = s.count }) (window_between (leaf.offset - span_width s) leaf.offset) e in
      let a = p.from in let b = p.to in let d = p.below in let some = h.some in let near = f.near in
      let t = less_times p.turn (s.count - 1) s.stride (omega arith) in
      let z : 0 * leaf.stride ≡ 0 = omega arith in
      record { turn = 0; below = f.some; from = omega arith; to = omega arith }

  -- a product of a sum, by an equation between the factors
  times_sum : (a b c t : ℕ) → a ≡ b + c → a * t ≡ b * t + c * t
  times_sum a b c t e = ap (λ x. x * t) e ∙ add-mul b c t

  alike_lies : leaf.stride ≡ s.stride → alike_meets leaf s ≡ true → LiesIn leaf s
  alike_lies g e =
      let p = place_of_test (record leaf { count = capped (leaf.count + (s.count - 1)) }) (shifted s.first (capped ((s.count - 1) * s.stride))) e in
      let a = p.from in let b = p.to in let d = p.below in let some = h.some in let near = f.near in let one = f.some in let short = h.short in
      let m = less_times (s.count - 1) s.count s.stride (omega arith) in
      let w : p.turn * leaf.stride ≤ ((leaf.count - 1) + (s.count - 1)) * leaf.stride = less_times p.turn ((leaf.count - 1) + (s.count - 1)) leaf.stride (omega arith) in
      let v = add-mul (leaf.count - 1) (s.count - 1) leaf.stride in
      let x : (s.count - 1) * leaf.stride ≡ (s.count - 1) * s.stride = ap (λ z. (s.count - 1) * z) g in
      let y = less_times (leaf.count - 1) leaf.count leaf.stride (omega arith) in
      elim (cases_lt p.turn (s.count - 1)) [
        | inl q ↦ (let z : 0 * leaf.stride ≡ 0 = omega arith in
            let k = less_times p.turn (s.count - 1) leaf.stride (omega arith) in
            record { turn = 0; below = one; from = omega arith; to = omega arith })
        | inr q ↦ (let k = times_sum p.turn (s.count - 1) (p.turn - (s.count - 1)) leaf.stride (omega arith) in
            record { turn = p.turn - (s.count - 1); below = omega arith; from = omega arith; to = omega arith })
      ]

  each_lies : each_meets leaf s ≡ true → LiesIn leaf s
  unfolding each_meets
  each_lies e =
      let r = any_found (window_meets leaf s) s.count e in
      let p = place_of_test leaf (span_window s r.number) r.holds in
      let a = p.from in let b = p.to in let some = h.some in let near = h.near in let below = r.below in
      let t = less_times r.number (s.count - 1) s.stride (omega arith) in
      record { turn = p.turn; below = p.below; from = omega arith; to = omega arith }

  several_lies : several_meet leaf s ≡ true → LiesIn leaf s
  unfolding several_meet
  several_lies = by_tests (leaf.count == 1) (leaf.stride == s.stride) refl
    where
      by_tests : (a c : Bool) → (leaf.stride == s.stride) ≡ c → cond a (one_place_meets leaf s) (cond c (alike_meets leaf s) (each_meets leaf s)) ≡ true → LiesIn leaf s
      by_tests true c g e = one_lies e
      by_tests false true g e = alike_lies (eqb-true leaf.stride s.stride g) e
      by_tests false false g e = each_lies e

  pub meet_lies : joined_meet leaf s ≡ true → LiesIn leaf s
  unfolding joined_meet
  meet_lies = by_test (s.count == 1)
    where
      by_test : (c : Bool) → cond c (has_place_in leaf s.first) (several_meet leaf s) ≡ true → LiesIn leaf s
      by_test true e = let p = place_of_test leaf s.first e in let a = p.from in let b = p.to in let near = h.near in record { turn = p.turn; below = p.below; from = a; to = omega arith }
      by_test false e = several_lies e

one_meets : (leaf : Leaf) (s u : Span) → IsNear leaf → u.count ≡ 1 → u.first.lo ≤ s.first.lo → span_end s ≤ u.first.hi → LiesIn leaf s → joined_meet leaf u ≡ true
unfolding joined_meet
one_meets leaf s u f c a b p =
    let x = p.from in let y = p.to in
    subst (λ z. cond (z == 1) (has_place_in leaf u.first) (several_meet leaf u) ≡ true) (sym c) (test_of_place leaf u.first (record { turn = p.turn; below = p.below; from = omega arith; to = omega arith; apart = f.apart }))

pub meet_more : (leaf : Leaf) → IsNear leaf → (s u : Span) → IsSpan s → SpanBelow s u → joined_meet leaf s ≡ true → joined_meet leaf u ≡ true
meet_more leaf f s u h (same a b d c) e = same_more leaf s u a h.some b d c e
meet_more leaf f s u h (one c a b) e = one_meets leaf s u f c a b (meet_lies leaf s f h e)

pub meets_more : (leaf : Leaf) → IsNear leaf → (s u : Span) → IsSpan s → IsSpan u → SpanBelow s u → meets leaf s ≡ true → meets leaf u ≡ true
unfolding meets
meets_more leaf f s u h k i e = meet_more leaf f (span_joined s) (span_joined u) (joined_span s h) (joined_below s u h k i) e

-- ---- leaves of larger spans

short_near : (leaf : Leaf) → IsShort leaf → IsNear leaf
short_near leaf f = record { some = f.some; apart = f.apart; near = (let a = f.near in omega arith) }

raised_near : (leaf : Leaf) (bytes : ℕ) → bytes ≤ 8 → IsShort leaf → IsNear (leaf_raised leaf bytes)
raised_near leaf bytes h f = record { some = f.some; apart = f.apart; near = (let a = f.near in omega arith) }

either_small : (c : Bool) (a b : ℕ) → a ≤ 8 → b ≤ 8 → cond c a b ≤ 8
either_small true a b h k = h
either_small false a b h k = k

class_small : (m : Model) (c : Class) → class_bytes m c ≤ 8
class_small m Char = omega arith
class_small m Short = omega arith
class_small m Int = either_small (m.int == 2) 2 4 (omega arith) (omega arith)
class_small m Long = either_small (m.long == 4) 4 8 (omega arith) (omega arith)
class_small m LongLong = omega arith
class_small m Pointer = either_small (m.pointer == 4) 4 8 (omega arith) (omega arith)

pub met_too : (m : Model) (leaf : Leaf) → IsShort leaf → (s u : Span) → SpanWithin s u → IsMetToo m s u leaf
unfolding is_reached is_touched
met_too m leaf f s u i =
    let h = small_span s u i in
    let k = large_span s u i in
    let b = below_of s u i in
    let bytes = class_bytes m leaf.class - 1 in
    let small = class_small m leaf.class in
    record {
      own = λ class e. let p = and_parts (same_class leaf.class class) (meets leaf s) e in and_from _ _ p.0 (meets_more leaf (short_near leaf f) s u h k b p.1);
      other = λ e. let p = and_parts (not (same_class leaf.class Char)) (meets (leaf_raised leaf bytes) (span_raised (span_joined s) bytes)) e in
          and_from _ _ p.0 (meets_more (leaf_raised leaf bytes) (raised_near leaf bytes (omega arith) f) (span_raised (span_joined s) bytes) (span_raised (span_joined u) bytes) (raised_span (span_joined s) bytes (joined_span s h)) (raised_span (span_joined u) bytes (joined_span u k))
          (raised_below (span_joined s) (span_joined u) bytes (joined_below s u h k b)) p.1);
    }
