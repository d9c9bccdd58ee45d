-- Where a span has an offset of no leaf of a class, so has a larger one.
use Rattle.std.specs.Prelude.{◌≡◌, ℕ, zero, suc, ◌+◌, ◌-◌, ◌*◌, ◌^◌, ◌≤◌, ◌<◌, ◌==◌, max, Bool, true, false, cond, ◌&&◌, ◌||◌, nat_lt, nat_le, List, [], ◌∷◌, count_by, refl}
use Rattle.std.proofs.Common.{arith, sym, subst, ap, ◌∙◌, inl, inr, ◌⊎◌}
use Rattle.std.proofs.lemmas.Bool.{cases_Bool, cases_lt, and_parts, and_from, or_left, or_right, or_cases, leb-true, le-leb, ltb-true, lt-ltb, eqb-true, eq-eqb}
use Rattle.std.proofs.lemmas.Nat.{mul-le}
use Rattle.std.proofs.lemmas.List.Sums.{sum_by-cons}
use Rattle.c_layout.specs.declared.leaf_lists.Class.{Class}
use Rattle.c_layout.specs.declared.leaf_lists.Leaf.{Leaf}
use Rattle.store_cells.specs.ClassNumbers.{same_class}
use Rattle.store_cells.specs.RowPositions.{capped}
use Rattle.store_cells.specs.AccessWindows.{window_between}
use Rattle.store.specs.LeafSelection.{has_place_in}
use Rattle.store_monotone.proofs.operations.PlacesOfLeaves.{place_of_test}
use Rattle.store_struct_leaves.specs.declared.copy_places.Span.{Span}
use Rattle.store_struct_leaves.specs.CopyPlaces.{any_below, span_width, span_size, is_apart, all_in_one, span_joined, one_place_meets, alike_meets, each_meets, several_meet, joined_meet, meets, is_reached, reached_count, span_has_stray}
use Rattle.store_monotone.specs.Structs.LargerSpans.{SpanWithin}
use Rattle.store_monotone.proofs.structs.Places.{test_of_place, any_at}
use Rattle.store_monotone.proofs.structs.JoinedSpans.{SpanBelow, same, one, IsSpan, span_end, below_of, small_span, large_span, joined_span, joined_below, joined_twice}
use Rattle.store_monotone.proofs.structs.ShortLeaves.{IsOne, AreOnes}

-- ---- counts

one_of : (x y z : Bool) → (x ≡ true → (y || z) ≡ true) → cond {A = ℕ} x 1 0 ≤ cond y 1 0 + cond z 1 0
one_of false y z h = omega arith
one_of true true z h = omega arith
one_of true false true h = omega arith
one_of true false false h = absurd (let e : false ≡ true = h refl in cc)

count_or : (p q r : Leaf → Bool) → ((leaf : Leaf) → IsOne leaf → p leaf ≡ true → (q leaf || r leaf) ≡ true) → (from : ℕ) (leaves : List Leaf) → AreOnes from leaves → count_by p leaves ≤ count_by q leaves + count_by r leaves
count_or p q r h from [] k = omega arith
count_or p q r h from (leaf ∷ leaves) k =
    let s = count_or p q r h (leaf.offset + 1) leaves k.2 in
    let a = sum_by-cons (λ x. cond {A = ℕ} (p x) 1 0) leaf leaves in
    let b = sum_by-cons (λ x. cond {A = ℕ} (q x) 1 0) leaf leaves in
    let c = sum_by-cons (λ x. cond {A = ℕ} (r x) 1 0) leaf leaves in
    let d = one_of (p leaf) (q leaf) (r leaf) (h leaf k.1) in omega arith

count_none : (leaves : List Leaf) → count_by (λ (leaf : Leaf). false) leaves ≡ 0
count_none [] = refl
count_none (leaf ∷ leaves) = let a = sum_by-cons (λ (x : Leaf). cond {A = ℕ} false 1 0) leaf leaves in let r = count_none leaves in omega arith

-- so many leaves at most in each of so many sets
count_any : (f : ℕ → Leaf → Bool) (d count from : ℕ) (leaves : List Leaf) → AreOnes from leaves → ((k : ℕ) → k < count → count_by (f k) leaves ≤ d) → count_by (λ leaf. any_below (λ k. f k leaf) count) leaves ≤ count * d
count_any f d zero from leaves k h = let e = count_none leaves in omega arith
count_any f d (suc count) from leaves k h =
    let r = count_any f d count from leaves k (λ i l. h i (omega arith)) in
    let s = count_or (λ leaf. any_below (λ k. f k leaf) (suc count)) (λ leaf. any_below (λ k. f k leaf) count) (f count) (λ leaf i e. e) from leaves k in
    let t = h count (omega arith) in
    let e : suc count * d ≡ count * d + d = grind arith in
    omega arith

-- there are not more leaves than offsets that they can have
count_few : (p : Leaf → Bool) (from : ℕ) (leaves : List Leaf) → AreOnes from leaves → count_by p leaves ≤ (2 ^ 30 + 1) - from
count_few p from [] k = omega arith
count_few p from (leaf ∷ leaves) k =
    let r = count_few p (leaf.offset + 1) leaves k.2 in
    let a = sum_by-cons (λ x. cond {A = ℕ} (p x) 1 0) leaf leaves in
    let b = one_of (p leaf) true false (λ e. refl) in
    let c = k.0 in let d = k.1.near in omega arith

module _ (class : Class) where
  -- a leaf of the class that begins from the first offset on and before the second one
  abbrev begins : ℕ → ℕ → Leaf → Bool
  begins a b leaf = same_class leaf.class class && (nat_le a leaf.offset && nat_lt leaf.offset b)

  begins_from : (a b : ℕ) (leaf : Leaf) → same_class leaf.class class ≡ true → a ≤ leaf.offset → leaf.offset < b → begins a b leaf ≡ true
  begins_from a b leaf e h k = and_from _ _ e (and_from _ _ (le-leb a leaf.offset h) (lt-ltb leaf.offset b k))

  count_begins : (a b from : ℕ) (leaves : List Leaf) → AreOnes from leaves → count_by (begins a b) leaves ≤ b - max a from
  count_begins a b from [] k = omega arith
  count_begins a b from (leaf ∷ leaves) k =
      let r = count_begins a b (leaf.offset + 1) leaves k.2 in
      let c = sum_by-cons (λ x. cond {A = ℕ} (begins a b x) 1 0) leaf leaves in
      let d = k.0 in
      elim (cases_Bool (begins a b leaf)) [
        | inl e ↦ (let p = and_parts (same_class leaf.class class) (nat_le a leaf.offset && nat_lt leaf.offset b) e in
            let q = and_parts (nat_le a leaf.offset) (nat_lt leaf.offset b) p.1 in
            let x = leb-true a leaf.offset q.0 in
            let y = ltb-true leaf.offset b q.1 in
            let z : cond {A = ℕ} (begins a b leaf) 1 0 ≡ 1 = ap (λ b. cond b 1 0) e in omega arith)
        | inr e ↦ (let z : cond {A = ℕ} (begins a b leaf) 1 0 ≡ 0 = ap (λ b. cond b 1 0) e in omega arith)
      ]

-- ---- a leaf of one place in a window of the span

record Hit (leaf : Leaf) (s : Span) : Type 0 where
  number : ℕ
  below : number < s.count
  from : s.first.lo + number * s.stride ≤ leaf.offset
  to : leaf.offset ≤ s.first.hi + number * s.stride

hit_of : (leaf : Leaf) → IsOne leaf → (s : Span) → IsSpan s → joined_meet leaf s ≡ true → Hit leaf s
unfolding joined_meet several_meet
hit_of leaf p s h = by_test (s.count == 1) refl
  where
    by_one : (c : Bool) → c ≡ true → cond c (one_place_meets leaf s) (cond (leaf.stride == s.stride) (alike_meets leaf s) (each_meets leaf s)) ≡ true → Hit leaf s
    by_one true d e =
        let q = place_of_test (record leaf { offset = s.first.lo; stride = s.stride; count = s.count }) (window_between (leaf.offset - span_width s) leaf.offset) e in
        let a = q.from in let b = q.to in let c = h.some in
        record { number = q.turn; below = q.below; from = omega arith; to = omega arith }
    by_one false d e = absurd (cc)

    by_test : (c : Bool) → (s.count == 1) ≡ c → cond c (has_place_in leaf s.first) (several_meet leaf s) ≡ true → Hit leaf s
    by_test true d e =
        let q = place_of_test leaf s.first e in
        let one = eqb-true s.count 1 d in
        let z : q.turn ≡ 0 = (let a = q.below in let b = p.count in omega arith) in
        let y : q.turn * leaf.stride ≡ 0 = ap (λ t. t * leaf.stride) z ∙ (omega arith) in
        let a = q.from in let b = q.to in
        let x : 0 * s.stride ≡ 0 = omega arith in
        record { number = 0; below = omega arith; from = omega arith; to = omega arith }
    by_test false d e = by_one (leaf.count == 1) (eq-eqb leaf.count 1 p.count) e

-- one window, or windows apart
abbrev pub IsSplit : Span → Type 0
IsSplit s = (s.count ≡ 1) ⊎ (capped (span_width s + 1) < s.stride)

hit_meets : (leaf : Leaf) → IsOne leaf → (s : Span) → IsSpan s → IsSplit s → Hit leaf s → joined_meet leaf s ≡ true
unfolding joined_meet several_meet
hit_meets leaf p s h k q = by_test (s.count == 1) refl
  where
    apart : (s.count == 1) ≡ false → 0 < s.stride
    apart d = elim (k) [
      | inl e ↦ absurd (let f = eq-eqb s.count 1 e in cc)
      | inr e ↦ omega arith
    ]

    by_one : (c : Bool) → c ≡ true → 0 < s.stride → cond c (one_place_meets leaf s) (cond (leaf.stride == s.stride) (alike_meets leaf s) (each_meets leaf s)) ≡ true
    by_one true d e =
        let a = q.from in let b = q.to in
        test_of_place (record leaf { offset = s.first.lo; stride = s.stride; count = s.count }) (window_between (leaf.offset - span_width s) leaf.offset) (record { turn = q.number; below = q.below; from = omega arith; to = omega arith; apart = e })
    by_one false d e = absurd (cc)

    by_test : (c : Bool) → (s.count == 1) ≡ c → cond c (has_place_in leaf s.first) (several_meet leaf s) ≡ true
    by_test true d =
        let one = eqb-true s.count 1 d in
        let z : q.number ≡ 0 = (let a = q.below in omega arith) in
        let y : q.number * s.stride ≡ 0 = ap (λ t. t * s.stride) z ∙ (omega arith) in
        let x : 0 * leaf.stride ≡ 0 = omega arith in
        let a = q.from in let b = q.to in let c = p.count in
        test_of_place leaf s.first (record { turn = 0; below = omega arith; from = omega arith; to = omega arith; apart = p.apart })
    by_test false d = by_one (leaf.count == 1) (eq-eqb leaf.count 1 p.count) (apart d)

joined_split : (s : Span) → 0 < (span_joined s).count → IsSplit (span_joined s)
joined_split s = by_test (is_apart s) refl
  where
    by_test : (c : Bool) → is_apart s ≡ c → 0 < (cond c s (all_in_one s)).count → IsSplit (cond c s (all_in_one s))
    by_test false e h = inl refl
    by_test true e h = by_none (s.count == 0) refl e
      where
        by_none : (d : Bool) → (s.count == 0) ≡ d → (d || nat_lt (capped (span_width s + 1)) s.stride) ≡ true → IsSplit s
        by_none true f g = absurd (let z = eqb-true s.count 0 f in omega arith)
        by_none false f g = inr (ltb-true (capped (span_width s + 1)) s.stride g)

module _ (class : Class) where
  reached_hit : (leaf : Leaf) → IsOne leaf → (s : Span) → IsSpan s → is_reached leaf class (span_joined s) ≡ true → (same_class leaf.class class ≡ true) × Hit leaf (span_joined s)
  unfolding is_reached meets
  reached_hit leaf p s h e =
      let a = and_parts (same_class leaf.class class) (joined_meet leaf (span_joined (span_joined s))) e in
      (a.0, hit_of leaf p (span_joined s) (joined_span s h) (subst (λ z. joined_meet leaf z ≡ true) (joined_twice s) a.1))

  hit_reached : (leaf : Leaf) → IsOne leaf → (s : Span) → IsSpan s → same_class leaf.class class ≡ true → Hit leaf (span_joined s) → is_reached leaf class (span_joined s) ≡ true
  unfolding is_reached meets
  hit_reached leaf p s h e q =
      let b = q.below in
      and_from _ _ e (subst (λ z. joined_meet leaf z ≡ true) (sym (joined_twice s)) (hit_meets leaf p (span_joined s) (joined_span s h) (joined_split s (omega arith)) q))

  module _ (s u : Span) (h : IsSpan s) (k : IsSpan u) (from : ℕ) (leaves : List Leaf) (ones : AreOnes from leaves) where
    abbrev small : Span
    small = span_joined s

    abbrev large : Span
    large = span_joined u

    -- ---- the same windows

    -- the offsets of a window that the smaller one has not
    abbrev beside : ℕ → Leaf → Bool
    beside number leaf = begins class (large.first.lo + number * small.stride) (small.first.lo + number * small.stride) leaf || begins class ((small.first.hi + 1) + number * small.stride) ((large.first.hi + 1) + number * small.stride) leaf

    same_leaf : large.first.lo ≤ small.first.lo → small.first.hi ≤ large.first.hi → small.stride ≡ large.stride → small.count ≡ large.count → (leaf : Leaf) → IsOne leaf → is_reached leaf class large ≡ true → (is_reached leaf class small || any_below (λ n. beside n leaf) small.count) ≡ true
    same_leaf a b d c leaf p e =
        let r = reached_hit leaf p u k e in
        let q = r.1 in
        let t : q.number * small.stride ≡ q.number * large.stride = ap (λ z. q.number * z) d in
        let x = q.from in let y = q.to in let l = q.below in
        let n = q.number in
        elim (cases_lt leaf.offset (small.first.lo + n * small.stride)) [
          | inl f ↦ or_right (is_reached leaf class small) _ (any_at (λ n. beside n leaf) n small.count (omega arith) (or_left _ _ (begins_from class (large.first.lo + n * small.stride) (small.first.lo + n * small.stride) leaf r.0 (omega arith) f)))
          | inr f ↦ elim (cases_lt (small.first.hi + n * small.stride) leaf.offset) [
            | inl g ↦ or_right (is_reached leaf class small) _ (any_at (λ n. beside n leaf) n small.count (omega arith) (or_right _ _ (begins_from class ((small.first.hi + 1) + n * small.stride) ((large.first.hi + 1) + n * small.stride) leaf r.0 (omega arith) (omega arith))))
            | inr g ↦ or_left (is_reached leaf class small) _ (hit_reached leaf p s h r.0 (record { number = n; below = omega arith; from = omega arith; to = omega arith }))
          ]
        ]

    abbrev wider : ℕ
    wider = (small.first.lo - large.first.lo) + (large.first.hi - small.first.hi)

    beside_few : (number : ℕ) → count_by (beside number) leaves ≤ wider
    beside_few number =
        let a = count_or (beside number) (begins class (large.first.lo + number * small.stride) (small.first.lo + number * small.stride)) (begins class ((small.first.hi + 1) + number * small.stride) ((large.first.hi + 1) + number * small.stride)) (λ leaf p e. e) from leaves ones in
        let b = count_begins class (large.first.lo + number * small.stride) (small.first.lo + number * small.stride) from leaves ones in
        let c = count_begins class ((small.first.hi + 1) + number * small.stride) ((large.first.hi + 1) + number * small.stride) from leaves ones in
        omega arith

    same_size : (x y w more count : ℕ) → y ≤ x + count * more → y ≤ 2 ^ 30 + 1 → x < capped (capped (w + 1) * count) → y < capped (capped ((w + more) + 1) * count)
    same_size x y w more zero a b c = absurd (let e : capped (w + 1) * 0 ≡ 0 = omega arith in omega arith)
    same_size x y w more (suc count) a b c = elim (cases_lt (2 ^ 64 - 1) ((w + more) + 1)) [
      | inl e ↦ (let f : capped ((w + more) + 1) ≡ 2 ^ 64 - 1 = omega arith in
          let g : capped ((w + more) + 1) * suc count ≡ (2 ^ 64 - 1) * suc count = ap (λ z. z * suc count) f in
          omega arith)
      | inr e ↦ (let f : capped ((w + more) + 1) ≡ (w + 1) + more = omega arith in
          let g : capped ((w + more) + 1) * suc count ≡ ((w + 1) + more) * suc count = ap (λ z. z * suc count) f in
          let i : ((w + 1) + more) * suc count ≡ (w + 1) * suc count + suc count * more = grind arith in
          let j : capped (w + 1) ≡ w + 1 = omega arith in
          let l : capped (w + 1) * suc count ≡ (w + 1) * suc count = ap (λ z. z * suc count) j in
          omega arith)
    ]

    same_stray : large.first.lo ≤ small.first.lo → small.first.hi ≤ large.first.hi → small.stride ≡ large.stride → small.count ≡ large.count → reached_count leaves class small < span_size small → reached_count leaves class large < span_size large
    unfolding reached_count
    same_stray a b d c e =
        let f = count_or (λ leaf. is_reached leaf class large) (λ leaf. is_reached leaf class small) (λ leaf. any_below (λ n. beside n leaf) small.count) (same_leaf a b d c) from leaves ones in
        let g = count_any beside wider small.count from leaves ones (λ n l. beside_few n) in
        let i = count_few (λ leaf. is_reached leaf class large) from leaves ones in
        let j = same_size (reached_count leaves class small) (reached_count leaves class large) (span_width small) wider small.count (omega arith) (omega arith) e in
        let some = (joined_span s h).some in
        let m : span_width small + wider ≡ span_width large = omega arith in
        let n : capped (capped ((span_width small + wider) + 1) * small.count) ≡ span_size large = λ z. capped (capped (m z + 1) * c z) in
        omega arith

    -- ---- all windows in one

    one_hit : (leaf : Leaf) → large.count ≡ 1 → Hit leaf large → (large.first.lo ≤ leaf.offset) × (leaf.offset ≤ large.first.hi)
    one_hit leaf c q =
        let z : q.number ≡ 0 = (let b = q.below in omega arith) in
        let y : q.number * large.stride ≡ 0 = ap (λ t. t * large.stride) z ∙ (omega arith) in
        let a = q.from in let b = q.to in (omega arith, omega arith)

    -- behind all leaves there is an offset of none
    far_stray : large.count ≡ 1 → 2 ^ 31 ≤ large.first.hi → reached_count leaves class large < span_size large
    unfolding reached_count
    far_stray c far =
        let f = count_or (λ leaf. is_reached leaf class large) (begins class large.first.lo (2 ^ 30 + 1)) (λ leaf. false)
        (λ leaf p e. let r = reached_hit leaf p u k e in let o = one_hit leaf c r.1 in let near = p.near in or_left _ false (begins_from class large.first.lo (2 ^ 30 + 1) leaf r.0 o.0 (omega arith))) from leaves ones in
        let g = count_begins class large.first.lo (2 ^ 30 + 1) from leaves ones in
        let i = count_none leaves in
        let some = (joined_span u k).some in
        let j : capped (span_width large + 1) * large.count ≡ capped (span_width large + 1) = ap (λ z. capped (span_width large + 1) * z) c ∙ (omega arith) in
        omega arith

    -- the offsets between two windows
    abbrev gap : ℕ → Leaf → Bool
    gap number leaf = begins class ((small.first.hi + 1) + number * small.stride) (small.first.lo + (number + 1) * small.stride) leaf

    abbrev room : ℕ
    room = small.stride - (span_width small + 1)

    gap_few : (number : ℕ) → count_by (gap number) leaves ≤ room
    gap_few number =
        let a = count_begins class ((small.first.hi + 1) + number * small.stride) (small.first.lo + (number + 1) * small.stride) from leaves ones in
        let e : (number + 1) * small.stride ≡ number * small.stride + small.stride = grind arith in
        let some = (joined_span s h).some in
        omega arith

    -- up to the end of a window an offset is one of a window or between two of them
    up_to : (leaf : Leaf) → IsOne leaf → same_class leaf.class class ≡ true → small.first.lo ≤ leaf.offset → (number : ℕ) → number < small.count → leaf.offset ≤ small.first.hi + number * small.stride → (is_reached leaf class small || any_below (λ n. gap n leaf) number) ≡ true
    up_to leaf p e lo zero l hi = let x : 0 * small.stride ≡ 0 = omega arith in or_left (is_reached leaf class small) _ (hit_reached leaf p s h e (record { number = 0; below = l; from = omega arith; to = hi }))
    up_to leaf p e lo (suc number) l hi = elim (cases_lt (small.first.hi + number * small.stride) leaf.offset) [
      | inr f ↦ more_gaps (up_to leaf p e lo number (omega arith) f)
      | inl f ↦ (let x : suc number * small.stride ≡ (number + 1) * small.stride = grind arith in
          elim (cases_lt leaf.offset (small.first.lo + (number + 1) * small.stride)) [
            | inl g ↦ or_right (is_reached leaf class small) _ (or_right (any_below (λ n. gap n leaf) number) (gap number leaf) (begins_from class ((small.first.hi + 1) + number * small.stride) (small.first.lo + (number + 1) * small.stride) leaf e (omega arith) g))
            | inr g ↦ or_left (is_reached leaf class small) _ (hit_reached leaf p s h e (record { number = suc number; below = l; from = omega arith; to = hi }))
          ])
    ]
      where
        more_gaps : (is_reached leaf class small || any_below (λ n. gap n leaf) number) ≡ true → (is_reached leaf class small || any_below (λ n. gap n leaf) (suc number)) ≡ true
        more_gaps z = elim (or_cases (is_reached leaf class small) (any_below (λ n. gap n leaf) number) z) [
          | inl y ↦ or_left (is_reached leaf class small) _ y
          | inr y ↦ or_right (is_reached leaf class small) _ (or_left (any_below (λ n. gap n leaf) number) (gap number leaf) y)
        ]

    -- before all windows, or behind the last one
    abbrev around : Leaf → Bool
    around leaf = begins class large.first.lo small.first.lo leaf || begins class ((small.first.hi + 1) + (small.count - 1) * small.stride) (large.first.hi + 1) leaf

    one_leaf : large.count ≡ 1 → 0 < small.count → (leaf : Leaf) → IsOne leaf → is_reached leaf class large ≡ true → (is_reached leaf class small || (any_below (λ n. gap n leaf) (small.count - 1) || around leaf)) ≡ true
    one_leaf c some leaf p e =
        let r = reached_hit leaf p u k e in
        let o = one_hit leaf c r.1 in
        let last = (small.count - 1) * small.stride in
        elim (cases_lt leaf.offset small.first.lo) [
          | inl f ↦ or_right (is_reached leaf class small) _ (or_right _ (around leaf) (or_left _ _ (begins_from class large.first.lo small.first.lo leaf r.0 o.0 f)))
          | inr f ↦ elim (cases_lt (small.first.hi + (small.count - 1) * small.stride) leaf.offset) [
            | inl g ↦ or_right (is_reached leaf class small) _ (or_right _ (around leaf) (or_right _ _ (begins_from class ((small.first.hi + 1) + (small.count - 1) * small.stride) (large.first.hi + 1) leaf r.0 (omega arith) (let b = o.1 in omega arith))))
            | inr g ↦ elim (or_cases (is_reached leaf class small) (any_below (λ n. gap n leaf) (small.count - 1)) (up_to leaf p r.0 f (small.count - 1) (omega arith) g)) [
              | inl y ↦ or_left (is_reached leaf class small) _ y
              | inr y ↦ or_right (is_reached leaf class small) _ (or_left _ (around leaf) y)
            ]
          ]
        ]

    around_few : count_by around leaves ≤ (small.first.lo - large.first.lo) + (large.first.hi - (small.first.hi + (small.count - 1) * small.stride))
    around_few =
        let a = count_or around (begins class large.first.lo small.first.lo) (begins class ((small.first.hi + 1) + (small.count - 1) * small.stride) (large.first.hi + 1)) (λ leaf p e. e) from leaves ones in
        let b = count_begins class large.first.lo small.first.lo from leaves ones in
        let c = count_begins class ((small.first.hi + 1) + (small.count - 1) * small.stride) (large.first.hi + 1) from leaves ones in
        omega arith

    near_stray : large.count ≡ 1 → large.first.lo ≤ small.first.lo → span_end small ≤ large.first.hi → large.first.hi < 2 ^ 31 → reached_count leaves class small < span_size small → reached_count leaves class large < span_size large
    unfolding reached_count
    near_stray c a b near e = by_count small.count refl
      where
        sizes : (count : ℕ) → small.count ≡ suc count → reached_count leaves class large < span_size large
        sizes count q =
            let some : 0 < small.count = omega arith in
            let f = count_or (λ leaf. is_reached leaf class large) (λ leaf. is_reached leaf class small) (λ leaf. any_below (λ n. gap n leaf) (small.count - 1) || around leaf) (one_leaf c some) from leaves ones in
            let g = count_or (λ leaf. any_below (λ n. gap n leaf) (small.count - 1) || around leaf) (λ leaf. any_below (λ n. gap n leaf) (small.count - 1)) around (λ leaf p z. z) from leaves ones in
            let i = count_any gap room (small.count - 1) from leaves ones (λ n l. gap_few n) in
            let j = around_few in
            let less = (joined_span s h).some in
            let w : span_width small + 1 ≤ small.stride ⊎ (small.count ≡ 1) = elim (joined_split s some) [ inl z ↦ inr z | inr z ↦ inl (omega arith) ] in
            let x : small.count - 1 ≡ count = omega arith in
            let last : (small.count - 1) * small.stride ≡ count * small.stride = ap (λ z. z * small.stride) x in
            let gaps : (small.count - 1) * room ≡ count * room = ap (λ z. z * room) x in
            let size : capped (span_width small + 1) * small.count ≤ (span_width small + 1) + count * (span_width small + 1) = bounded count q in
            let l : capped (span_width large + 1) * large.count ≡ capped (span_width large + 1) = ap (λ z. capped (span_width large + 1) * z) c ∙ (omega arith) in
            elim (w) [
              | inl y ↦ (let t : count * small.stride ≡ count * room + count * (span_width small + 1) = split count y in omega arith)
              | inr y ↦ (let z : count ≡ 0 = omega arith in
                  let t : count * small.stride ≡ 0 = ap (λ n. n * small.stride) z ∙ (omega arith) in
                  let v : count * room ≡ 0 = ap (λ n. n * room) z ∙ (omega arith) in
                  let r : count * (span_width small + 1) ≡ 0 = ap (λ n. n * (span_width small + 1)) z ∙ (omega arith) in omega arith)
            ]
          where
            bounded : (count : ℕ) → small.count ≡ suc count → capped (span_width small + 1) * small.count ≤ (span_width small + 1) + count * (span_width small + 1)
            bounded count q =
                let t : capped (span_width small + 1) * small.count ≡ suc count * capped (span_width small + 1) = ap (λ z. capped (span_width small + 1) * z) q ∙ (grind arith) in
                let v = mul-le (suc count) (capped (span_width small + 1)) (suc count) (span_width small + 1) (omega arith) (omega arith) in
                let r : suc count * (span_width small + 1) ≡ (span_width small + 1) + count * (span_width small + 1) = grind arith in
                omega arith

            split : (count : ℕ) → span_width small + 1 ≤ small.stride → count * small.stride ≡ count * room + count * (span_width small + 1)
            split count y = let z : small.stride ≡ room + (span_width small + 1) = omega arith in ap (λ n. count * n) z ∙ (grind arith)

        by_count : (count : ℕ) → small.count ≡ count → reached_count leaves class large < span_size large
        by_count zero q = absurd (let t : capped (span_width small + 1) * small.count ≡ 0 = ap (λ z. capped (span_width small + 1) * z) q ∙ (omega arith) in omega arith)
        by_count (suc count) q = sizes count q

    below_stray : SpanBelow small large → reached_count leaves class small < span_size small → reached_count leaves class large < span_size large
    below_stray (same a b d c) e = same_stray a b d c e
    below_stray (one c a b) e = elim (cases_lt large.first.hi (2 ^ 31)) [
      | inl near ↦ near_stray c a b near e
      | inr far ↦ far_stray c far
    ]

pub stray_more : (class : Class) (from : ℕ) (leaves : List Leaf) → AreOnes from leaves → (s u : Span) → SpanWithin s u → span_has_stray leaves class s ≡ true → span_has_stray leaves class u ≡ true
unfolding span_has_stray
stray_more class from leaves ones s u i e =
    let h = small_span s u i in
    let k = large_span s u i in
    lt-ltb (reached_count leaves class (span_joined u)) (span_size (span_joined u))
    (below_stray class s u h k from leaves ones (joined_below s u h k (below_of s u i)) (ltb-true (reached_count leaves class (span_joined s)) (span_size (span_joined s)) e))
