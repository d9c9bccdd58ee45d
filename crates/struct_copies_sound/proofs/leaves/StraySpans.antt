-- Where a span has an offset at which no leaf of a class stands, it has more offsets than the leaves that it reaches.
use Rattle.std.proofs.Common.{◌≡◌, ℕ, zero, suc, ◌+◌, ◌-◌, ◌*◌, ◌<◌, ◌≤◌, ◌^◌, Bool, true, false, cond, ◌&&◌, ◌||◌, Some, List, [], ◌∷◌, length, arith, subst, sym, refl, ap, ◌∙◌, inl, inr}
use Rattle.std.specs.Prelude.{slice_get, nat_le, nat_lt, ◌==◌, count_by}
use Rattle.std.proofs.lemmas.Bool.{cases_eq, cases_lt, and_parts, and_from, le-leb, lt-ltb, eqb-true, or_left, or_right, eq-eqb}
use Rattle.std.proofs.lemmas.Bool.Decides.{nat_tests}
use Rattle.std.proofs.lemmas.List.Sums.{sum_by-cons}
use Rattle.c_layout.specs.declared.leaf_lists.Class.{Class}
use Rattle.c_layout.specs.declared.leaf_lists.Leaf.{Leaf}
use Rattle.store_cells.specs.AccessWindows.{window_between}
use Rattle.store_cells.specs.ClassNumbers.{same_class}
use Rattle.store.specs.LeafSelection.{has_place_in}
use Rattle.store_cells.specs.RowPositions.{capped}
use Rattle.store_monotone.proofs.operations.PlacesOfLeaves.{place_of_test}
use Rattle.store_monotone.proofs.structs.JoinedSpans.{joined_twice}
use Rattle.store_sound.specs.Operations.Shapes.{at_offset}
use Rattle.store_sound.proofs.operations.Classes.{count_some, count_either}
use Rattle.struct_copies_sound.specs.Spans.SpanBytes.{IsInSpan, IsShortSpan}
use Rattle.struct_copies_sound.proofs.spans.SpanBytes.{joined_has}
use Rattle.store_struct_leaves.specs.CopyPlaces.{any_below, span_width, span_size, span_joined, one_place_meets, alike_meets, each_meets, several_meet, joined_meet, meets, is_reached, reached_count, span_has_stray}
use Rattle.store_struct_leaves.specs.declared.copy_places.Span.{Span}

-- ---- leaves of a class that begin among so many offsets

abbrev in_offsets : Class → ℕ → ℕ → Leaf → Bool
in_offsets class lo n leaf = same_class leaf.class class && (nat_le lo leaf.offset && nat_lt leaf.offset (lo + n))

next_offset : (c : Bool) (o lo n : ℕ) → (c && (nat_le lo o && nat_lt o (lo + suc n))) ≡ true → ((c && (o == lo + n)) || (c && (nat_le lo o && nat_lt o (lo + n)))) ≡ true
next_offset c o lo n h = grind (arith, nat_tests)

in_none : (c : Bool) (o lo : ℕ) → (c && (nat_le lo o && nat_lt o (lo + 0))) ≡ true → ⊥
in_none c o lo h = grind (arith, nat_tests)

count_never : {X : Type 0} (p : X → Bool) (xs : List X) (n : ℕ) → n ≡ count_by p xs → ((x : X) → p x ≡ true → ⊥) → n ≡ 0
count_never p xs zero e h = refl
count_never p xs (suc n) e h = let r = count_some p xs n (sym e) in absurd (h r.1 r.3)

module _ (leaves : List Leaf) (class : Class) (few : (x : ℕ) → count_by (at_offset class x) leaves ≤ 1) where
  most_in : (lo n : ℕ) → count_by (in_offsets class lo n) leaves ≤ n
  most_in lo zero = let e = count_never (in_offsets class lo 0) leaves _ refl (λ leaf. in_none (same_class leaf.class class) leaf.offset lo) in omega (arith, e)
  most_in lo (suc n) =
      let a = most_in lo n in
      let b = count_either (in_offsets class lo (suc n)) (at_offset class (lo + n)) (in_offsets class lo n) leaves (λ j leaf e. next_offset (same_class leaf.class class) leaf.offset lo n) in
      let c = few (lo + n) in
      omega (arith, a, b, c)

  fewer_in : (lo n z : ℕ) → lo ≤ z → z < lo + n → count_by (at_offset class z) leaves ≡ 0 → count_by (in_offsets class lo n) leaves < n
  fewer_in lo zero z h k e = absurd (omega (arith, h, k))
  fewer_in lo (suc n) z h k e =
      let b = count_either (in_offsets class lo (suc n)) (at_offset class (lo + n)) (in_offsets class lo n) leaves (λ j leaf e. next_offset (same_class leaf.class class) leaf.offset lo n) in
      elim (cases_eq z (lo + n)) [
        | inl f ↦ (let a = most_in lo n in let g : count_by (at_offset class (lo + n)) leaves ≡ 0 = subst (λ x. count_by (at_offset class x) leaves ≡ 0) f e in omega (arith, a, b, g))
        | inr f ↦ (let a = fewer_in lo n z h (omega (arith, k, f)) e in let c = few (lo + n) in omega (arith, a, b, c))
      ]

  -- ---- in each window of a span

  module _ (s : Span) where
    abbrev in_window : ℕ → Leaf → Bool
    in_window number leaf = in_offsets class (s.first.lo + number * s.stride) (span_width s + 1) leaf

    abbrev in_some : ℕ → Leaf → Bool
    in_some count leaf = any_below (λ number. in_window number leaf) count

    all_few : (count : ℕ) → count_by (in_some count) leaves ≤ count * (span_width s + 1)
    all_few zero = let e = count_never (in_some 0) leaves _ refl (λ leaf (f : false ≡ true). cc) in omega (arith, e)
    all_few (suc count) =
        let r = all_few count in
        let b = count_either (in_some (suc count)) (in_some count) (in_window count) leaves (λ j leaf e f. f) in
        let m = most_in (s.first.lo + count * s.stride) (span_width s + 1) in
        let w : suc count * (span_width s + 1) ≡ count * (span_width s + 1) + (span_width s + 1) = omega arith in
        omega (arith, r, b, m, w)

    all_fewer : (count number x : ℕ) → number < count → s.first.lo + number * s.stride ≤ x → x < (s.first.lo + number * s.stride) + (span_width s + 1) → count_by (at_offset class x) leaves ≡ 0 → count_by (in_some count) leaves < count * (span_width s + 1)
    all_fewer zero number x below from to none = absurd (omega (arith, below))
    all_fewer (suc count) number x below from to none =
        let b = count_either (in_some (suc count)) (in_some count) (in_window count) leaves (λ j leaf e f. f) in
        let w : suc count * (span_width s + 1) ≡ count * (span_width s + 1) + (span_width s + 1) = omega arith in
        elim (cases_eq number count) [
          | inl e ↦ (let r = all_few count in
              let times : number * s.stride ≡ count * s.stride = ap (λ z. z * s.stride) e in
              let m = fewer_in (s.first.lo + count * s.stride) (span_width s + 1) x (omega (arith, from, times)) (omega (arith, to, times)) none in
              omega (arith, r, b, m, w))
          | inr e ↦ (let r = all_fewer count number x (omega (arith, below, e)) from to none in
              let m = most_in (s.first.lo + count * s.stride) (span_width s + 1) in
              omega (arith, r, b, m, w))
        ]

-- ---- a leaf of one place that a span reaches

any_at : (p : ℕ → Bool) (k count : ℕ) → k < count → p k ≡ true → any_below p count ≡ true
any_at p k zero h e = absurd (omega (arith, h))
any_at p k (suc count) h e = elim (cases_lt k count) [
  | inl a ↦ or_left (any_below p count) (p count) (any_at p k count a e)
  | inr a ↦ or_right (any_below p count) (p count) (let f : k ≡ count = omega (arith, a, h) in subst (λ j. p j ≡ true) f e)
]

pub record IsHit (leaf : Leaf) (s : Span) : Type 0 where
  pub number : ℕ
  pub below : number < s.count
  pub from : s.first.lo + number * s.stride ≤ leaf.offset
  pub to : leaf.offset < (s.first.lo + number * s.stride) + (span_width s + 1)

pub hit_of : (leaf : Leaf) → leaf.count ≡ 1 → (s : Span) → joined_meet leaf s ≡ true → IsHit leaf s
unfolding joined_meet several_meet
hit_of leaf p s = by_test (s.count == 1) refl
  where
    by_one : (c : Bool) → c ≡ true → cond c (one_place_meets leaf s) (cond (leaf.stride == s.stride) (alike_meets leaf s) (each_meets leaf s)) ≡ true → IsHit leaf s
    by_one true d e =
        let q = place_of_test (record leaf { offset = s.first.lo; stride = s.stride; count = s.count }) (window_between (leaf.offset - span_width s) leaf.offset) e in
        let a = q.from in
        let b = q.to in
        record { number = q.turn; below = q.below; from = omega (arith, b); to = omega (arith, a) }
    by_one false d e = absurd (cc)

    by_test : (c : Bool) → (s.count == 1) ≡ c → cond c (has_place_in leaf s.first) (several_meet leaf s) ≡ true → IsHit leaf s
    by_test true d e =
        let q = place_of_test leaf s.first e in
        let one = eqb-true s.count 1 d in
        let below = q.below in
        let z : q.turn ≡ 0 = omega (arith, below, p) in
        let y : q.turn * leaf.stride ≡ 0 = ap (λ t. t * leaf.stride) z ∙ omega arith in
        let a = q.from in
        let b = q.to in
        let x : 0 * s.stride ≡ 0 = omega arith in
        record { number = 0; below = omega (arith, one); from = omega (arith, a, y, x); to = omega (arith, a, b, y, x) }
    by_test false d e = by_one (leaf.count == 1) (eq-eqb leaf.count 1 p) e

-- ---- strays

one_at_most : (b : Bool) → cond {A = ℕ} b 1 0 ≤ 1
one_at_most true = omega arith
one_at_most false = omega arith

count_all : {X : Type 0} (p : X → Bool) (xs : List X) → count_by p xs ≤ length xs
count_all p [] = omega arith
count_all p (x ∷ xs) =
    let a = sum_by-cons (λ y. cond {A = ℕ} (p y) 1 0) x xs in
    let r = count_all p xs in
    let b = one_at_most (p x) in
    omega (arith, a, r, b)

pub span_stray : (leaves : List Leaf) (class : Class) → ((x : ℕ) → count_by (at_offset class x) leaves ≤ 1) → ((j : ℕ) (leaf : Leaf) → slice_get leaves j ≡ Some leaf → leaf.count ≡ 1) → length leaves < 2 ^ 64 - 1
    → (s : Span) (x : ℕ) → IsShortSpan s → IsInSpan s x → x ≤ 2 ^ 63 → count_by (at_offset class x) leaves ≡ 0 → span_has_stray leaves class s ≡ true
unfolding span_has_stray reached_count is_reached meets
span_stray leaves class few single short s x h i near none =
    let t : Span = span_joined s in
    let k = joined_has s x h i near in
    let from = k.from in
    let to = k.to in
    let below = k.few in
    let f = all_fewer leaves class few t t.count k.turn x below from (omega (arith, from, to)) none in
    let g = count_either (λ leaf. is_reached leaf class t) (in_some leaves class few t t.count) (λ leaf. false) leaves
    (λ (j : ℕ) (leaf : Leaf) (e : slice_get leaves j ≡ Some leaf) (r : is_reached leaf class t ≡ true).
    let p = and_parts (same_class leaf.class class) (joined_meet leaf (span_joined t)) r in
    let hit = hit_of leaf (single j leaf e) t (subst (λ z. joined_meet leaf z ≡ true) (joined_twice s) p.1) in
    or_left (in_some leaves class few t t.count leaf) false
    (any_at (λ number. in_window leaves class few t number leaf) hit.number t.count hit.below
    (and_from (same_class leaf.class class) _ p.0 (and_from _ _ (le-leb _ _ hit.from) (lt-ltb _ _ hit.to))))) in
    let none_more = count_never (λ (leaf : Leaf). false) leaves _ refl (λ leaf (z : false ≡ true). cc) in
    let most = count_all (λ leaf. is_reached leaf class t) leaves in
    lt-ltb (count_by (λ leaf. is_reached leaf class t) leaves) (span_size t) (by_size (count_by (λ leaf. is_reached leaf class t) leaves) (span_width t) t.count (omega (arith, f, g, none_more)) (omega (arith, most, short)))
  where
    by_size : (reached width count : ℕ) → reached < count * (width + 1) → reached < 2 ^ 64 - 1 → reached < capped (capped (width + 1) * count)
    by_size reached width zero a b = absurd (let e : 0 * (width + 1) ≡ 0 = omega arith in omega (arith, a, e))
    by_size reached width (suc count) a b = elim (cases_lt (width + 1) (2 ^ 64)) [
      | inl e ↦ (let f : capped (width + 1) ≡ width + 1 = omega (arith, e) in
          let g : capped (width + 1) * suc count ≡ suc count * (width + 1) = ap (λ z. z * suc count) f ∙ omega arith in
          omega (arith, a, b, g))
      | inr e ↦ (let f : capped (width + 1) ≡ 2 ^ 64 - 1 = omega (arith, e) in
          let g : capped (width + 1) * suc count ≡ (2 ^ 64 - 1) * suc count = ap (λ z. z * suc count) f in
          omega (arith, b, g))
    ]
