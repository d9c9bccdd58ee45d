-- Spans whose windows are joined where none lies apart from the next one.
use Rattle.std.specs.Prelude.{◌≡◌, ℕ, ◌+◌, ◌-◌, ◌*◌, ◌^◌, ◌≤◌, ◌==◌, Bool, true, false, cond, nat_lt, refl}
use Rattle.std.proofs.Common.{arith, ap, ◌∙◌, inl, inr}
use Rattle.std.proofs.lemmas.Nat.{mul-le}
use Rattle.std.proofs.lemmas.Bool.{or_parts, or_cases, ltb-true, ltb-false, eqb-true, eqb-false, le-ltb, cond-false, cond-true}
use Rattle.store_cells.specs.RowPositions.{capped}
use Rattle.store_cells.specs.AccessWindows.{window_between, last_offset}
use Rattle.store_struct_leaves.specs.declared.copy_places.Span.{Span}
use Rattle.store_struct_leaves.specs.CopyPlaces.{span_width, is_apart, all_in_one, span_joined, span_raised}
use Rattle.store_monotone.specs.Structs.LargerSpans.{SpanWithin}

pub less_times : (k c s : ℕ) → k ≤ c → k * s ≤ c * s
less_times k c s h = mul-le k s c s h (omega arith)

-- where the last window ends, in 64 bits
abbrev pub span_end : Span → ℕ
span_end s = capped (s.first.hi + capped ((s.count - 1) * s.stride))

-- the second span has the windows of the first one, or all of them in its only one
pub data SpanBelow (s u : Span) : Type 0 where
  same : u.first.lo ≤ s.first.lo → s.first.hi ≤ u.first.hi → s.stride ≡ u.stride → s.count ≡ u.count → SpanBelow s u
  one : u.count ≡ 1 → u.first.lo ≤ s.first.lo → span_end s ≤ u.first.hi → SpanBelow s u

pub record IsSpan (s : Span) : Type 0 where
  pub some : s.first.lo ≤ s.first.hi
  pub near : s.first.hi ≤ last_offset
  pub short : s.count * s.stride ≤ 2 ^ 62

pub below_of : (s u : Span) → SpanWithin s u → SpanBelow s u
below_of s u i = same i.lo i.hi i.stride i.count

pub small_span : (s u : Span) → SpanWithin s u → IsSpan s
small_span s u i = record { some = i.some; near = (let a = i.hi in let b = i.near in omega arith); short = i.short }

pub large_span : (s u : Span) → SpanWithin s u → IsSpan u
large_span s u i =
    let e : s.count * s.stride ≡ u.count * u.stride = λ j. i.count j * i.stride j in
    record { some = (let a = i.lo in let b = i.some in let c = i.hi in omega arith); near = i.near; short = (let a = i.short in omega arith) }

-- ---- joined

one_span : (s : Span) → IsSpan s → IsSpan (all_in_one s)
one_span s h = let a = h.some in let b = h.near in record { some = omega arith; near = omega arith; short = omega arith }

pub joined_span : (s : Span) → IsSpan s → IsSpan (span_joined s)
joined_span s h = by_test (is_apart s)
  where
    by_test : (c : Bool) → IsSpan (cond c s (all_in_one s))
    by_test true = h
    by_test false = one_span s h

one_end : (s : Span) → IsSpan s → span_end (all_in_one s) ≤ span_end s
one_end s h = omega arith

-- where the larger span has its windows apart, so has the smaller one
apart_less : (s u : Span) → u.first.lo ≤ s.first.lo → s.first.hi ≤ u.first.hi → s.stride ≡ u.stride → s.count ≡ u.count → is_apart u ≡ true → is_apart s ≡ false → ⊥
apart_less s u a b d c f e =
    let p = or_parts (s.count == 0) (nat_lt (capped (span_width s + 1)) s.stride) e in
    let q = ltb-false (capped (span_width s + 1)) s.stride p.1 in
    let r = eqb-false s.count 0 p.0 in
    elim (or_cases (u.count == 0) (nat_lt (capped (span_width u + 1)) u.stride) f) [
      | inl x ↦ (let y = eqb-true u.count 0 x in r (c ∙ y))
      | inr x ↦ (let y = ltb-true (capped (span_width u + 1)) u.stride x in absurd (omega arith))
    ]

pub joined_below : (s u : Span) → IsSpan s → IsSpan u → SpanBelow s u → SpanBelow (span_joined s) (span_joined u)
joined_below s u h k (same a b d c) = by_tests (is_apart s) refl (is_apart u) refl
  where
    more : (s.count - 1) * s.stride ≡ (u.count - 1) * u.stride
    more = λ j. (c j - 1) * d j

    by_tests : (x : Bool) → is_apart s ≡ x → (y : Bool) → is_apart u ≡ y → SpanBelow (cond x s (all_in_one s)) (cond y u (all_in_one u))
    by_tests true e true f = same a b d c
    by_tests true e false f = one refl a (let m = more in omega arith)
    by_tests false e false f = same a (let m = more in omega arith) refl refl
    by_tests false e true f = absurd (apart_less s u a b d c f e)
joined_below s u h k (one c a b) = by_tests (is_apart s) (is_apart u)
  where
    last : (u.count - 1) * u.stride ≡ 0
    last = ap (λ n. (n - 1) * u.stride) c ∙ (omega arith)

    by_tests : (x y : Bool) → SpanBelow (cond x s (all_in_one s)) (cond y u (all_in_one u))
    by_tests true true = one c a b
    by_tests true false = one refl a (let l = last in omega arith)
    by_tests false true = one c a (omega arith)
    by_tests false false = one refl a (let l = last in omega arith)

-- ---- with bytes behind each offset

pub raised_below : (s u : Span) (bytes : ℕ) → SpanBelow s u → SpanBelow (span_raised s bytes) (span_raised u bytes)
raised_below s u bytes (same a b d c) = same a (omega arith) d c
raised_below s u bytes (one c a b) = one c a (omega arith)

pub raised_span : (s : Span) (bytes : ℕ) → IsSpan s → IsSpan (span_raised s bytes)
raised_span s bytes h = record { some = (let a = h.some in let b = h.near in omega arith); near = omega arith; short = h.short }

-- ---- joined once is joined

pub joined_twice : (s : Span) → span_joined (span_joined s) ≡ span_joined s
joined_twice s = by_test (is_apart s) refl
  where
    never : (w : ℕ) → nat_lt (capped (w + 1)) 1 ≡ false
    never w = le-ltb (capped (w + 1)) 1 (omega arith)

    end : capped (span_end s + capped (0 * 1)) ≡ span_end s
    end = omega arith

    by_test : (c : Bool) → is_apart s ≡ c → span_joined (cond c s (all_in_one s)) ≡ cond c s (all_in_one s)
    by_test true e = cond-true (is_apart s) s (all_in_one s) e
    by_test false e = cond-false (is_apart (all_in_one s)) (all_in_one s) (all_in_one (all_in_one s)) (never (span_width (all_in_one s)))
        ∙ (λ j. record { first = window_between s.first.lo (end j); stride = 1; count = 1 })
