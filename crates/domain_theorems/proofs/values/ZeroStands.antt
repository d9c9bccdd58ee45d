-- First zeros behind writes, and scans, stand for what comes of each first zero.
use Rattle.std.specs.Prelude.{◌≡◌, ℤ, pos, ◌+ℤ◌, ◌-ℤ◌, ◌≤ℤ◌, ◌<ℤ◌, Bool, true, false, cond, not, ◌&&◌, ◌||◌, int_le, int_lt, Some, None, refl}
use Rattle.std.specs.Int.{int_min}
use Rattle.std.specs.Ordering.{int_eq}
use Rattle.std.proofs.Common.{arith, sym, subst, ◌∙◌, inl, inr}
use Rattle.std.proofs.lemmas.Int.{ints, clamps, by_lt_z}
use Rattle.std.proofs.lemmas.Bool.{and_parts, cond_both, cases_Bool}
use Rattle.std.proofs.lemmas.Bool.Decides.{Decides-int_eq}
use Rattle.cc_base.specs.Lattices.{LatticeOf, OrderLaws}
use Rattle.cc_base.specs.NumberRanges.{Range, range_difference}
use Rattle.cc_base.specs.IntegerDomains.{IntegersOf, BoundLaws, IsNear, of_range}
use Rattle.cc_base.specs.Truths.{can_hold, can_fail}
use Rattle.cc_base.specs.declared.integer_operators.Tri.{Tri}
use Rattle.cc_base.specs.declared.integer_operators.Tri.TheVariants.{No, Yes, Both, Never}
use Rattle.value_domain.specs.Strings.FirstZeros.{the_end}
use Rattle.value_domain.specs.Strings.ZeroTables.{must_be_zero, cannot_be_zero, is_start, is_before, ends_text, ends_text_behind, in_both, in_three, is_known_at, is_known, lengths, zero_written, other_written, put_at, scanned}
use Rattle.value_domain.specs.declared.strings.first_zeros.FirstZero.{FirstZero}
use Rattle.domain_theorems.specs.Values.ZeroLaws.{IsCount}
use Rattle.domain_theorems.specs.Values.ZeroMeaning.{WroteZero, WroteOther, WroteText, IsString, ZeroMeaning}
use Rattle.domain_theorems.proofs.values.Ranges.{le_true}
use Rattle.domain_theorems.proofs.values.Zeros.{AreCounts, same_int, start_of, counts_of}
use Rattle.domain_theorems.proofs.values.Numbers.{RangeHas, difference_has, met_has, bounds_have, of_range_stands}

-- no number is behind the end
abbrev EndsNear : Range → Type 0
EndsNear None = Unit {0}
EndsNear (Some f) = f.1 ≤ℤ the_end

ends_near : (r : Range) → IsNear r → EndsNear r
ends_near None h = tt
ends_near (Some f) h = h.1

lt_true : (a b : ℤ) → int_lt a b ≡ true → a <ℤ b
lt_true a b h = grind (arith, ints)

-- an upper bound that is not the end is below it
not_end : (z : ℤ) → z ≤ℤ the_end → int_eq z the_end ≡ false → z <ℤ the_end
not_end z h e = by_lt_z z the_end (λ l. l) (λ (g : the_end ≤ℤ z). absurd (let t = (Decides-int_eq z the_end).1 (same_int z the_end h g) in let u : true ≡ false = sym t ∙ e in cc))

not_false : (b : Bool) → not b ≡ false → b ≡ true
not_false true h = refl
not_false false h = cc

not_true : (b : Bool) → not b ≡ true → b ≡ false
not_true true h = cc
not_true false h = refl

-- ---- a zero was written

zero_lies : (f o : ℤ × ℤ) (a k c : ℤ) → RangeHas (Some f) a → RangeHas (Some o) k → k ≤ℤ the_end → a ≤ℤ the_end → WroteZero a k c → (int_min f.0 o.0 ≤ℤ c) × (c ≤ℤ the_end)
zero_lies f o a k c p q h j w =
    let p0 = p.0 in
    let q0 = q.0 in
    by_lt_z a the_end
    (λ l. let e = w.there l in (omega (arith, ints, clamps), omega (arith, ints, clamps)))
    (λ g. elim (w.none (same_int a the_end j g)) [ inl e ↦ (omega (arith, ints, clamps), omega (arith, ints)) | inr e ↦ (omega (arith, ints, clamps), omega (arith, ints)) ])

must_has : (f o : ℤ × ℤ) (a k c : ℤ) → EndsNear (Some f) → AreCounts (Some o) → RangeHas (Some f) a → RangeHas (Some o) k → WroteZero a k c → RangeHas (Some (must_be_zero f o)) c
must_has f o a k c x y p q w =
    let x2 = x in
    let y0 = y.0 in
    let y2 = y.2 in
    let p0 = p.0 in
    let p1 = p.1 in
    let q0 = q.0 in
    let q1 = q.1 in
    let lies = zero_lies f o a k c p q (omega (arith, ints)) (omega (arith, ints)) w in
    cond_both (not (int_eq f.1 the_end)) (int_min f.0 o.0, int_min f.1 o.1) _ (λ r. RangeHas (Some r) c)
    (λ e. let m = not_end f.1 x2 (not_true (int_eq f.1 the_end) e) in let g = w.there (omega (arith, ints)) in (omega (arith, ints, clamps), omega (arith, ints, clamps)))
    (λ e. cond_both (int_eq o.0 (pos 0) && int_eq o.1 (pos 0)) (int_min f.0 o.0, pos 0) (int_min f.0 o.0, the_end) (λ r. RangeHas (Some r) c)
    (λ d. let s = start_of o d in let s1 = s.1 in let z : k ≡ pos 0 = same_int k (pos 0) (omega (arith, ints)) (omega (arith, ints)) in
    (lies.0, by_lt_z a the_end (λ l. let g = w.there l in omega (arith, ints, clamps)) (λ g. let i = w.start (same_int a the_end (omega (arith, ints)) g) z in omega (arith, ints))))
    (λ d. lies))

-- ---- another char was written

cannot_has : (f o : ℤ × ℤ) (a k c : ℤ) → EndsNear (Some f) → AreCounts (Some o) → RangeHas (Some f) a → RangeHas (Some o) k → WroteOther a k c → RangeHas (Some (cannot_be_zero f o)) c
cannot_has f o a k c x y p q w =
    let x2 = x in
    let p0 = p.0 in
    let p1 = p.1 in
    let q0 = q.0 in
    let q1 = q.1 in
    let w4 = w.within in
    let at : a ≡ k → a ≤ℤ c = w.gone in
    let rest : a <ℤ the_end → a ≤ℤ c = λ l. by_lt_z a k (λ (u : a <ℤ k). let e = w.kept l (λ (d : a ≡ k). omega (arith, ints)) in omega (arith, ints))
    (λ (u : k ≤ℤ a). by_lt_z k a (λ (v : k <ℤ a). let e = w.kept l (λ (d : a ≡ k). omega (arith, ints)) in omega (arith, ints)) (λ (v : a ≤ℤ k). at (same_int a k v u))) in
    cond_both (int_eq f.1 the_end) (int_min f.0 (o.0 +ℤ pos 1), the_end) _ (λ r. RangeHas (Some r) c)
    (λ e. (by_lt_z a the_end (λ l. let g = rest l in omega (arith, ints, clamps)) (λ g. let i = w.shown (same_int a the_end (omega (arith, ints)) g) in omega (arith, ints, clamps)), w4))
    (λ e. let m = not_end f.1 x2 e in let l : a <ℤ the_end = omega (arith, ints) in let g = rest l in
    cond_both (int_lt o.1 f.0 || int_lt f.1 o.0) f (f.0, the_end) (λ r. RangeHas (Some r) c)
    (λ d. let away : a ≡ k → ⊥ = apart f o a k p q d in let i = w.kept l away in (omega (arith, ints), omega (arith, ints)))
    (λ d. (omega (arith, ints), w4)))
  where
    by_or : (u v : Bool) → (u || v) ≡ true → (u ≡ false) → v ≡ true
    by_or true v h e = cc
    by_or false v h e = h

    apart : (f o : ℤ × ℤ) (a k : ℤ) → RangeHas (Some f) a → RangeHas (Some o) k → (int_lt o.1 f.0 || int_lt f.1 o.0) ≡ true → a ≡ k → ⊥
    apart f o a k p q d e =
        let p0 = p.0 in
        let p1 = p.1 in
        let q0 = q.0 in
        let q1 = q.1 in
        elim (cases_Bool (int_lt o.1 f.0)) [
          | inl h ↦ (let m = lt_true o.1 f.0 h in omega (arith, ints))
          | inr h ↦ (let m = lt_true f.1 o.0 (by_or (int_lt o.1 f.0) (int_lt f.1 o.0) d h) in omega (arith, ints))
        ]

-- ---- a text was written

text_lies : (f o t : ℤ × ℤ) (a k j c : ℤ) → RangeHas (Some f) a → RangeHas (Some o) k → pos 0 ≤ℤ j → a ≤ℤ the_end → k ≤ℤ the_end → WroteText a k j c → int_min f.0 o.0 ≤ℤ c
text_lies f o t a k j c p q n h m w =
    let p0 = p.0 in
    let q0 = q.0 in
    by_lt_z a k (λ l. let e = w.before l in omega (arith, ints, clamps))
    (λ g. by_lt_z a the_end (λ l. let e = w.behind g l in omega (arith, ints, clamps))
    (λ i. elim (w.none (same_int a the_end h i)) [ inl e ↦ omega (arith, ints, clamps) | inr e ↦ omega (arith, ints, clamps) ]))

text_has : (f o t : ℤ × ℤ) (a k j c : ℤ) → EndsNear (Some f) → AreCounts (Some o) → AreCounts (Some t) → RangeHas (Some f) a → RangeHas (Some o) k → RangeHas (Some t) j → WroteText a k j c → RangeHas (Some (ends_text f o t)) c
text_has f o t a k j c x y z p q r w =
    let x2 = x in
    let y0 = y.0 in
    let y2 = y.2 in
    let z0 = z.0 in
    let p0 = p.0 in
    let p1 = p.1 in
    let q0 = q.0 in
    let q1 = q.1 in
    let r0 = r.0 in
    let r1 = r.1 in
    let w5 = w.within in
    let lies = text_lies f o t a k j c p q (omega (arith, ints)) (omega (arith, ints)) (omega (arith, ints)) w in
    cond_both (is_start o) (int_min t.0 the_end, int_min t.1 the_end) (ends_text_behind f o t) (λ s. RangeHas (Some s) c)
    (λ e. let s1 = (start_of o e).1 in let i = w.start (same_int k (pos 0) (omega (arith, ints)) (omega (arith, ints))) in (omega (arith, ints, clamps), omega (arith, ints, clamps)))
    (λ e. cond_both (int_eq o.0 o.1 && is_before f o) (int_min (o.0 +ℤ t.0) the_end, int_min (o.1 +ℤ t.1) the_end) (int_min f.0 o.0, the_end) (λ s. RangeHas (Some s) c)
    (λ d. let u = and_parts (int_eq o.0 o.1) (is_before f o) d in
    let v = and_parts (int_le o.1 f.0) (not (int_eq f.1 the_end)) u.1 in
    let m = le_true o.1 f.0 v.0 in
    let l = not_end f.1 x2 (not_true (int_eq f.1 the_end) v.1) in
    let i = w.behind (omega (arith, ints)) (omega (arith, ints)) in
    (omega (arith, ints, clamps), omega (arith, ints, clamps)))
    (λ d. (lies, w5)))

-- ---- a scan

not_part : (part : Bool) (a b : ℤ) → (not part || int_lt a b) ≡ true → part ≡ true → a <ℤ b
not_part true a b h e = lt_true a b h
not_part false a b h e = cc

found_at : (part : Bool) (f o r : ℤ × ℤ) (a k m : ℤ) → f.1 ≤ℤ the_end → RangeHas (Some f) a → RangeHas (Some o) k → RangeHas (Some r) m → is_known_at part f o r ≡ true → IsString part a k m
found_at part f o r a k m x p q s h =
    let p0 = p.0 in
    let p1 = p.1 in
    let q0 = q.0 in
    let q1 = q.1 in
    let s0 = s.0 in
    let u = and_parts (is_before f o) (not part || int_lt (f.1 -ℤ o.0) r.0) h in
    let v = and_parts (int_le o.1 f.0) (not (int_eq f.1 the_end)) u.0 in
    let l = le_true o.1 f.0 v.0 in
    let g = not_end f.1 x (not_true (int_eq f.1 the_end) v.1) in
    record {
      ends = omega (arith, ints);
      there = omega (arith, ints);
      inside = λ e. let i = not_part part (f.1 -ℤ o.0) r.0 u.1 e in omega (arith, ints);
    }

known_has : (part : Bool) (x y z : Range) (a k m : ℤ) → EndsNear x → RangeHas x a → RangeHas y k → RangeHas z m → is_known part x y z ≡ true → IsString part a k m
known_has part None y z a k m c p q s h = absurd p
known_has part (Some f) None z a k m c p q s h = absurd q
known_has part (Some f) (Some o) None a k m c p q s h = absurd s
known_has part (Some f) (Some o) (Some r) a k m c p q s h = found_at part f o r a k m c p q s h

lengths_have : (x y z : Range) (a k m : ℤ) → RangeHas x a → RangeHas y k → RangeHas z m → k ≤ℤ a → (a -ℤ k) <ℤ m → RangeHas (lengths x y z) (a -ℤ k)
lengths_have x y None a k m p q s h g = absurd s
lengths_have x y (Some r) a k m p q s h g = let s1 = s.1 in met_has (range_difference x y) (pos 0) (r.1 -ℤ pos 1) (a -ℤ k) (difference_has x y a k p q) (omega (arith, ints)) (omega (arith, ints))

-- ---- over a domain

module _ {I : Type 0} {l : LatticeOf I} {n : IntegersOf I} {stands : I → ℤ → Type 0} (o : OrderLaws l) (b : BoundLaws l n stands) where
  both_has : (g : (ℤ × ℤ) → (ℤ × ℤ) → (ℤ × ℤ)) (W : ℤ → ℤ → ℤ → Type 0) → ((f p : ℤ × ℤ) (a k c : ℤ) → EndsNear (Some f) → AreCounts (Some p) → RangeHas (Some f) a → RangeHas (Some p) k → W a k c → RangeHas (Some (g f p)) c)
      → (x y : Range) (a k c : ℤ) → EndsNear x → AreCounts y → RangeHas x a → RangeHas y k → W a k c → RangeHas (in_both g x y) c
  both_has g W h None y a k c u v p q w = absurd p
  both_has g W h (Some f) None a k c u v p q w = absurd q
  both_has g W h (Some f) (Some r) a k c u v p q w = h f r a k c u v p q w

  three_has : (x y z : Range) (a k j c : ℤ) → EndsNear x → AreCounts y → AreCounts z → RangeHas x a → RangeHas y k → RangeHas z j → WroteText a k j c → RangeHas (in_three ends_text x y z) c
  three_has None y z a k j c u v r p q s w = absurd p
  three_has (Some f) None z a k j c u v r p q s w = absurd q
  three_has (Some f) (Some m) None a k j c u v r p q s w = absurd s
  three_has (Some f) (Some m) (Some t) a k j c u v r p q s w = text_has f m t a k j c u v r p q s w

  module _ (f : FirstZero I) (at : I) (a k c : ℤ) (i : IsNear (n.bounds f.at)) (j : IsCount l n at) (p : stands f.at a) (q : stands at k) where
    zero_stands : WroteZero a k c → stands (zero_written l n f at).at c
    zero_stands w = of_range_stands b (in_both must_be_zero (n.bounds f.at) (n.bounds at)) c (both_has must_be_zero WroteZero must_has (n.bounds f.at) (n.bounds at) a k c (ends_near (n.bounds f.at) i) (counts_of o b at j) (bounds_have b f.at a p) (bounds_have b at k q) w)

    other_stands : WroteOther a k c → stands (other_written l n f at).at c
    other_stands w = of_range_stands b (in_both cannot_be_zero (n.bounds f.at) (n.bounds at)) c (both_has cannot_be_zero WroteOther cannot_has (n.bounds f.at) (n.bounds at) a k c (ends_near (n.bounds f.at) i) (counts_of o b at j) (bounds_have b f.at a p) (bounds_have b at k q) w)

    put_zero : (t : Tri) → can_hold t ≡ true → WroteZero a k c → stands (put_at l n f at t).at c
    put_zero Yes h w = zero_stands w
    put_zero No h w = cc
    put_zero Both h w = b.larger (zero_written l n f at).at (put_at l n f at Both).at c (o.join_left (zero_written l n f at).at (other_written l n f at).at) (zero_stands w)
    put_zero Never h w = cc

    put_other : (t : Tri) → can_fail t ≡ true → WroteOther a k c → stands (put_at l n f at t).at c
    put_other Yes h w = cc
    put_other No h w = other_stands w
    put_other Both h w = b.larger (other_written l n f at).at (put_at l n f at Both).at c (o.join_right (zero_written l n f at).at (other_written l n f at).at) (other_stands w)
    put_other Never h w = cc

  some_same : (x y : I) → Some x ≡ Some y → x ≡ y
  some_same x y e = cc

  -- a scan that answers knows its string
  scan_is : (known : Bool) (x y : I) → cond known (Some x) None ≡ Some y → (known ≡ true) × (x ≡ y)
  scan_is true x y e = (refl, some_same x y e)
  scan_is false x y e = cc

  module _ (f : FirstZero I) (at room x : I) (part : Bool) (a k r : ℤ) (i : IsNear (n.bounds f.at)) (p : stands f.at a) (q : stands at k) (s : stands room r) (e : scanned l n f at room part ≡ Some x) where
    scan_found : IsString part a k r
    scan_found =
        let g = scan_is (is_known part (n.bounds f.at) (n.bounds at) (n.bounds room)) (of_range l n (lengths (n.bounds f.at) (n.bounds at) (n.bounds room))) x e in
        known_has part (n.bounds f.at) (n.bounds at) (n.bounds room) a k r (ends_near (n.bounds f.at) i) (bounds_have b f.at a p) (bounds_have b at k q) (bounds_have b room r s) g.0

    scan_length : (a -ℤ k) <ℤ r → stands x (a -ℤ k)
    scan_length h =
        let g = scan_is (is_known part (n.bounds f.at) (n.bounds at) (n.bounds room)) (of_range l n (lengths (n.bounds f.at) (n.bounds at) (n.bounds room))) x e in
        subst (λ y. stands y (a -ℤ k)) g.1 (of_range_stands b (lengths (n.bounds f.at) (n.bounds at) (n.bounds room)) (a -ℤ k)
        (lengths_have (n.bounds f.at) (n.bounds at) (n.bounds room) a k r (bounds_have b f.at a p) (bounds_have b at k q) (bounds_have b room r s) scan_found.ends h))

  pub zero_meaning : ZeroMeaning l n stands
  zero_meaning = record {
    put_zero = λ f at t a k c i j p q h w. put_zero f at a k c i j p q t h w;
    put_other = λ f at t a k c i j p q h w. put_other f at a k c i j p q t h w;
    text = λ f at len a k t c i j m p q s w. of_range_stands b (in_three ends_text (n.bounds f.at) (n.bounds at) (n.bounds len)) c
        (three_has (n.bounds f.at) (n.bounds at) (n.bounds len) a k t c (ends_near (n.bounds f.at) i) (counts_of o b at j) (counts_of o b len m) (bounds_have b f.at a p) (bounds_have b at k q) (bounds_have b len t s) w);
    found = λ f at room x part a k r i p q s e. scan_found f at room x part a k r i p q s e;
    length = λ f at room x part a k r i p q s e h. scan_length f at room x part a k r i p q s e h;
  }
