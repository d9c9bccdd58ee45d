-- An operation whose extremes lie at the ends of both sides is bounded by its results at the four corners.
use Rattle.std.specs.Prelude.{◌≡◌, ℤ, true, ◌≤ℤ◌}
use Rattle.std.specs.Int.{int_min, int_max}
use Rattle.std.proofs.Common.{arith}
use Rattle.std.proofs.lemmas.Int.{ints, clamps}
use lib.Signed.{≤ℤ_refl}
use Rattle.interval_domain.specs.declared.intervals.spans.Span.{Span}
use Rattle.interval_domain.specs.declared.intervals.intervals.Interval.TheVariants.{Of}
use Rattle.interval_domain.specs.Intervals.Spans.{Stands}
use Rattle.interval_domain.specs.Intervals.IntervalOrder.{interval_leq}
use Rattle.interval_domain.specs.Intervals.Arithmetic.{least_of_four, greatest_of_four, corners}
use Rattle.interval_domain.specs.Intervals.Blocks.{Bounding, four_lie, least_of_four_is, greatest_of_four_is}
use Rattle.interval_domain.specs.Intervals.Best.{stands_between}
use Rattle.domain_theorems.specs.Intervals.Kit.{Within, within_stands, between_monotone}

-- z lies between x and y, whichever is the lesser
pub record LiesAmong (x y z : ℤ) : Type 0 where
  pub above : int_min x y ≤ℤ z
  pub below : z ≤ℤ int_max x y

pub among_rising : (x y z : ℤ) → x ≤ℤ z → z ≤ℤ y → LiesAmong x y z
among_rising x y z p q = record { above = omega (arith, ints, clamps); below = omega (arith, ints, clamps) }

pub among_falling : (x y z : ℤ) → y ≤ℤ z → z ≤ℤ x → LiesAmong x y z
among_falling x y z p q = record { above = omega (arith, ints, clamps); below = omega (arith, ints, clamps) }

-- with one side fixed, results lie between those at the ends of the other
pub record HasExtremesAtEnds (f : ℤ → ℤ → ℤ) (s t : Span) : Type 0 where
  pub left : (a b : ℤ) → Stands (Of s) a → Stands (Of t) b → LiesAmong (f s.lo b) (f s.hi b) (f a b)
  pub right : (a b : ℤ) → Stands (Of s) a → Stands (Of t) b → LiesAmong (f a t.lo) (f a t.hi) (f a b)

among_four : (a b c d x y z : ℤ) → LiesAmong a b x → LiesAmong c d y → LiesAmong x y z → Bounding (least_of_four a b c d) (greatest_of_four a b c d) z
among_four a b c d x y z p q r =
    let p' = p.above in
    let q' = q.above in
    let r' = r.above in
    let p'' = p.below in
    let q'' = q.below in
    let r'' = r.below in
    record { lower = omega (arith, ints, clamps); upper = omega (arith, ints, clamps) }

module _ (f : ℤ → ℤ → ℤ) where
  -- the least and the greatest result at the corners
  abbrev pub low : Span → Span → ℤ
  low s t = least_of_four (f s.lo t.lo) (f s.lo t.hi) (f s.hi t.lo) (f s.hi t.hi)

  abbrev pub high : Span → Span → ℤ
  high s t = greatest_of_four (f s.lo t.lo) (f s.lo t.hi) (f s.hi t.lo) (f s.hi t.hi)

  pub corners_bound : (s t : Span) (a b : ℤ) → HasExtremesAtEnds f s t → Stands (Of s) a → Stands (Of t) b → Bounding (low s t) (high s t) (f a b)
  corners_bound s t a b e p q = among_four _ _ _ _ (f s.lo b) (f s.hi b) (f a b)
      (e.right s.lo b (≤ℤ_refl s.lo, s.ordered) q)
      (e.right s.hi b (s.ordered, ≤ℤ_refl s.hi) q)
      (e.left a b p q)

  pub low_high : (s t : Span) → low s t ≤ℤ high s t
  low_high s t = let l = (four_lie (f s.lo t.lo) (f s.lo t.hi) (f s.hi t.lo) (f s.hi t.hi)).0 in let p = l.lower in let q = l.upper in omega (arith, ints)

  -- the corners of smaller sides lie between those of larger ones
  module _ (s t u v : Span) (e : HasExtremesAtEnds f u v) (w : Within s u) (x : Within t v) where
    corner : (a b : ℤ) → Stands (Of s) a → Stands (Of t) b → Bounding (low u v) (high u v) (f a b)
    corner a b p q = corners_bound u v a b e (within_stands s u a w p) (within_stands t v b x q)

    at_lo : (r : Span) → Stands (Of r) r.lo
    at_lo r = (≤ℤ_refl r.lo, r.ordered)

    at_hi : (r : Span) → Stands (Of r) r.hi
    at_hi r = (r.ordered, ≤ℤ_refl r.hi)

    pub low_falls : low u v ≤ℤ low s t
    low_falls = least_of_four_is (λ z. low u v ≤ℤ z) _ _ _ _
        (corner s.lo t.lo (at_lo s) (at_lo t)).lower (corner s.lo t.hi (at_lo s) (at_hi t)).lower
        (corner s.hi t.lo (at_hi s) (at_lo t)).lower (corner s.hi t.hi (at_hi s) (at_hi t)).lower

    pub high_rises : high s t ≤ℤ high u v
    high_rises = greatest_of_four_is (λ z. z ≤ℤ high u v) _ _ _ _
        (corner s.lo t.lo (at_lo s) (at_lo t)).upper (corner s.lo t.hi (at_lo s) (at_hi t)).upper
        (corner s.hi t.lo (at_hi s) (at_lo t)).upper (corner s.hi t.hi (at_hi s) (at_hi t)).upper

    pub corners_monotone : interval_leq (corners f s t) (corners f u v) ≡ true
    corners_monotone = between_monotone _ _ _ _ low_falls high_rises

  pub corners_stands : (s t : Span) (a b : ℤ) → HasExtremesAtEnds f s t → Stands (Of s) a → Stands (Of t) b → Stands (corners f s t) (f a b)
  corners_stands s t a b e p q = let c = corners_bound s t a b e p q in stands_between (low s t) (high s t) (f a b) c.lower c.upper
