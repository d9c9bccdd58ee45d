-- Spans with the same bounds, and the interval between two numbers.
use Rattle.std.specs.Prelude.{◌≡◌, ℤ, Bool, true, false, T, ◌≤ℤ◌, ◌<ℤ◌, int_le, Option, Some, None, refl, ◌⊎◌}
use Rattle.std.proofs.Common.{arith, ap, ap₂, ◌∙◌, sym, subst, inl, inr}
use Rattle.std.proofs.lemmas.Int.{ints, by_lt_z}
use mathlib.Core.HLevel.{Σ_prop_path}
use lib.Dec.{T_prop}
use lib.Signed.{le_z_yes}
use Rattle.interval_domain.specs.declared.intervals.spans.Span.{Span}
use Rattle.interval_domain.specs.declared.intervals.intervals.Interval.{Interval}
use Rattle.interval_domain.specs.declared.intervals.intervals.Interval.TheVariants.{Bottom, Of}

order_prop : (a b : ℤ) → IsProp (a ≤ℤ b)
order_prop a b = hlevel T_prop

pub same_spans : (s t : Span) → s.lo ≡ t.lo → s.hi ≡ t.hi → s ≡ t
same_spans s t e f =
    let p : ◌≡◌ {A = (b : ℤ × ℤ) × (b.0 ≤ℤ b.1)} ((s.lo, s.hi), s.ordered) ((t.lo, t.hi), t.ordered) = Σ_prop_path (λ b. order_prop b.0 b.1) (λ i. (e i, f i)) in
    λ i. record { lo = (p i).0.0; hi = (p i).0.1; ordered = (p i).1 }

abbrev pub made : (a b : ℤ) (o : Bool) → (T o → a ≤ℤ b) → Interval
made a b true f = Of (record { lo = a; hi = b; ordered = f tt })
made a b false f = Bottom

-- the numbers from a to b, of which there may be none
unfoldable pub between_or_empty : ℤ → ℤ → Interval
between_or_empty a b = made a b (int_le a b) (λ t. le_z_yes t)

-- the least and the greatest number
abbrev pub interval_bounds : Interval → Option (ℤ × ℤ)
interval_bounds Bottom = None
interval_bounds (Of s) = Some (s.lo, s.hi)

-- the numbers of an interval
abbrev pub Stands : Interval → ℤ → Type 0
Stands Bottom n = ⊥
Stands (Of s) n = (s.lo ≤ℤ n) × (n ≤ℤ s.hi)

made_some : (a b : ℤ) (o : Bool) (f : T o → a ≤ℤ b) (p : a ≤ℤ b) → int_le a b ≡ o → made a b o f ≡ Of (record { lo = a; hi = b; ordered = p })
made_some a b true f p e = ap Of (same_spans (record { lo = a; hi = b; ordered = f tt }) (record { lo = a; hi = b; ordered = p }) refl refl)
made_some a b false f p e = grind (arith, ints)

made_none : (a b : ℤ) (o : Bool) (f : T o → a ≤ℤ b) → b <ℤ a → int_le a b ≡ o → made a b o f ≡ Bottom
made_none a b true f p e = grind (arith, ints)
made_none a b false f p e = refl

pub between_some : (a b : ℤ) (p : a ≤ℤ b) → between_or_empty a b ≡ Of (record { lo = a; hi = b; ordered = p })
unfolding between_or_empty
between_some a b p = made_some a b (int_le a b) _ p refl

pub between_none : (a b : ℤ) → b <ℤ a → between_or_empty a b ≡ Bottom
unfolding between_or_empty
between_none a b p = made_none a b (int_le a b) _ p refl

-- a span is the interval between its bounds
pub between_own : (s : Span) → between_or_empty s.lo s.hi ≡ Of s
between_own s = between_some s.lo s.hi s.ordered

cases : (a b : ℤ) → (a ≤ℤ b) ⊎ (b <ℤ a)
cases a b = by_lt_z b a (λ q. inr q) (λ p. inl p)

-- what holds of the interval between two numbers
pub by_between : (P : Interval → Type 0) (a b : ℤ) → ((p : a ≤ℤ b) → P (Of (record { lo = a; hi = b; ordered = p }))) → (b <ℤ a → P Bottom) → P (between_or_empty a b)
by_between P a b f g = elim (cases a b) [ inl p ↦ subst P (sym (between_some a b p)) (f p) | inr q ↦ subst P (sym (between_none a b q)) (g q) ]

-- an interval by its bounds
pub of_is : (s : Span) (a b : ℤ) → s.lo ≡ a → s.hi ≡ b → Of s ≡ between_or_empty a b
of_is s a b e f = sym (between_own s) ∙ ap₂ between_or_empty e f
