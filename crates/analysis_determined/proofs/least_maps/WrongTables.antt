-- Tables that exactness refuses: each is caught by a law of least maps, by values that show it.
use Rattle.std.specs.Prelude.{◌≡◌, ℤ, pos, negsuc, true, false, cond, is_none, is_some, List, [], ◌∷◌, refl}
use Rattle.std.proofs.Common.{inl}
use lib.Signed.{le_z_yes}
use Rattle.cc_base.specs.declared.diagnostics.Rule.TheVariants.{Nonnullcs}
use Rattle.interval_domain.specs.declared.intervals.spans.Span.{Span}
use Rattle.interval_domain.specs.declared.intervals.intervals.Interval.{Interval}
use Rattle.interval_domain.specs.declared.intervals.intervals.Interval.TheVariants.{Bottom, Of}
use Rattle.interval_domain.specs.Numbers.Nearest.{Has}
use Rattle.interval_domain.specs.Intervals.Spans.{interval_bounds}
use Rattle.interval_domain.specs.Intervals.IntervalOrder.{interval_leq}
use Rattle.transfer_checks.specs.declared.violation_sets.Violations.{Violations}
use Rattle.transfer_checks.specs.ViolationSets.{no_violations}
use Rattle.system_monotone.specs.ViolationsBelow.{ViolationsBelow}

abbrev one : Interval
one = Of (record { lo = pos 1; hi = pos 1; ordered = le_z_yes tt })

abbrev seven : Interval
seven = Of (record { lo = pos 7; hi = pos 7; ordered = le_z_yes tt })

-- ---- rounding every bound to the range of the type: 1 stays 1 where 1 is a number of the list

abbrev whole_type : Interval
whole_type = Of (record { lo = negsuc 127; hi = pos 127; ordered = le_z_yes tt })

abbrev type_rounded : List ℤ → Interval → Interval
type_rounded list Bottom = Bottom
type_rounded list (Of s) = whole_type

rounded_too_far : ((list : List ℤ) (s t : Span) → Has list t.lo → Has list t.hi → interval_leq (Of s) (Of t) ≡ true → interval_leq (type_rounded list (Of s)) (Of t) ≡ true) → ⊥
rounded_too_far h = let e : false ≡ true = h (pos 1 ∷ []) (record { lo = pos 1; hi = pos 1; ordered = le_z_yes tt }) (record { lo = pos 1; hi = pos 1; ordered = le_z_yes tt }) (inl refl) (inl refl) refl in cc

-- ---- a join that widens: 1 and 1 are 1

abbrev widened : Interval → Interval → Interval
widened x y = whole_type

no_least_join : ((x y z : Interval) → interval_leq x z ≡ true → interval_leq y z ≡ true → interval_leq (widened x y) z ≡ true) → ⊥
no_least_join h = let e : false ≡ true = h one one one refl refl in cc

-- ---- printf's strings by their number: where an argument has one it is no string, so more numbers violate less

abbrev numbered : Interval → Violations → Violations
numbered x found = cond (is_some (interval_bounds x)) no_violations found

numbers_hide : ((x y : Interval) (found : Violations) → interval_leq x y ≡ true → ViolationsBelow (numbered x found) (numbered y found)) → ⊥
numbers_hide h = let e : false ≡ true = h Bottom one (record no_violations { nonnullcs = true }) refl Nonnullcs refl in cc

-- ---- memset that goes on where nothing is written: what is kept is not below what more characters write

abbrev filled : Interval → Interval → Interval
filled character old = cond (is_none (interval_bounds character)) old character

kept_above : ((c d old : Interval) → interval_leq c d ≡ true → interval_leq (filled c old) (filled d old) ≡ true) → ⊥
kept_above h = let e : false ≡ true = h Bottom one seven refl in cc
