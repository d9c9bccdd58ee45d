-- Trails of checks, the smaller call's beside the larger one's.
use Rattle.std.specs.Prelude.{◌≡◌, Bool, true, false, cond, refl}
use Rattle.domain_theorems.proofs.values.Flags.{Sets}
use Rattle.transfer_checks.specs.declared.violation_sets.Violations.{Violations}
use Rattle.transfer_checks.specs.ViolationSets.{violations_union}
use Rattle.transfer_library_plans.specs.declared.call_plans.Trail.{Trail}
use Rattle.transfer_library_plans.specs.Plans.{trail_of, checked}
use Rattle.transfer_monotone.specs.Values.ViolationsBelow.{ViolationsBelow}
use Rattle.transfer_monotone.proofs.values.ViolationOrder.{union_below, union_left}

-- the larger trail has all that the smaller one has, and goes on where that does
pub record TrailsBelow (s t : Trail) : Type 0 where
  pub checks : ViolationsBelow s.violations t.violations
  pub on : Sets s.goes_on t.goes_on

pub start_below : (u v : Violations) → ViolationsBelow u v → TrailsBelow (trail_of u) (trail_of v)
start_below u v h = record { checks = h; on = λ e. e }

abbrev after : Trail → Violations → Bool → Trail
after s u a = record { violations = violations_union s.violations u; goes_on = a }

pub checked_below : (s t : Trail) → TrailsBelow s t → (u v : Violations) → ViolationsBelow u v → (a c : Bool) → Sets a c → TrailsBelow (checked s u a) (checked t v c)
checked_below s t h u v i a c j = by_way s.goes_on t.goes_on refl h.on
  where
    by_way : (d e : Bool) → s.goes_on ≡ d → Sets d e → TrailsBelow (cond d (after s u a) s) (cond e (after t v c) t)
    by_way true true f g = record { checks = union_below s.violations u t.violations v h.checks i; on = j }
    by_way true false f g = absurd (let z : false ≡ true = g refl in cc)
    by_way false true f g = record { checks = union_left s.violations t.violations v h.checks; on = λ e. absurd (cc) }
    by_way false false f g = h

-- a trail goes on behind a check where it came to it, and that lets it
pub checked_on : (s : Trail) (u : Violations) (a : Bool) → (checked s u a).goes_on ≡ true → (s.goes_on ≡ true) × (a ≡ true)
checked_on s u a = by_way s.goes_on refl
  where
    by_way : (d : Bool) → s.goes_on ≡ d → (cond d (after s u a) s).goes_on ≡ true → (s.goes_on ≡ true) × (a ≡ true)
    by_way true f h = (f, h)
    by_way false f h = absurd (cc)
