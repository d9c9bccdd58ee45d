-- What a call will do: which rules it may violate, and its effect where it goes on.
use Rattle.std.specs.Prelude.{Bool, true, cond}
use Rattle.transfer_checks.specs.declared.violation_sets.Violations.{Violations}
use Rattle.transfer_checks.specs.ViolationSets.{no_violations, violations_union}
use Rattle.transfer_library_plans.specs.declared.call_plans.Effect.{Effect}
use Rattle.transfer_library_plans.specs.declared.call_plans.Effect.TheVariants.{Unreached}
use Rattle.transfer_library_plans.specs.declared.call_plans.Plan.{Plan}
use Rattle.transfer_library_plans.specs.declared.call_plans.Trail.{Trail}

-- no check so far; what is violated in any case
abbrev pub trail_of : Violations → Trail
trail_of violations = record { violations = violations; goes_on = true }

-- one check more, where the call comes to it
abbrev pub checked : Trail → Violations → Bool → Trail
checked trail violations goes_on = cond trail.goes_on (record { violations = violations_union trail.violations violations; goes_on = goes_on }) trail

module _ {I : Type 0} where
  -- the plan behind the checks
  abbrev pub planned : Trail → Effect I → Plan I
  planned trail effect = record { violations = trail.violations; effect = cond trail.goes_on effect Unreached }

  -- a plan that violates nothing
  abbrev pub harmless : Effect I → Plan I
  harmless effect = record { violations = no_violations; effect = effect }
