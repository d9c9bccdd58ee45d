-- Library calls: what they may violate, and the row after each, None where no run goes on.
use Rattle.std.specs.Prelude.{ℕ, Bool, true, false, Option, Some, None, List, [], ◌∷◌}
use Rattle.cc_base.specs.Lattices.{LatticeOf}
use Rattle.cc_base.specs.IntegerDomains.{IntegersOf}
use Rattle.c_layout.specs.declared.library_functions.LibFn.{LibFn}
use Rattle.cfg.specs.declared.programs.Flow.{Flow}
use Rattle.value_domain.specs.declared.values.row_cells.Cell.{Cell}
use Rattle.transfer_checks.specs.declared.violation_sets.Violations.{Violations}
use Rattle.transfer_library_plans.specs.Calls.{Call}
use Rattle.transfer_library_plans.specs.declared.call_plans.Plan.{Plan}
use Rattle.transfer_library_plans.specs.declared.call_plans.Effect.{Effect}
use Rattle.transfer_library_plans.specs.declared.call_plans.Effect.TheVariants.{Unreached, Result, Text, Fill, Copy, Allocate, Reallocate, Free}
use Rattle.transfer_library.specs.Planning.{plan_call}
use Rattle.transfer_library.specs.StringCalls.{plan_fgets}
use Rattle.transfer_library.specs.Effects.{apply}

abbrev pub call_of : Flow → List ℕ → Option ℕ → Call
call_of flow arguments wanted = record { flow = flow; arguments = arguments; wanted = wanted }

abbrev pub line_call : Flow → ℕ → ℕ → ℕ → Call
line_call flow line count stream = call_of flow (line ∷ (count ∷ (stream ∷ []))) None

module _ {I : Type 0} where
  abbrev pub planned : LatticeOf I → IntegersOf I → Flow → List (Cell I) → LibFn → List ℕ → Option ℕ → Plan I
  planned l n flow row function arguments wanted = plan_call l n function (call_of flow arguments wanted) row

  abbrev pub call_violations : LatticeOf I → IntegersOf I → Flow → List (Cell I) → LibFn → List ℕ → Option ℕ → Violations
  call_violations l n flow row function arguments wanted = (planned l n flow row function arguments wanted).violations

  unfoldable pub call_step : LatticeOf I → IntegersOf I → Flow → List (Cell I) → Option ℕ → LibFn → List ℕ → Option ℕ → Option ℕ → Option (List (Cell I))
  call_step l n flow row to function arguments newest wanted = apply l n flow to newest (planned l n flow row function arguments wanted).effect row

  -- ---- `fgets`

  abbrev pub planned_line : LatticeOf I → IntegersOf I → Flow → List (Cell I) → ℕ → ℕ → ℕ → Plan I
  planned_line l n flow row line count stream = plan_fgets l n (line_call flow line count stream) row

  abbrev pub line_violations : LatticeOf I → IntegersOf I → Flow → List (Cell I) → ℕ → ℕ → ℕ → Violations
  line_violations l n flow row line count stream = (planned_line l n flow row line count stream).violations

  abbrev pub goes_on : Effect I → Bool
  goes_on Unreached = false
  goes_on (Result v) = true
  goes_on (Text write v) = true
  goes_on (Fill write v) = true
  goes_on (Copy write v) = true
  goes_on (Allocate size zero) = true
  goes_on (Reallocate size old) = true
  goes_on (Free p) = true

  -- the call goes on behind its checks
  abbrev pub line_goes_on : LatticeOf I → IntegersOf I → Flow → List (Cell I) → ℕ → ℕ → ℕ → Bool
  line_goes_on l n flow row line count stream = goes_on (planned_line l n flow row line count stream).effect

  -- the line that is read
  unfoldable pub write_line : LatticeOf I → IntegersOf I → Flow → List (Cell I) → Option ℕ → ℕ → ℕ → ℕ → Option (List (Cell I))
  write_line l n flow row to line count stream = apply l n flow to None (planned_line l n flow row line count stream).effect row
