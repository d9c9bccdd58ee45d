-- The arguments of a call.
use Rattle.std.specs.Prelude.{ℕ, Bool, Option, Some, None, List, slice_get}
use Rattle.cc_base.specs.Lattices.{LatticeOf}
use Rattle.cc_base.specs.IntegerDomains.{IntegersOf}
use Rattle.cfg.specs.declared.programs.Flow.{Flow}
use Rattle.value_domain.specs.declared.values.values.Value.{Value}
use Rattle.value_domain.specs.declared.values.row_cells.Cell.{Cell}
use Rattle.value_domain.specs.Values.Values.{value_lattice}
use Rattle.store.specs.NearValues.{near_value}
use Rattle.transfer_checks.specs.declared.violation_sets.Violations.{Violations}
use Rattle.transfer_checks.specs.ViolationSets.{no_violations}
use Rattle.transfer_checks.specs.Temporaries.{temp_value}
use Rattle.transfer_library_plans.specs.Calls.{Call}

abbrev pub string_violations : Bool → Violations
string_violations unknown = record no_violations { nonnullcs = unknown }

abbrev pub room_violations : Bool → Violations
room_violations passes = record no_violations { libptr = passes }

abbrev pub literal_violations : Bool → Violations
literal_violations writes = record no_violations { strmod = writes }

module _ {I : Type 0} where
  abbrev pub value_of_argument : LatticeOf I → IntegersOf I → Flow → List (Cell I) → Option ℕ → Value I
  value_of_argument l n flow row None = near_value l n (value_lattice l).least
  value_of_argument l n flow row (Some temp) = temp_value l n flow row temp

  -- the value of an argument; the least value where there is none
  unfoldable pub argument_value : LatticeOf I → IntegersOf I → Call → List (Cell I) → ℕ → Value I
  argument_value l n call row at = value_of_argument l n call.flow row (slice_get call.arguments at)
