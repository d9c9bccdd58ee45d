-- `malloc`, `calloc`, `realloc` and `free` (7.22.3).
use Rattle.std.specs.Prelude.{ℕ, ℤ, pos, ◌*ℤ◌, true, false, Option, Some, None, is_some, List}
use Rattle.std.specs.Int.{w128, saturate_signed}
use Rattle.cc_base.specs.Lattices.{LatticeOf}
use Rattle.cc_base.specs.IntegerDomains.{IntegersOf, of_range}
use Rattle.cc_base.specs.IntegerTypes.{greatest_of}
use Rattle.cc_base.specs.NumberRanges.{Range, range_met}
use Rattle.c_layout.specs.declared.data_model.Model.{Model}
use Rattle.c_layout.specs.declared.leaf_lists.Class.TheVariants.{Pointer}
use Rattle.pointer_domain.specs.PointerTables.{is_any}
use Rattle.value_domain.specs.declared.values.label_sets.Labels.{Labels}
use Rattle.value_domain.specs.declared.values.values.Value.{Value}
use Rattle.value_domain.specs.declared.values.row_cells.Cell.{Cell}
use Rattle.value_domain.specs.Values.LabelSets.{labels_join}
use Rattle.store.specs.NearValues.{near_number}
use Rattle.store.specs.ScalarTypes.{kind_of}
use Rattle.transfer_checks.specs.declared.allocation_checks.Released.{Released}
use Rattle.transfer_checks.specs.AllocationChecks.{allocation_violations, check_release}
use Rattle.transfer_checks.specs.ViolationSets.{no_violations}
use Rattle.transfer_library_plans.specs.Calls.{Call}
use Rattle.transfer_library_plans.specs.declared.call_plans.Effect.TheVariants as effect
use Rattle.transfer_library_plans.specs.declared.call_plans.Plan.{Plan}
use Rattle.transfer_library_plans.specs.declared.call_plans.Trail.{Trail}
use Rattle.transfer_library_plans.specs.Plans.{trail_of, checked, planned}
use Rattle.transfer_library_plans.specs.Arguments.{argument_value}

-- the trail behind the checks of a size
abbrev pub sized_trail : Range → Labels → Option ℕ → Trail
sized_trail size labels wanted = checked (trail_of (allocation_violations size labels wanted)) no_violations (is_some size)

-- in 128 bits, which products of sizes are
abbrev pub product_of : ℤ → ℤ → ℤ
product_of a b = saturate_signed w128 (a *ℤ b)

-- the numbers that are not negative
abbrev pub from_zero : Range → Range
from_zero None = None
from_zero (Some p) = range_met (Some p) (pos 0) p.1

abbrev pub products_of : Range → Range → Range
products_of None y = None
products_of (Some p) None = None
products_of (Some p) (Some q) = Some (product_of p.0 q.0, product_of p.1 q.1)

-- the products of the numbers of two ranges that are not negative
abbrev pub products : Range → Range → Range
products x y = products_of (from_zero x) (from_zero y)

module _ {I : Type 0} where
  -- the sizes that an instance can have: those asked for, up to the greatest number of ptrdiff_t
  abbrev pub instance_size : LatticeOf I → IntegersOf I → Model → Range → I
  instance_size l n m size = near_number l n (of_range l n (range_met size (pos 0) (greatest_of (kind_of m Pointer true))))

  abbrev pub malloc_of : LatticeOf I → IntegersOf I → Call → Value I → Plan I
  malloc_of l n call v = planned (sized_trail (n.bounds v.num) v.labels call.wanted) (effect.Allocate (instance_size l n call.flow.model (n.bounds v.num)) false)

  unfoldable pub plan_malloc : LatticeOf I → IntegersOf I → Call → List (Cell I) → Plan I
  plan_malloc l n call row = malloc_of l n call (argument_value l n call row 0)

  abbrev pub calloc_of : LatticeOf I → IntegersOf I → Call → Value I → Value I → Plan I
  calloc_of l n call v w =
      planned (sized_trail (products (n.bounds v.num) (n.bounds w.num)) (labels_join v.labels w.labels) call.wanted)
      (effect.Allocate (instance_size l n call.flow.model (products (n.bounds v.num) (n.bounds w.num))) true)

  unfoldable pub plan_calloc : LatticeOf I → IntegersOf I → Call → List (Cell I) → Plan I
  plan_calloc l n call row = calloc_of l n call (argument_value l n call row 0) (argument_value l n call row 1)

  abbrev pub released : LatticeOf I → IntegersOf I → Call → List (Cell I) → Released I
  released l n call row = check_release l n call.flow.bases.items row (argument_value l n call row 0).pointer

  abbrev pub realloc_of : LatticeOf I → IntegersOf I → Call → Value I → Released I → Plan I
  realloc_of l n call v old =
      planned (checked (sized_trail (n.bounds v.num) v.labels call.wanted) old.violations (is_any old.rest))
      (effect.Reallocate (instance_size l n call.flow.model (n.bounds v.num)) old.rest)

  unfoldable pub plan_realloc : LatticeOf I → IntegersOf I → Call → List (Cell I) → Plan I
  plan_realloc l n call row = realloc_of l n call (argument_value l n call row 1) (released l n call row)

  abbrev pub free_of : Released I → Plan I
  free_of old = planned (checked (trail_of no_violations) old.violations (is_any old.rest)) (effect.Free old.rest)

  unfoldable pub plan_free : LatticeOf I → IntegersOf I → Call → List (Cell I) → Plan I
  plan_free l n call row = free_of (released l n call row)
