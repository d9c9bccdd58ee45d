-- `memcpy`, `memmove` and `memset`.
use Rattle.std.specs.Prelude.{ℤ, pos, ◌+ℤ◌, ◌-ℤ◌, int_le, Bool, false, cond, not, ◌&&◌, Option, Some, None, is_some, List}
use Rattle.std.specs.Ordering.{int_eq}
use Rattle.std.specs.Int.{w128, saturate_signed, int_rem_euclid}
use Rattle.cc_base.specs.Lattices.{LatticeOf}
use Rattle.cc_base.specs.IntegerDomains.{IntegersOf}
use Rattle.cc_base.specs.NumberRanges.{Range, upper_or}
use Rattle.pointer_domain.specs.declared.pointer_sets.Pointers.{Pointers}
use Rattle.pointer_domain.specs.BaseSets.{bases_empty}
use Rattle.pointer_domain.specs.PointerTables.{offsets}
use Rattle.value_domain.specs.declared.values.values.Value.{Value}
use Rattle.value_domain.specs.declared.values.row_cells.Cell.{Cell}
use Rattle.value_domain.specs.Values.ValueTables.{pointer_value}
use Rattle.store.specs.Window.{Window}
use Rattle.store.specs.AccessWindows.{window_within}
use Rattle.store_objects.specs.LiveBases.{writable_of}
use Rattle.transfer_checks.specs.declared.library_arguments.Argument.{Argument}
use Rattle.transfer_checks.specs.IntegerChecks.{sink_violations}
use Rattle.transfer_checks.specs.ViolationSets.{no_violations}
use Rattle.transfer_checks.specs.LibraryArguments.{cut_by_room, passes_room, after_write, writes_literal, within_bases, touched_window}
use Rattle.transfer_library_plans.specs.Calls.{Call}
use Rattle.transfer_library_plans.specs.declared.call_plans.Effect.{Effect}
use Rattle.transfer_library_plans.specs.declared.call_plans.Effect.TheVariants as effect
use Rattle.transfer_library_plans.specs.declared.call_plans.Plan.{Plan}
use Rattle.transfer_library_plans.specs.declared.call_plans.Trail.{Trail}
use Rattle.transfer_library.specs.declared.memory_calls.Target.{Target}
use Rattle.transfer_library_plans.specs.Plans.{trail_of, checked, planned}
use Rattle.transfer_library_plans.specs.Arguments.{argument_value, room_violations, literal_violations}
use Rattle.transfer_library_plans.specs.Outputs.{argument_at, given_trail}
use Rattle.transfer_library_writes.specs.CopyWrites.{bytes_of_source}

-- the bytes that are surely touched: from the last place where the write can begin to the first one
-- where it can end
abbrev pub last_sure : ℤ → ℤ → ℤ
last_sure lo least = saturate_signed w128 (saturate_signed w128 (lo +ℤ least) -ℤ pos 1)

abbrev pub sure_between : ℤ → ℤ → Option Window
sure_between hi last = cond (int_le hi last) (window_within (Some (hi, last))) None

abbrev pub sure_window : Range → Range → Option Window
sure_window None count = None
sure_window (Some start) None = None
sure_window (Some start) (Some count) = sure_between start.1 (last_sure start.0 count.0)

abbrev pub lower_of : Range → ℤ
lower_of None = pos 0
lower_of (Some p) = p.0

abbrev pub is_zero_range : Range → Bool
is_zero_range None = false
is_zero_range (Some p) = int_eq p.0 p.1 && int_eq (int_rem_euclid p.0 (pos 256)) (pos 0)

-- no more than one byte is written
abbrev pub is_one_byte : Range → Bool
is_one_byte count = int_le (upper_or (pos 0) count) (pos 1)

module _ {I : Type 0} where
  -- the trail behind the check of the room of a pointer for a count of bytes, and what of it is left
  abbrev pub room_trail : IntegersOf I → Trail → Pointers I → Range → Trail
  room_trail n trail p need = checked trail (room_violations (passes_room n need p)) (is_some (cut_by_room n need p))

  -- the check that no literal is written
  abbrev pub target_of : LatticeOf I → IntegersOf I → Call → Trail → Pointers I → Range → Target I
  target_of l n call trail p need = record {
    trail = checked trail (literal_violations (writes_literal call.flow.bases.items p.bases need)) (not (bases_empty (after_write call.flow.bases.items p.bases need)));
    rest = within_bases l n p (after_write call.flow.bases.items p.bases need);
    count = need;
  }

  -- no byte can be written: the call goes on where none need be
  abbrev pub nothing_written : LatticeOf I → Target I → Effect I
  nothing_written l target = cond (int_le (pos 1) (lower_of target.count)) effect.Unreached (effect.Result (pointer_value l target.rest))

  -- ---- memcpy and memmove

  abbrev pub copy_in_window : LatticeOf I → IntegersOf I → Call → List (Cell I) → Argument I → Target I → Option Window → Effect I
  copy_in_window l n call row from target None = nothing_written l target
  copy_in_window l n call row from target (Some w) =
      effect.Copy (record {
        bases = writable_of call.flow.bases.items target.rest.bases;
        window = w;
        bytes = bytes_of_source l n call.flow row from.rest.bases (touched_window n from.rest target.count);
      }) (pointer_value l target.rest)

  abbrev pub copy_to : LatticeOf I → IntegersOf I → Call → List (Cell I) → Argument I → Target I → Plan I
  copy_to l n call row from target = planned target.trail (copy_in_window l n call row from target (touched_window n target.rest target.count))

  abbrev pub both_given : Value I → Argument I → Argument I → Trail
  both_given v to from = given_trail (given_trail (trail_of (sink_violations v.labels)) to) from

  abbrev pub copy_both : LatticeOf I → IntegersOf I → Call → List (Cell I) → Value I → Argument I → Argument I → Plan I
  copy_both l n call row v to from =
      copy_to l n call row from
      (target_of l n call
      (room_trail n (room_trail n (both_given v to from) to.rest (n.bounds v.num)) from.rest (cut_by_room n (n.bounds v.num) to.rest))
      to.rest (cut_by_room n (cut_by_room n (n.bounds v.num) to.rest) from.rest))

  unfoldable pub plan_copy : LatticeOf I → IntegersOf I → Call → List (Cell I) → Plan I
  plan_copy l n call row = copy_both l n call row (argument_value l n call row 2) (argument_at l n call row 0) (argument_at l n call row 1)

  -- ---- memset

  -- each number of the value is 0 modulo 256
  abbrev pub is_zero_byte : IntegersOf I → Value I → Bool
  is_zero_byte n c = is_zero_range (n.bounds c.num)

  abbrev pub fill_effect : LatticeOf I → IntegersOf I → Call → Target I → Value I → Window → Window → Effect I
  fill_effect l n call target c w start =
      effect.Fill (record {
        bases = writable_of call.flow.bases.items target.rest.bases;
        start = start;
        window = w;
        sure = sure_window (offsets n target.rest) target.count;
        one_byte = is_one_byte target.count;
        zero = is_zero_byte n c;
        labels = c.labels;
        least = lower_of target.count;
      }) (pointer_value l target.rest)

  abbrev pub fill_in_window : LatticeOf I → IntegersOf I → Call → Target I → Value I → Option Window → Option Window → Effect I
  fill_in_window l n call target c (Some w) (Some start) = fill_effect l n call target c w start
  fill_in_window l n call target c None start = nothing_written l target
  fill_in_window l n call target c (Some w) None = nothing_written l target

  abbrev pub fill_to : LatticeOf I → IntegersOf I → Call → Value I → Target I → Plan I
  fill_to l n call c target = planned target.trail (fill_in_window l n call target c (touched_window n target.rest target.count) (window_within (offsets n target.rest)))

  -- the trail behind the character, the size and the pointer
  abbrev pub fill_trail : IntegersOf I → Value I → Value I → Argument I → Trail
  fill_trail n c v to = given_trail (checked (trail_of (sink_violations v.labels)) no_violations (is_some (n.bounds c.num))) to

  abbrev pub fill_given : LatticeOf I → IntegersOf I → Call → Value I → Value I → Argument I → Plan I
  fill_given l n call c v to =
      fill_to l n call c
      (target_of l n call (room_trail n (fill_trail n c v to) to.rest (n.bounds v.num)) to.rest (cut_by_room n (n.bounds v.num) to.rest))

  unfoldable pub plan_fill : LatticeOf I → IntegersOf I → Call → List (Cell I) → Plan I
  plan_fill l n call row = fill_given l n call (argument_value l n call row 1) (argument_value l n call row 2) (argument_at l n call row 0)
