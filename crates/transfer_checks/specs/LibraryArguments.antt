-- The pointer arguments of library functions, and the room that they have.
use Rattle.std.specs.Prelude.{ℤ, pos, ◌+ℤ◌, ◌-ℤ◌, int_le, int_lt, Bool, false, cond, ◌&&◌, ◌||◌, Option, Some, None, is_none, List}
use Rattle.std.specs.Int.{w128, saturate_signed, int_min}
use Rattle.cc_base.specs.Lattices.{LatticeOf}
use Rattle.cc_base.specs.IntegerDomains.{IntegersOf}
use Rattle.cc_base.specs.NumberRanges.{Range, range_met, upper_or}
use Rattle.c_layout.specs.declared.shapes.BaseInfo.{BaseInfo}
use Rattle.pointer_domain.specs.declared.base_sets.Bases.{Bases}
use Rattle.pointer_domain.specs.declared.pointer_sets.Pointers.{Pointers}
use Rattle.pointer_domain.specs.BaseSets.{no_base}
use Rattle.pointer_domain.specs.PointerTables.{offsets, rooms}
use Rattle.value_domain.specs.declared.values.row_cells.Cell.{Cell}
use Rattle.store.specs.Window.{Window}
use Rattle.store.specs.AccessWindows.{window_within}
use Rattle.store.specs.NearValues.{near_pointer}
use Rattle.store.specs.LiveBases.{live_of, any_freed, writable_of}
use Rattle.transfer_checks.specs.declared.library_arguments.Argument.{Argument}
use Rattle.transfer_checks.specs.declared.violation_sets.Violations.{Violations}
use Rattle.transfer_checks.specs.ViolationSets.{no_violations}
use Rattle.transfer_checks.specs.Touches.{into_bases, any_literal}

-- some need is above the least room
abbrev pub is_above_room : Range → Range → Bool
is_above_room None room = false
is_above_room (Some need) None = false
is_above_room (Some need) (Some room) = int_lt room.0 need.1

abbrev pub cut_by : Range → Range → Range
cut_by need None = None
cut_by need (Some room) = range_met need (pos 0) room.1

abbrev pub may_be_none : Range → Bool
may_be_none None = false
may_be_none (Some need) = int_le need.0 (pos 0)

-- a write of so many bytes may go into a literal
abbrev pub writes_literal : List BaseInfo → Bases → Range → Bool
writes_literal bases set need = int_le (pos 1) (upper_or (pos 0) need) && any_literal bases set

abbrev pub kept_after : List BaseInfo → Bases → Bool → Bases
kept_after bases set none = cond none set (writable_of bases set)

-- the bases that go on after a write of so many bytes: literals only where none may be written
abbrev pub after_write : List BaseInfo → Bases → Range → Bases
after_write bases set need = cond (is_none need) no_base (kept_after bases set (may_be_none need))

-- sums and differences in 128 bits, which those of near numbers are
abbrev pub sum_of : ℤ → ℤ → ℤ
sum_of a b = saturate_signed w128 (a +ℤ b)

abbrev pub difference_of : ℤ → ℤ → ℤ
difference_of a b = saturate_signed w128 (a -ℤ b)

-- the last byte of `count` bytes from an offset on, below an end
abbrev pub last_touched : ℤ → ℤ → ℤ → ℤ
last_touched offset count end = int_min (sum_of offset (difference_of count (pos 1))) (difference_of end (pos 1))

-- the bytes from the first to the last one, of `count` bytes
abbrev pub touched_between : ℤ → ℤ → ℤ → Option Window
touched_between first last count = cond (int_lt count (pos 1)) None (window_within (range_met (Some (first, last)) first last))

abbrev pub touched_from : Range → ℤ → ℤ → Option Window
touched_from None count end = None
touched_from (Some start) count end = touched_between start.0 (last_touched start.1 count end) count

module _ {I : Type 0} where
  abbrev pub argument_violations : LatticeOf I → IntegersOf I → List BaseInfo → List (Cell I) → Pointers I → Violations
  argument_violations l n bases row p = record no_violations { nullref = p.null || p.ended; accfree = any_freed l n bases row p.bases }

  -- the pointers that are into the bases of a set alone
  abbrev pub within_bases : LatticeOf I → IntegersOf I → Pointers I → Bases → Pointers I
  within_bases l n p set = near_pointer l n (into_bases l n p set p.rel)

  -- what a pointer argument may violate, and the pointers that go on
  unfoldable pub check_argument : LatticeOf I → IntegersOf I → List BaseInfo → List (Cell I) → Pointers I → Argument I
  check_argument l n bases row p = record { violations = argument_violations l n bases row p; rest = within_bases l n p (live_of l n bases row p.bases) }

  abbrev pub passes_room : IntegersOf I → Range → Pointers I → Bool
  passes_room n need p = is_above_room need (rooms n p)

  abbrev pub cut_by_room : IntegersOf I → Range → Pointers I → Range
  cut_by_room n need p = cut_by need (rooms n p)

  -- the greatest upper bound
  abbrev pub end_of : IntegersOf I → Pointers I → ℤ
  end_of n p = sum_of (upper_or (pos 0) (n.bounds p.lo)) (upper_or (pos 0) (n.bounds p.len))

  -- the bytes that a call may touch that goes over so many bytes at most
  unfoldable pub touched_window : IntegersOf I → Pointers I → Range → Option Window
  touched_window n p need = touched_from (offsets n p) (upper_or (pos 0) need) (end_of n p)
