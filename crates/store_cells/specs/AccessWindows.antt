-- The offsets at which an access may begin.
use Rattle.std.specs.Prelude.{ℕ, ◌+◌, ◌-◌, ◌^◌, min, max, ℤ, pos, ◌+ℤ◌, ◌-ℤ◌, ◌≤ℤ◌, unsigned_abs, Bool, cond, ◌&&◌, ◌==◌, nat_le, Option, Some, None}
use Rattle.std.specs.Int.{w128, saturate_signed}
use Rattle.cc_base.specs.IntegerDomains.{IntegersOf}
use Rattle.cc_base.specs.NumberRanges.{Range, range_met, upper_or}
use Rattle.pointer_domain.specs.declared.pointer_sets.Pointers.{Pointers}
use Rattle.store_cells.specs.declared.access_windows.Window.{Window}
use Rattle.store_cells.specs.RowPositions.{capped}

-- the greatest offset
abbrev pub last_offset : ℕ
last_offset = 2 ^ 64 - 1

abbrev pub window_between : ℕ → ℕ → Window
window_between lo hi = record { lo = lo; hi = hi }

abbrev pub window_of_range : Range → Option Window
window_of_range None = None
window_of_range (Some p) = Some (window_between (unsigned_abs p.0) (unsigned_abs p.1))

-- both bounds are offsets
abbrev pub LiesInWindow : Range → Type 0
LiesInWindow None = Unit {0}
LiesInWindow (Some p) = ((pos 0 ≤ℤ p.0) × (p.0 ≤ℤ pos last_offset)) × ((pos 0 ≤ℤ p.1) × (p.1 ≤ℤ pos last_offset))

-- the offsets of a range that are not below 0 and fit 64 bits
abbrev pub window_within : Range → Option Window
window_within range = window_of_range (range_met range (pos 0) (pos last_offset))

-- the sums of a number of each; those of near bounds fit 128 bits
abbrev pub added_ranges : Range → Range → Range
added_ranges None y = None
added_ranges (Some p) None = None
added_ranges (Some p) (Some q) = Some (saturate_signed w128 (p.0 +ℤ q.0), saturate_signed w128 (p.1 +ℤ q.1))

module _ {I : Type 0} where
  -- the last place above the lower bound from which `size` bytes stay below the upper bound
  abbrev pub last_place : IntegersOf I → Pointers I → ℕ → ℤ
  last_place n p size = saturate_signed w128 (upper_or (pos 0) (n.bounds p.len) -ℤ pos size)

  -- the lower bound and what is above it
  abbrev pub access_range : IntegersOf I → Pointers I → ℕ → Range
  access_range n p size = added_ranges (n.bounds p.lo) (range_met (n.bounds p.rel) (pos 0) (last_place n p size))

  abbrev pub window_of : IntegersOf I → Pointers I → ℕ → Option Window
  window_of n p size = window_within (access_range n p size)

-- ---- windows

-- the window from lo to hi, where there is one
abbrev pub window_between_if : ℕ → ℕ → Option Window
window_between_if lo hi = cond (nat_le lo hi) (Some (window_between lo hi)) None

-- the offsets of the window from lo to hi
abbrev pub window_met : Window → ℕ → ℕ → Option Window
window_met w lo hi = window_between_if (max w.lo lo) (min w.hi hi)

abbrev pub window_is_one : Window → Bool
window_is_one w = w.lo == w.hi

abbrev pub window_lies_within : Window → ℕ → ℕ → Bool
window_lies_within w lo hi = nat_le lo w.lo && nat_le w.hi hi

-- counted from an earlier offset
abbrev pub window_from : Window → ℕ → Window
window_from w start = window_between (w.lo - start) (w.hi - start)

-- the bytes of an access of a size
abbrev pub window_bytes : Window → ℕ → Window
window_bytes w size = window_between w.lo (capped (w.hi + (size - 1)))
