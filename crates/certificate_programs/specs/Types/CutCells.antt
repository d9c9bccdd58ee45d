-- Values cut to the types of what they are held in.
use Rattle.std.specs.Prelude.{ℕ, cond, List, [], ◌∷◌, Some, None}
use Rattle.std.specs.List.{slice_get, slice_set}
use Rattle.std.specs.Option.{unwrap_or}
use Rattle.cc_base.specs.NumberRanges.{Range, range_met}
use Rattle.cc_base.specs.IntegerDomains.{of_range}
use Rattle.pointer_domain.specs.declared.pointer_sets.Pointers.{Pointers}
use Rattle.pointer_domain.specs.PointerLattice.{no_pointer}
use Rattle.value_domain.specs.declared.values.values.Value as values
use Rattle.value_domain.specs.declared.values.row_cells.Cell.{Cell}
use Rattle.value_domain.specs.declared.values.row_cells.Cell.TheVariants.{Nothing, Value, First, State, Mixed}
use Rattle.interval_domain.specs.declared.intervals.intervals.Interval.{Interval}
use Rattle.interval_domain.specs.Intervals.Spans.{interval_bounds}
use Rattle.interval_domain.specs.Intervals.IntervalLattice.{interval_lattice}
use Rattle.interval_domain.specs.Intervals.IntervalNumbers.{interval_numbers}
use Rattle.certificate_programs.specs.Types.KindSets.{has_pointers, numbers}

-- ---- one value

-- the numbers of an interval that lie in a range
abbrev pub cut_to : Interval → Range → Interval
cut_to x None = interval_lattice.least
cut_to x (Some p) = of_range interval_lattice interval_numbers (range_met (interval_bounds x) p.0 p.1)

abbrev pub cut_pointer : ℕ → Pointers Interval → Pointers Interval
cut_pointer kinds p = cond (has_pointers kinds) p (no_pointer interval_lattice)

-- the numbers that some of the types have, and the pointers where they are among the types
abbrev pub cut_value : ℕ → values.Value Interval → values.Value Interval
cut_value kinds v = record v { num = cut_to v.num (numbers kinds); pointer = cut_pointer kinds v.pointer }

-- what is no value stays
abbrev pub cut_cell : ℕ → Cell Interval → Cell Interval
cut_cell kinds Nothing = Nothing
cut_cell kinds (Value v) = Value (cut_value kinds v)
cut_cell kinds (First f) = First f
cut_cell kinds (State s) = State s
cut_cell kinds Mixed = Mixed

-- ---- a row

-- the row with the value at a position cut, where there is one
abbrev pub cut_at : ℕ → ℕ → List (Cell Interval) → List (Cell Interval)
cut_at at kinds row = slice_set row at (cut_cell kinds (unwrap_or (slice_get row at) Nothing))

-- the row with the values at positions cut to the types that are given with each
abbrev pub cut_all : List (ℕ × ℕ) → List (Cell Interval) → List (Cell Interval)
cut_all [] row = row
cut_all (p ∷ ps) row = cut_all ps (cut_at p.0 p.1 row)
