-- Which cells may have a line, and where.
use Rattle.std.specs.Prelude.{ℕ, ◌+◌, Bool, true, not, ◌&&◌, nat_lt, nat_le, List, length, slice_index_or}
use Rattle.interval_domain.specs.declared.intervals.intervals.Interval.{Interval}
use Rattle.interval_domain.specs.Intervals.IntervalLattice.{interval_lattice}
use Rattle.interval_domain.specs.Intervals.IntervalNumbers.{interval_numbers}
use Rattle.value_domain.specs.declared.values.row_cells.Cell.{Cell}
use Rattle.value_domain.specs.declared.values.row_cells.Cell.TheVariants.{Nothing, Value, First, State, Mixed}
use Rattle.value_domain.specs.Values.Cells.{cell_leq}
use Rattle.transfer_system.specs.BoundedRows.OwnRows.{is_consistent}
use Rattle.certificate_text.specs.Maps.LeastCells.{is_least}

-- a pointer has bounds exactly where it has a base, and no part without one
abbrev pub is_consistent_cell : Cell Interval → Bool
is_consistent_cell Nothing = true
is_consistent_cell (Value v) = is_consistent interval_numbers v.pointer
is_consistent_cell (First f) = true
is_consistent_cell (State s) = true
is_consistent_cell Mixed = true

-- an own cell that has a line: at or below the greatest one of its position, and not the least of its kind
abbrev pub has_line : Cell Interval → Cell Interval → Bool
has_line greatest cell = cell_leq interval_lattice cell greatest && (not (is_least cell) && is_consistent_cell cell)

-- a cell at a position from one on, with room for so many behind it
abbrev pub has_place : List (Cell Interval) → ℕ → ℕ → ℕ → Cell Interval → Bool
has_place greatest owed from at cell = nat_le from at && (nat_lt (at + owed) (length greatest) && has_line (slice_index_or greatest at Nothing) cell)
