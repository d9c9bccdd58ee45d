-- The greatest and the least row of a program whose numbers are those of certificates.
use Rattle.std.specs.Prelude.{ℤ, pos, negsuc, ◌-◌, ◌^◌, List, [], ◌∷◌, map, replicate}
use Rattle.interval_domain.specs.declared.intervals.intervals.Interval.{Interval}
use Rattle.interval_domain.specs.Intervals.IntervalLattice.{interval_lattice}
use Rattle.interval_domain.specs.Intervals.IntervalNumbers.{interval_numbers}
use Rattle.value_domain.specs.declared.values.row_cells.Cell.{Cell}
use Rattle.value_domain.specs.declared.values.row_cells.Cell.TheVariants.{Nothing, Value, First, State, Mixed}
use Rattle.value_domain.specs.Values.Values.{value_lattice}
use Rattle.value_domain.specs.Values.AllocStates.{state_lattice}
use Rattle.value_domain.specs.Strings.FirstZeros.{zero_lattice}
use Rattle.cfg.specs.declared.programs.Flow.{Flow}
use Rattle.transfer_system.specs.BoundedRows.FittedRows.{row_fit}

-- the bounds of a certificate lie between these, -2^64 and 2^64
abbrev pub cert_numbers : List ℤ
cert_numbers = negsuc (2 ^ 64 - 1) ∷ (pos (2 ^ 64) ∷ [])

-- each cell is the greatest one of the kind that its position has
unfoldable pub greatest_row : Flow → List (Cell Interval)
greatest_row flow = row_fit interval_lattice interval_numbers cert_numbers flow.bases.items flow.width (replicate flow.width Nothing)

-- the least cell of the same kind
abbrev pub emptied : Cell Interval → Cell Interval
emptied Nothing = Nothing
emptied (Value v) = Value (value_lattice interval_lattice).least
emptied (First f) = First (zero_lattice interval_lattice).least
emptied (State s) = State (state_lattice interval_lattice).least
emptied Mixed = Nothing

-- each cell is the least one of the kind that its position has
abbrev pub least_row : List (Cell Interval) → List (Cell Interval)
least_row greatest = map emptied greatest
