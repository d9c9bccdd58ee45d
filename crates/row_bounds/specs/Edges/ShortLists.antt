-- A list of numbers that does not go as far down as the integer types.
use Rattle.std.specs.Prelude.{◌^◌, ℤ, pos, negsuc, List, [], ◌∷◌}
use Rattle.interval_domain.specs.declared.intervals.intervals.Interval.{Interval}
use Rattle.interval_domain.specs.Intervals.IntervalLattice.{interval_lattice}
use Rattle.interval_domain.specs.Intervals.IntervalNumbers.{interval_numbers}
use Rattle.value_domain.specs.declared.values.row_cells.Cell.{Cell}
use Rattle.value_domain.specs.declared.values.row_cells.Cell.TheVariants.{Value}
use Rattle.value_domain.specs.Values.LabelSets.{no_labels}
use Rattle.value_domain.specs.Values.ValueTables.{number_value}

-- 0 and 2^64 alone
abbrev pub short_list : List ℤ
short_list = pos 0 ∷ (pos (2 ^ 64) ∷ [])

-- the row of one temporary, with an interval in it
abbrev pub row_of : Interval → List (Cell Interval)
row_of x = Value (number_value interval_lattice x no_labels) ∷ []

abbrev pub minus_one : Interval
minus_one = interval_numbers.one (negsuc 0)
