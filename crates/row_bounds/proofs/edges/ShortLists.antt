-- A list that does not reach the types cuts numbers away.
use Rattle.std.specs.Prelude.{◌≡◌, [], refl}
use Rattle.interval_domain.specs.Intervals.IntervalLattice.{interval_lattice}
use Rattle.interval_domain.specs.Intervals.IntervalNumbers.{interval_numbers}
use Rattle.interval_domain.specs.Intervals.Spans.{between_or_empty}
use Rattle.transfer_system.specs.BoundedRows.FittedRows.{row_fit, cell_fit}
use Rattle.transfer_system.specs.BoundedRows.OwnRows.{bases_below}
use Rattle.transfer_system.specs.BoundedRows.NearLists.{IsNearList}
use Rattle.system_monotone.proofs.systems.RegularPrograms.{near_of}
use Rattle.row_bounds.specs.Edges.ShortLists.{short_list, row_of, minus_one}

pub short_near : IsNearList interval_lattice interval_numbers short_list
short_near = near_of short_list refl

-- -1 becomes no number
pub short_cuts : row_fit interval_lattice interval_numbers short_list [] 1 (row_of minus_one) ≡ row_of interval_lattice.least
unfolding row_fit cell_fit bases_below between_or_empty
short_cuts = refl
