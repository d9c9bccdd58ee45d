-- Programs whose row of the entry is cut, and programs that have none.
use Rattle.std.specs.Prelude.{◌≡◌, ◌^◌, ◌-◌, ℤ, pos, negsuc, true, false, List, [], ◌∷◌, replicate}
use Rattle.cc_base.specs.Standard.{standard_limits}
use Rattle.cfg.specs.WellFormed.{is_well_formed}
use Rattle.cfg.specs.declared.programs.Flow.{Flow}
use Rattle.interval_domain.specs.Intervals.IntervalLattice.{interval_lattice}
use Rattle.interval_domain.specs.Intervals.IntervalNumbers.{interval_numbers}
use Rattle.value_domain.specs.declared.values.row_cells.Cell.TheVariants.{Nothing}
use Rattle.transfer_system.specs.StartRows.{start_row}
use Rattle.transfer_system.specs.BoundedRows.OwnRows.{is_own_row}
use Rattle.transfer_system.specs.System.FlowMachines.{has_start, known_start}
use Rattle.transfer_system.specs.System.RegularPrograms.{has_scalars, has_apart_members, is_near_list, is_regular}

-- -2^63, 0 and 2^64
abbrev pub type_list : List ℤ
type_list = negsuc (2 ^ 63 - 1) ∷ (pos 0 ∷ (pos (2 ^ 64) ∷ []))

-- a program that is regular but for its texts, whose start makes a row that is no own row
abbrev pub IsCutAtStart : Flow → Type 0
IsCutAtStart flow =
    (is_well_formed standard_limits flow ≡ true)
    × ((has_scalars flow ≡ true) × ((has_apart_members flow ≡ true) × ((is_near_list type_list ≡ true)
    × ((has_start interval_lattice interval_numbers flow ≡ true)
    × (is_own_row interval_lattice interval_numbers type_list flow.bases.items flow.width
    (known_start flow.width
    (start_row interval_lattice interval_numbers flow (replicate flow.width Nothing))) ≡ false)))))

-- a regular program of which a static initializer has no place
abbrev pub IsWithoutStart : Flow → Type 0
IsWithoutStart flow = (is_regular flow type_list ≡ true) × (has_start interval_lattice interval_numbers flow ≡ false)
