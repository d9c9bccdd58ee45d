-- The row of a system's entry stands for the states in which runs of a unit begin.
use Rattle.std.specs.Prelude.{◌≡◌, ℤ, true, List}
use Rattle.c_layout.specs.CheckedUnits.{UnitView}
use Rattle.cfg.specs.declared.programs.Flow.{Flow}
use Rattle.interval_domain.specs.Intervals.Spans.{Stands}
use Rattle.interval_domain.specs.Intervals.IntervalLattice.{interval_lattice}
use Rattle.interval_domain.specs.Intervals.IntervalNumbers.{interval_numbers}
use Rattle.transfer_system.specs.System.FlowMachines.{has_start}
use Rattle.library_sound.specs.OwnLists.{ReachesTypes}
use Rattle.transfer_system.specs.System.RegularPrograms.{is_regular}
use Rattle.library_sound.specs.CarriedMaps.{EntryInGamma}
use Rattle.entry_sound.specs.Tables.UnitStarts.{StartsAs}

-- of a regular program that has a start row and begins with what is in the unit's tables
abbrev pub EntryRowsStand : Flow → List ℤ → Type 0
EntryRowsStand flow list = is_regular flow list ≡ true → ReachesTypes list → has_start interval_lattice interval_numbers flow ≡ true
    → (u : UnitView) → StartsAs u flow → EntryInGamma interval_lattice interval_numbers Stands flow list u
